-- `collect` meets its contract, which is `collect_by`'s.
use Rattle.std.proofs.Common.{rules}
use Rattle.model.specs.Entry.{collection}
use Rattle.ftl.proofs.Guards.{left_as}
use Rattle.ftl.proofs.collect.Goals as goal

pub returns-clause-answered : goal.returns-clause-answered
unfolding collection
returns-clause-answered c = left_as (search rules) c.collect_by.ensures.answered

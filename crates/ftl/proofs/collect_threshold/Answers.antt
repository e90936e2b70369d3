-- `collect_threshold` meets its contract, which is `collect_by`'s.
use Rattle.std.proofs.Common.{rules}
use Rattle.model.specs.Entry.{threshold_collection}
use Rattle.ftl.proofs.Guards.{left_as}
use Rattle.ftl.proofs.collect_threshold.Goals as goal

pub returns-clause-answered : goal.returns-clause-answered
unfolding threshold_collection
returns-clause-answered c = left_as (search rules) c.collect_by.ensures.answered

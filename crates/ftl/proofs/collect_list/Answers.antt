-- `collect_list` meets its contract, which is `collect_by`'s.
use Rattle.std.proofs.Common.{rules}
use Rattle.model.specs.Entry.{list_collection}
use Rattle.model.specs.PageGc.{collect_list}
use Rattle.ftl.proofs.Guards.{left_as}
use Rattle.ftl.proofs.collect_list.Goals as goal

pub returns-clause-answered : goal.returns-clause-answered
unfolding list_collection collect_list
returns-clause-answered c = left_as (search rules) c.collect_by.ensures.answered

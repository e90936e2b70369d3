-- The first word is x: `push_end`.
use Rattle.std.proofs.Common.{ap, ◌∙◌, set}
use Rattle.page_map.proofs.Parts.{push_end}
use Rattle.page_map.proofs.push_front.Goals as goal

pub returns : goal.returns
returns c = ap (λ q. set q 0 c.args.x) c.copy_within.ensures.after ∙ push_end c.args.x c.args.queue.now c.requires

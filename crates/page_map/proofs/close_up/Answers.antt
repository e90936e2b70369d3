-- The last word is a zero: `close_end`.
use Rattle.std.proofs.Common.{ap, ◌∙◌, ◌-◌, set, length}
use Rattle.page_map.proofs.Parts.{close_end}
use Rattle.page_map.proofs.close_up.Goals as goal

pub returns : goal.returns
returns c = ap (λ s. set s (length c.args.slot.now - 1) 0) c.copy_within.ensures.after ∙ close_end c.args.slot.now c.args.i c.requires

-- `device::FlashMut::clear_up` meets its contract. Assumes nothing.
use Rattle.std.proofs.Common.{ap, ◌∙◌}
use Rattle.model.specs.Lists.{blank}
use Rattle.device.proofs.Laws.{rest_is}
use Rattle.device.proofs.FlashMut.clear_up.Goals as goal

pub returns : goal.returns
returns c =
    let f = c.args.self.now in
    λ counts. c.blank.ensures ∙ ap blank (rest_is f.geo _ _ c.requires.in_bounds.1 f.marks.now)

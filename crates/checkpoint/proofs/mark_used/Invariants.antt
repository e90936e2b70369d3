-- So far the marks of the first g segments are laid in.
use Rattle.std.proofs.Common.{◌≡◌, take}
use Rattle.model.specs.Lists.{splice}
use Rattle.model.specs.Checkpoint.{used_by}
use Rattle.checkpoint.proofs.mark_used.Given as goal

abbrev pub invariant-loop-g : goal.invariant-loop-g
invariant-loop-g l = l.used ≡ splice 0 (used_by l.p (take l.g l.free)) l.fn.used

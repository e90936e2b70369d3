-- So far the first i words are laid in.
use Rattle.std.proofs.Common.{◌≡◌, take}
use Rattle.model.specs.Lists.{splice}
use Rattle.model.specs.Checkpoint.{words}
use Rattle.checkpoint.proofs.put_words.Given as goal

abbrev pub invariant-loop-i : goal.invariant-loop-i
invariant-loop-i l = l.d ≡ splice l.at (words (take l.i l.ws)) l.fn.d

-- So far the first i words are read.
use Rattle.std.proofs.Common.{◌≡◌, take}
use Rattle.model.specs.Checkpoint.{words_at}
use Rattle.checkpoint.proofs.get_words.Given as goal

abbrev pub invariant-loop-i : goal.invariant-loop-i
invariant-loop-i l = take l.i l.x-items ≡ words_at l.i l.s l.at

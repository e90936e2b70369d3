-- The numbers before this place of the row are read.
use Rattle.numbers.proofs.Rows.{Reading}
use Rattle.numbers.proofs.row.Given as goal

abbrev pub invariant-loop-x : goal.invariant-loop-x
invariant-loop-x g l = Reading l.s g.row.N l.fn.at l.x-items l.x-index l.next

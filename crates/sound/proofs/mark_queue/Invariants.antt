-- Each entry that was passed is right, and the marks are those of the segments passed.
use Rattle.std.proofs.Common.{ℕ, length, drop, ◌≡◌, ◌<◌}
use Rattle.model.specs.Tables.{at}
use Rattle.sound.proofs.Marked.{Marked}
use Rattle.sound.proofs.Passed.{Full}
use Rattle.sound.proofs.mark_queue.Given as goal

abbrev pub invariant-loop-q : goal.invariant-loop-q
invariant-loop-q l = record {
  kept : drop (length l.free) l.seen ≡ drop (length l.free) l.fn.seen;
  each : (j : ℕ) → j < l.q-index → Full l.queue l.free l.flags j;
  marked : Marked (at l.queue) l.q-index l.seen;
}

-- Each entry that was passed is right, and the marks are those of the pages passed.
use Rattle.std.proofs.Common.{ℕ, drop, ◌≡◌, ◌<◌}
use Rattle.sound.proofs.Marked.{Marked}
use Rattle.sound.proofs.Passed.{Entry, page_key}
use Rattle.sound.proofs.Home.mark.Given as goal

abbrev pub invariant-loop-l : goal.invariant-loop-l
invariant-loop-l l = record {
  kept : drop l.self.used l.seen ≡ drop l.self.used l.fn.seen;
  each : (j : ℕ) → j < l.l-index → Entry l.list l.self.map.now l.self.first l.self.used j;
  marked : Marked (page_key l.list l.self.map.now l.self.first) l.l-index l.seen;
}

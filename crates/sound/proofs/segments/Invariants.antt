-- Each segment that was passed is right, and the marks are as they came.
use Rattle.std.proofs.Common.{ℕ, ◌≡◌, ◌<◌}
use Rattle.sound.specs.Steps.{Segment}
use Rattle.tables.specs.Parts.{tables_in}
use Rattle.sound.proofs.segments.Given as goal

abbrev pub invariant-loop-g : goal.invariant-loop-g
invariant-loop-g l = record {
  kept : l.seen ≡ l.fn.seen;
  each : (k : ℕ) → k < l.g → Segment l.tables.geo (tables_in l.tables) k;
}

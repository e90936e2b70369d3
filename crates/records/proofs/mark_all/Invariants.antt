-- Marking from the start ends as marking from here.
use Rattle.std.proofs.Common.{◌≡◌, ◌-◌, true}
use Rattle.records.specs.Trace.{marking}
use Rattle.records.proofs.mark_all.Given as goal

abbrev pub invariant-loop : goal.invariant-loop
invariant-loop l = marking l.xs l.n l.count l.at true l.initial.bad ≡ marking l.xs l.n (l.count - l.counter) l.next l.inside l.bad

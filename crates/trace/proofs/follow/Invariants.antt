-- `follow` ends: each record ends behind the place where it begins. What is lent stays where it lies.
use Rattle.std.proofs.Common.{◌-◌, length}
use Rattle.deeds.specs.Kept.{Same}
use Rattle.trace.proofs.follow.Given as goal

abbrev pub invariant-loop-at : goal.invariant-loop-at
invariant-loop-at g l = Same l.initial.kept l.kept

abbrev pub decreases-loop-at : goal.decreases-loop-at
decreases-loop-at g l = length l.xs - l.at

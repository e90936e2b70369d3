-- The flag says whether every element passed is v.
use Rattle.std.proofs.Common.{take, ◌≡◌}
use Rattle.std.specs.List.{list_all}
use Rattle.sound.proofs.every.Given as goal

abbrev pub invariant-loop-x : goal.invariant-loop-x
invariant-loop-x g l = l.same ≡ list_all (λ x. g.T.PartialEq.eq x l.v) (take l.x-index l.s)

-- Each call has one group fewer allowed.
use Rattle.numbers.proofs.+groups.Given as goal

abbrev pub decreases-groups : goal.decreases-groups
decreases-groups l = l.allowed

-- The tests are those of `good?`, in its order.
use Rattle.std.proofs.Common.{arith}
use Rattle.std.proofs.lemmas.Bool.Decides.{nat_tests}
use Rattle.model.specs.Lists.{every}
use Rattle.model.specs.Numbers.{good?}
use Rattle.sound.proofs.good.Goals as goal

pub returns-then-contains-4 : goal.returns-then-contains-4
unfolding good? every
returns-then-contains-4 c = grind (arith, nat_tests)

pub returns-else-contains-4 : goal.returns-else-contains-4
unfolding good? every
returns-else-contains-4 c = grind (arith, nat_tests)

-- A trace's device fits the memory: its geometry is good, and the memory at hand is enough.
use Prim.Native.Nat.{◌*◌, ◌≤◌}
use mathlib.Core.Path.{◌≡◌}
use mathlib.Core.Bool.{Bool, true, ◌&&◌}
use lib.Dec.{leb}
use native.Mathlib.Omega.{arith}
use native.Mathlib.Nat.{mul-le-mul, le_refl}
use borrow.Author.Tests.{leb-true}
use Rattle.model.specs.declared.Geometry.{Geometry}
use Rattle.model.specs.Numbers.{Good, good?}
use Rattle.model.specs.Tables.{pages, tab_words}
use Rattle.model.proofs.Guard.{both, good_test}
use Rattle.records.specs.Trace.{small?}
use Rattle.lending.specs.Does.{Small}

module _ (G : Geometry) (e : small? G ≡ true) where
  abbrev within : Bool
  within = leb G.s 512 && leb (pages G * G.s) 32768

  pub good : Good G
  good = good_test G (both (good? G) (leb (pages G) 1024 && within) e).0

  sizes : (leb (pages G) 1024 && within) ≡ true
  sizes = (both (good? G) (leb (pages G) 1024 && within) e).1

  pub few : pages G ≤ 1024
  few = leb-true (pages G) 1024 (both (leb (pages G) 1024) within sizes).0

  bytes : within ≡ true
  bytes = (both (leb (pages G) 1024) within sizes).1

  pub short : G.s ≤ 512
  short = leb-true G.s 512 (both (leb G.s 512) (leb (pages G * G.s) 32768) bytes).0

  pub flat : pages G * G.s ≤ 32768
  flat = leb-true (pages G * G.s) 32768 (both (leb G.s 512) (leb (pages G * G.s) 32768) bytes).1

  pub segments : G.n ≤ 1024
  segments = omega (arith, few, mul-le-mul (le_refl G.n) good.p≥)

  in_each : G.p ≤ 1024
  in_each = omega (arith, few, mul-le-mul good.n≥ (le_refl G.p))

  pub small : Small G
  small = record { n≤ = segments; p≤ = in_each; s≤ = short; pages≤ = few }

  pub words : tab_words G ≤ 7170
  words = omega (arith, few, segments, good.e≤)

-- what a search is told of it
pub ruleset taken = (good, few, short, flat, segments, small, words)

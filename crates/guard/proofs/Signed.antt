-- A small number negated, as a signed word.
use Prim.Native.Nat.{ℕ, zero, suc, ◌<◌}
use native.Mathlib.Omega.{arith}
use mir.Syntax.{w64}
use mir.Val.{SFits}
use Rattle.model.specs.Numbers.{negated}

pub small : (n : ℕ) → n < 4096 → SFits w64 (negated n)
small zero h = record { sfits = omega arith }
small (suc k) h = record { sfits = omega arith }

-- A test's answer, carried from one proposition to another.
use mathlib.Core.Path.{◌≡◌}
use mathlib.Core.Bool.{Bool, true, false}
use Rattle.model.proofs.Official.{Says}

-- an answer that says P says Q, if P gives Q and Q gives P
pub says_iff : {P Q : Type 0} (r : Bool) → (P → Q) → (Q → P) → Says r P → Says r Q
says_iff true f g h = f h
says_iff false f g h = λ q. h (g q)

-- a test that passed, where P holds
pub says_holds : {P : Type 0} (r : Bool) → r ≡ true → P → Says r P
says_holds true e p = p
says_holds false e p = cc

-- a test that failed, where Q would have it pass
pub says_not : {Q : Type 0} (r : Bool) → r ≡ false → (Q → ⊥) → Says r Q
says_not true e f = cc
says_not false e f = f

-- what a test says that passed, and one that failed
pub says_passed : {P : Type 0} (r : Bool) → r ≡ true → Says r P → P
says_passed true e s = s
says_passed false e s = cc

pub says_failed : {P : Type 0} (r : Bool) → r ≡ false → Says r P → P → ⊥
says_failed true e s p = cc
says_failed false e s p = s p

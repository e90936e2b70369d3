-- Tests, one and in a row.
use Prim.Native.Nat.{ℕ}
use mathlib.Core.Path.{◌≡◌, refl, sym, ap, ◌∙◌}
use mathlib.Core.Bool.{Bool, true, false, ◌&&◌}
use mathlib.Core.List.{List, [], ◌∷◌}
use lib.Dec.{eqb}
use lib.ListN.{length, get_or}
use Rattle.model.specs.Lists.{every, blank}
use Rattle.model.specs.Entry.{clean}
use Rattle.model.proofs.Refusals.{every_not}

-- a test that answers what it should, and what it answered
pub told : {r t b : Bool} → r ≡ t → r ≡ b → t ≡ b
told e f = sym e ∙ f

-- a row of tests: one that fails, one that passes, and the last, of scratch
pub fails : (bs : List Bool) (i : ℕ) → get_or bs i true ≡ false → false ≡ every bs
fails bs i e = sym (every_not bs i e)

pub rest : {r : Bool} (b : Bool) (bs : List Bool) → b ≡ true → r ≡ every bs → r ≡ every (b ∷ bs)
unfolding every
rest b bs e f = f ∙ sym (ap (λ (c : Bool). c && every bs) e)

and_true : (b : Bool) → (b && true) ≡ b
and_true true = refl
and_true false = refl

pub scratch_test : {r : Bool} (k : ℕ) (s : List ℕ) → r ≡ (eqb (length s) k && blank s) → r ≡ every (clean (k ∷ []) (s ∷ []) ∷ [])
unfolding every clean
scratch_test k s e = e ∙ sym (and_true ((eqb (length s) k && blank s) && true) ∙ and_true (eqb (length s) k && blank s))

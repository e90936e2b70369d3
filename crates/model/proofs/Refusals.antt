-- How an entry's guard ends, for the proofs of code: the first test that fails gives its refusal, and nothing is changed.
use Prim.Native.Nat.{ℕ, zero, suc}
use mathlib.Core.Path.{◌≡◌, refl}
use mathlib.Core.Bool.{Bool, true, false}
use mathlib.Core.List.{List, [], ◌∷◌}
use lib.ListN.{get_or}
use lib.IntN.{ℤ}
use Rattle.model.specs.Lists.{every}
use Rattle.model.specs.Numbers.{Numbers, Err, Cause, Wrong, Unsound, number}
use Rattle.model.specs.Entry.{Lent, Outcome, PromiseIn, refused, unless, guarded}

-- one test of a list fails
pub every_not : (bs : List Bool) (i : ℕ) → get_or bs i true ≡ false → every bs ≡ false
unfolding every
every_not [] i e = e
every_not (b ∷ bs) zero e = rw e
every_not (true ∷ bs) (suc i) e = every_not bs i e
every_not (false ∷ bs) (suc i) e = refl

-- a refusal that changes nothing
pub promised : {N : Numbers} {c : Cause} {x : Lent} {r : ℤ} → r ≡ number N (Err c) → PromiseIn N (refused c x) x r
promised e = record { left_is = refl; answer_is = e }

module _ (a b c d : Bool) (x : Lent) (o : Outcome) where
  pub guarded_sizes : a ≡ false → guarded a b c d x o ≡ refused Wrong x
  unfolding guarded unless
  guarded_sizes e = rw e

  pub guarded_sound : a ≡ true → b ≡ false → guarded a b c d x o ≡ refused Unsound x
  unfolding guarded unless
  guarded_sound p e = rw (p, e)

  pub guarded_page : a ≡ true → b ≡ true → c ≡ false → guarded a b c d x o ≡ refused Wrong x
  unfolding guarded unless
  guarded_page p q e = rw (p, q, e)

  pub guarded_overrun : a ≡ true → b ≡ true → c ≡ true → d ≡ false → guarded a b c d x o ≡ refused Wrong x
  unfolding guarded unless
  guarded_overrun p q r e = rw (p, q, r, e)

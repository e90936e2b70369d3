-- Tests that all pass: of a list, and at each number below n.
use Prim.Native.Nat.{ℕ, zero, suc, ◌<◌}
use native.Mathlib.Omega.{arith}
use mathlib.Core.Path.{◌≡◌, refl}
use mathlib.Core.Bool.{Bool, true, false, cond, ◌&&◌}
use mathlib.Core.Logic.{◌⊎◌, inl, inr, ◌≢◌}
use mathlib.Core.List.{List, [], ◌∷◌}
use lib.Dec.{T}
use lib.ListN.{get_or}
use Rattle.model.specs.Lists.{all, every}
use Rattle.model.proofs.Slots.{same?}

pub T→true : (b : Bool) → T b → b ≡ true
T→true true h = refl
T→true false h = absurd h

pub both : (a b : Bool) → (a && b) ≡ true → (a ≡ true) × (b ≡ true)
both true b e = (refl, e)
both false b e = absurd (let z : ◌≡◌ {A = ℕ} 0 1 = cc in omega arith)

-- every test of a list passes: each of them does
pub each : (bs : List Bool) → every bs ≡ true → (i : ℕ) → get_or bs i true ≡ true
unfolding every
each [] h i = refl
each (b ∷ bs) h zero = (both b (every bs) h).0
each (b ∷ bs) h (suc i) = each bs (both b (every bs) h).1 i

-- a test passes at each number below n, both ways
pub at_all : (n : ℕ) (f : ℕ → Bool) → all n f ≡ true → (i : ℕ) → i < n → f i ≡ true
unfolding all
at_all zero f h i b = absurd (omega arith)
at_all (suc n) f h i b = go (same? i n) (both (f n) (all n f) h) (λ r c. at_all n f r i c)
  where
    go : (i ≡ n) ⊎ (i ≢ n) → (f n ≡ true) × (all n f ≡ true) → (all n f ≡ true → i < n → f i ≡ true) → f i ≡ true
    go (inl e) s ih = rw e s.0
    go (inr m) s ih = ih s.1 (omega arith)

pub for_all : (n : ℕ) (f : ℕ → Bool) → ((i : ℕ) → i < n → f i ≡ true) → all n f ≡ true
unfolding all
for_all zero f h = refl
for_all (suc n) f h = rw (h n (omega arith)) (for_all n f (λ i b. h i (omega arith)))

-- a test that is made only where another passes, both ways
pub under : (a b : Bool) → cond a b true ≡ true → a ≡ true → b ≡ true
under a b h e = rw e at h

pub over : (a b : Bool) → (a ≡ true → b ≡ true) → cond a b true ≡ true
over true b f = f refl
over false b f = refl

-- How an entry's first tests end: the geometry's, and those of the sizes behind it.
use Prim.Native.Nat.{ℕ}
use mathlib.Core.Path.{◌≡◌, refl, sym, ap, ◌∙◌, subst}
use mathlib.Core.Bool.{Bool, true, false, ◌&&◌}
use mathlib.Core.List.{List, [], ◌∷◌}
use lib.Dec.{eqb}
use lib.ListN.{length}
use Rattle.model.specs.Lists.{every, blank, zeros}
use Rattle.model.specs.declared.Geometry.{Geometry}
use Rattle.model.specs.declared.Cause.{Cause}
use Rattle.model.specs.declared.Cause.TheVariants.{Wrong}
use Rattle.model.specs.Numbers.{Answer, Err}
use Rattle.model.specs.Numbers.{good?}
use Rattle.model.specs.Entry.{Lent, Outcome, Answered, refused, unless, guarded, clean}
use Rattle.model.proofs.Refusals.{guarded_sizes}
use Rattle.model.proofs.Guard.{both}
use Rattle.ftl.proofs.Passing.{clean-zeros}

-- a promise of an outcome is one of the same outcome by another name
pub by : {o o' : Outcome} {y : Lent} {r : Answer} → o ≡ o' → Answered o' y r → Answered o y r
by {y = y} {r = r} e = subst (λ o. Answered o y r) (sym e)

-- and of what is left by another name
pub left_as : {o : Outcome} {y y' : Lent} {r : Answer} → y ≡ y' → Answered o y r → Answered o y' r
left_as {o = o} {r = r} e = subst (λ y. Answered o y r) e

-- a refusal that changes nothing
pub answered : {c : Cause} {x : Lent} → Answered (refused c x) x (Err c)
answered = record { left_is = refl; answer_is = refl }

-- refused by a test behind the guard
pub unless_fails : (b : Bool) (c : Cause) (x : Lent) (o : Outcome) → b ≡ false → unless b c x o ≡ refused c x
unfolding unless
unless_fails b c x o e = rw e

module _ (G : Geometry) (ts : List Bool) where
  pub all_sizes : good? G ≡ true → every ts ≡ true → every (good? G ∷ ts) ≡ true
  unfolding every
  all_sizes g e = rw (g, e)

  not_sizes : every ts ≡ false → every (good? G ∷ ts) ≡ false
  unfolding every
  not_sizes e = go (good? G)
    where
      go : (b : Bool) → (b && every ts) ≡ false
      go true = e
      go false = refl

  module _ (b c d : Bool) (x : Lent) (o : Outcome) where
    -- refused for the geometry, and for a size
    pub bad_geometry : good? G ≡ false → Answered (guarded (every (good? G ∷ ts)) b c d x o) x (Err Wrong)
    unfolding every
    bad_geometry e = by (guarded_sizes (every (good? G ∷ ts)) b c d x o (rw e)) answered

    pub bad_size : every ts ≡ false → Answered (guarded (every (good? G ∷ ts)) b c d x o) x (Err Wrong)
    bad_size e = by (guarded_sizes (every (good? G ∷ ts)) b c d x o (not_sizes e)) answered

-- clean scratch is zeros
pub clean_is : (k : ℕ) (s : List ℕ) → clean (k ∷ []) (s ∷ []) ≡ true → s ≡ zeros k
unfolding clean
clean_is k s e = clean-zeros k s (both (eqb (length s) k && blank s) true e).0

-- scratch that was clean, and is zeros again, comes back
pub handed_back : (k : ℕ) (s s' : List ℕ) → clean (k ∷ []) (s ∷ []) ≡ true → s' ≡ zeros k → ◌≡◌ {A = List (List ℕ)} (s' ∷ []) (s ∷ [])
handed_back k s s' e z = ap (λ (m : List ℕ). m ∷ []) (z ∙ sym (clean_is k s e))

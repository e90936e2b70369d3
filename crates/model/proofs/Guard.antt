-- What the tests of the public entries say when they pass, and how a fact of an entry is shown: of each refusal, and of the deed.
use Prim.Native.Nat.{ℕ, zero, suc, ◌*◌}
use mathlib.Core.Path.{◌≡◌, refl, ap, ◌∙◌}
use mathlib.Core.Bool.{Bool, true, false, ◌&&◌}
use mathlib.Core.List.{List, [], ◌∷◌}
use lib.Dec.{eqb}
use lib.ListN.{length, get_or, length-replicate}
use borrow.Author.Tests.{leb-true, eqb-true, le-leb, eq-eqb}
use Rattle.model.specs.Lists.{every, blank, zeros}
use Rattle.model.specs.Numbers.{Geometry, Good, good_tests, good?, Cause, Wrong, Unsound}
use Rattle.model.specs.Tables.{tab_words, pages}
use Rattle.model.specs.Device.{Flash}
use Rattle.model.specs.Entry.{Lent, Outcome, refused, unless, guarded, clean, tables_fit, flash_fits}
use Rattle.model.specs.Contract.{Fit}
pub use Rattle.model.proofs.Tests.{both, each}

-- the geometry's test, both ways
pub good_test : (G : Geometry) → good? G ≡ true → Good G
unfolding good?
good_test G e =
    let t : (i : ℕ) → get_or (good_tests G) i true ≡ true = each (good_tests G) e in
    record {
      n≥ = leb-true _ _ (t 0);
      n≤ = leb-true _ _ (t 1);
      p≥ = leb-true _ _ (t 2);
      p≤ = leb-true _ _ (t 3);
      s≥ = leb-true _ _ (t 4);
      s≤ = leb-true _ _ (t 5);
      w≤ = leb-true _ _ (t 6);
      narrow = leb-true _ _ (t 7);
      e≥ = leb-true _ _ (t 8);
      e≤ = leb-true _ _ (t 9);
      limit≤ = leb-true _ _ (t 10);
    }

pub test_good : (G : Geometry) → Good G → good? G ≡ true
unfolding good? every
test_good G K =
    rw (
      le-leb _ _ K.n≥,
      le-leb _ _ K.n≤,
      le-leb _ _ K.p≥,
      le-leb _ _ K.p≤,
      le-leb _ _ K.s≥,
      le-leb _ _ K.s≤,
      le-leb _ _ K.w≤,
      le-leb _ _ K.narrow,
      le-leb _ _ K.e≥,
      le-leb _ _ K.e≤,
      le-leb _ _ K.limit≤,
    )

-- the sizes of the tables, and of the flash
pub tables_test : (G : Geometry) (x : Lent) → tables_fit G x ≡ true
    → (length x.unit.words ≡ tab_words G) × (length x.unit.used ≡ pages G)
tables_test G x e =
    let h : (eqb (length x.unit.words) (tab_words G) ≡ true) × (eqb (length x.unit.used) (pages G) ≡ true) = both _ _ e in
    (eqb-true _ _ h.0, eqb-true _ _ h.1)

pub test_tables : (G : Geometry) (x : Lent) → length x.unit.words ≡ tab_words G → length x.unit.used ≡ pages G → tables_fit G x ≡ true
test_tables G x a b = rw (eq-eqb _ _ a, eq-eqb _ _ b)

pub flash_test : (G : Geometry) (f : Flash) → flash_fits G f ≡ true → Fit G f
flash_test G f e =
    let h : (eqb (length f.bytes) (pages G * G.s) ≡ true) × ((eqb (length f.marks) (pages G) && eqb (length f.counts) G.n) ≡ true) =
    both _ _ e in
    let k : (eqb (length f.marks) (pages G) ≡ true) × (eqb (length f.counts) G.n ≡ true) = both _ _ h.1 in
    record { bytes = eqb-true _ _ h.0; marks = eqb-true _ _ k.0; counts = eqb-true _ _ k.1 }

-- zeros are clean scratch
pub zeros-blank : (k : ℕ) → blank (zeros k) ≡ true
unfolding blank
zeros-blank zero = refl
zeros-blank (suc k) = zeros-blank k

-- and nothing else is
pub blank_is : (xs : List ℕ) → blank xs ≡ true → xs ≡ zeros (length xs)
unfolding blank
blank_is [] e = refl
blank_is (x ∷ xs) e =
    let h : (eqb x 0 ≡ true) × (blank xs ≡ true) = both _ _ e in
    ap (λ y. y ∷ xs) (eqb-true x 0 h.0) ∙ ap (λ ys. 0 ∷ ys) (blank_is xs h.1)

pub clean-zeros : (k : ℕ) → clean (k ∷ []) (zeros k ∷ []) ≡ true
unfolding clean
clean-zeros k = rw (eq-eqb (length (zeros k)) k (length-replicate k 0), zeros-blank k)

-- where the tests pass, the deed
pub unless_passes : (b : Bool) (c : Cause) (x : Lent) (o : Outcome) → b ≡ true → unless b c x o ≡ o
unfolding unless
unless_passes b c x o e = rw e

pub guarded_passes : (a b c d : Bool) (x : Lent) (o : Outcome) → a ≡ true → b ≡ true → c ≡ true → d ≡ true → guarded a b c d x o ≡ o
unfolding guarded unless
guarded_passes a b c d x o p q r s = rw (p, q, r, s)

-- what holds of a refusal that changes nothing, and of the call where the test passes, holds of both together
pub unless_by : (P : Outcome → Type 0) (b : Bool) (c : Cause) (x : Lent) (o : Outcome) → P (refused c x) → (b ≡ true → P o)
    → P (unless b c x o)
unfolding unless
unless_by P true c x o w f = f refl
unless_by P false c x o w f = w

-- and so for the whole guard of an entry
pub guarded_by : (P : Outcome → Type 0) (a b c d : Bool) (x : Lent) (o : Outcome)
    → P (refused Wrong x) → P (refused Unsound x) → (a ≡ true → b ≡ true → c ≡ true → d ≡ true → P o) → P (guarded a b c d x o)
unfolding guarded
guarded_by P a b c d x o w u f =
    unless_by P a Wrong x _ w
    (λ ha. unless_by P b Unsound x _ u (λ hb. unless_by P c Wrong x _ w (λ hc. unless_by P d Wrong x o w (λ hd. f ha hb hc hd))))

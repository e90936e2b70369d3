-- A collection's tests, and its entry, whatever its inner call: a test that fails, and the call done.
use Prim.Native.Nat.{ℕ, ◌+◌}
use native.Mathlib.Omega.{arith}
use mathlib.Core.Path.{◌≡◌, refl, sym, ap, ap₂, subst}
use mathlib.Core.Bool.{Bool, true, false, cond, ◌&&◌}
use mathlib.Core.List.{List, [], ◌∷◌}
use lib.Dec.{eqb}
use lib.ListN.{length}
use Rattle.model.specs.declared.Geometry.{Geometry}
use Rattle.model.specs.declared.Cause.{Cause}
use Rattle.model.specs.declared.Cause.TheVariants.{Wrong, Unsound}
use Rattle.model.specs.Numbers.{Answer}
use Rattle.std.specs.Prelude.{Result}
use Rattle.model.specs.Lists.{every, zeros}
use Rattle.model.specs.Numbers.{Ok, Err, good?}
use Rattle.model.specs.Tables.{view}
use Rattle.model.specs.Device.{Flash, state, Out}
use Rattle.model.specs.Contract.{Done}
use Rattle.model.specs.Entry.{Recorder, recorder, Lent, lent, Outcome, Answered, clean, tables_fit, flash_fits, page_scratch, seen_scratch, all_fits}
use Rattle.model.specs.Entry.{back, collecting}
use Rattle.model.proofs.Guard.{both, each, guarded_passes}
use Rattle.guard.specs.Countable.{Countable}
use Rattle.ftl.specs.Tests.{tested}
use Rattle.model.proofs.Refusals.{guarded_sizes, guarded_sound}
use Rattle.ftl.proofs.Guards.{by, answered}
use Rattle.ftl.proofs.Passing.{clean?, clean-zeros, fit?, sound?, Passed, passed, unit_is}

-- the definition's row of tests, from the code's: one that fails, and all passed
row_not : (g t f b p s o : Bool) → (g && ((t && (f && (b && (p && s)))) && o)) ≡ false
    → every (g ∷ t ∷ f ∷ b ∷ (p && (s && (o && true))) ∷ []) ≡ false
unfolding every
row_not false t f b p s o e = refl
row_not true false f b p s o e = refl
row_not true true false b p s o e = refl
row_not true true true false p s o e = refl
row_not true true true true false s o e = refl
row_not true true true true true false o e = refl
row_not true true true true true true o e = rw e

row_all : (g t f b p s o : Bool) → g ≡ true → (t && (f && (b && (p && s)))) ≡ true → o ≡ true
    → every (g ∷ t ∷ f ∷ b ∷ (p && (s && (o && true))) ∷ []) ≡ true
unfolding every
row_all false t f b p s o g e h = g
row_all true false f b p s o g e h = e
row_all true true false b p s o g e h = e
row_all true true true false p s o g e h = e
row_all true true true true false s o g e h = e
row_all true true true true true false o g e h = e
row_all true true true true true true o g e h = rw h

-- a test refuses for one of two causes
pub refusal_known : (a b : Bool) (c : Cause) → tested a b ≡ Err c → Countable (Err c)
refusal_known a b c = go a b
  where
    as_cause : (k : Cause) → ◌≡◌ {A = Result (Unit {0}) Cause} (Err k) (Err c) → Countable (Err k) → Countable (Err c)
    as_cause k e h = subst (λ (j : Cause). Countable (Err j)) (let z : k ≡ c = cc in z) h

    go : (a b : Bool) → tested a b ≡ Err c → Countable (Err c)
    go false b e = as_cause Wrong e tt
    go true false e = as_cause Unsound e tt
    go true true e = absurd (let z : ◌≡◌ {A = ℕ} 0 1 = cc in omega arith)

-- lent: the unit x, and scratch for a page, for the soundness test and for the sort
module _ (G : Geometry) (bad : List ℕ) (x : Recorder) (page seen order : List ℕ) where
  abbrev given : Lent
  given = lent x [] (page ∷ seen ∷ order ∷ [])

  abbrev sounds : Bool
  sounds = sound? G bad x page seen

  -- what `all_fit` says, and the test of the scratch that the collections alone are lent
  abbrev fits? : Bool
  fits? = fit? G bad x page seen

  abbrev order? : Bool
  order? = clean? G.n order

  -- the definition's test
  abbrev sized? : Bool
  sized? = all_fits G bad (page_scratch G ∷ seen_scratch G ∷ G.n ∷ []) given

  sized_not : (good? G && (fits? && order?)) ≡ false → sized? ≡ false
  unfolding clean
  sized_not =
      row_not (good? G) (tables_fit G given) (flash_fits G x.flash) (eqb (length bad) G.n) (clean? G.s page) (clean? (G.n + G.p) seen) order?

  sized : good? G ≡ true → fits? ≡ true → order? ≡ true → sized? ≡ true
  unfolding clean
  sized =
      row_all (good? G) (tables_fit G given) (flash_fits G x.flash) (eqb (length bad) G.n) (clean? G.s page) (clean? (G.n + G.p) seen) order?

  -- what the tests say when they pass
  pub record Tested : Type 0 where
    pub sizes : sized? ≡ true
    pub sound : sounds ≡ true
    pub passed : Passed G bad x page seen
    pub order_clean : order ≡ zeros G.n

  fitting : sized? ≡ true → (fits? ≡ true) × (order? ≡ true)
  unfolding clean
  fitting e =
      let s : (clean? G.s page ≡ true) × ((clean? (G.n + G.p) seen && (order? && true)) ≡ true) = both _ _ (each _ e 4) in
      let t : (clean? (G.n + G.p) seen ≡ true) × ((order? && true) ≡ true) = both _ _ s.1 in
      (rw (each _ e 1, each _ e 2, each _ e 3, s.0, t.0) refl, (both _ _ t.1).0)

  passes : (a b : Bool) → tested a b ≡ Ok tt → (a ≡ true) × (b ≡ true)
  passes false b e = absurd (let z : ◌≡◌ {A = ℕ} 0 1 = cc in omega arith)
  passes true false e = absurd (let z : ◌≡◌ {A = ℕ} 0 1 = cc in omega arith)
  passes true true e = (refl, refl)

  pub all_tested : tested sized? sounds ≡ Ok tt → Tested
  all_tested e =
      let h = passes sized? sounds e in
      let f = fitting h.0 in
      record {
        sizes = h.0;
        sound = h.1;
        passed = passed G bad x page seen (each _ h.0 0) f.0;
        order_clean = clean-zeros G.n order f.1;
      }

  -- what the tests of the code answer, one after the other
  pub wrong_geometry : good? G ≡ false → Err Wrong ≡ tested sized? sounds
  wrong_geometry e = sym (ap (λ a. tested a sounds) (sized_not (ap (λ g. g && (fits? && order?)) e)))

  pub wrong_size : good? G ≡ true → fits? ≡ false → Err Wrong ≡ tested sized? sounds
  wrong_size g e = sym (ap (λ a. tested a sounds) (sized_not (ap₂ (λ g f. g && (f && order?)) g e)))

  pub wrong_order : good? G ≡ true → fits? ≡ true → order? ≡ false → Err Wrong ≡ tested sized? sounds
  wrong_order g h e = sym (ap (λ a. tested a sounds) (sized_not (ap₂ ◌&&◌ g (ap₂ ◌&&◌ h e))))

  pub told_sound : good? G ≡ true → fits? ≡ true → order? ≡ true → (b : Bool) → sounds ≡ b → cond b (Ok tt) (Err Unsound) ≡ tested sized? sounds
  told_sound g h o b e = sym (ap₂ tested (sized g h o) e)

  -- the entry around the inner call o
  module _ (o : Out) where
    abbrev entry : Outcome
    entry = collecting G bad given o

    pub refused_by : (c : Cause) → tested sized? sounds ≡ Err c → Answered entry given (Err c)
    refused_by c = go sized? sounds refl refl
      where
        as_cause : (k : Cause) → ◌≡◌ {A = Result (Unit {0}) Cause} (Err k) (Err c) → Answered entry given (Err k) → Answered entry given (Err c)
        as_cause k e h = subst (λ (j : Cause). Answered entry given (Err j)) (let z : k ≡ c = cc in z) h

        go : (a b : Bool) → sized? ≡ a → sounds ≡ b → tested a b ≡ Err c → Answered entry given (Err c)
        go false b p q e = as_cause Wrong e (by (guarded_sizes sized? sounds true true given (back G given o) p) answered)
        go true false p q e = as_cause Unsound e (by (guarded_sound sized? sounds true true given (back G given o) p q) answered)
        go true true p q e = absurd (let z : ◌≡◌ {A = ℕ} 0 1 = cc in omega arith)

    -- the inner call answered r, and left the words w, the use marks u and the flash f
    pub done : Tested → (w u : List ℕ) (f : Flash) (page' seen' order' : List ℕ)
        → length w ≡ length x.words → page' ≡ zeros G.s → seen' ≡ seen → order' ≡ zeros G.n
        → (r : Answer) → Done o r (state (view G w u) f)
        → Answered entry (lent (recorder w u f) [] (page' ∷ seen' ∷ order' ∷ [])) r
    done P w u f page' seen' order' long p q t r D =
        by (guarded_passes sized? sounds true true given (back G given o) P.sizes P.sound refl refl)
        (record { left_is = left; answer_is = D.answer })
      where
        left : lent (recorder w u f) [] (page' ∷ seen' ∷ order' ∷ []) ≡ (back G given o).left
        left = cc (unit_is G bad x page seen P.passed o r w u f long D, p, q, t, P.passed.ready.page_clean, P.order_clean)

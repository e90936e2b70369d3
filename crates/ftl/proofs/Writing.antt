-- The write entry: each test that fails, and the write done.
use Prim.Native.Nat.{ℕ, ◌+◌, ◌≤◌}
use native.Mathlib.Omega.{arith}
use mathlib.Core.Path.{◌≡◌, refl, sym, ap₂, ◌∙◌, subst}
use mathlib.Core.Bool.{Bool, true, false, ◌&&◌}
use mathlib.Core.List.{List, [], ◌∷◌}
use lib.Dec.{eqb, leb}
use lib.ListN.{length, take}
use lib.Seq.{length-take-le}
use borrow.Author.Tests.{leb-true}
use Rattle.model.specs.declared.Geometry.{Geometry}
use Rattle.model.specs.Numbers.{Answer}
use Rattle.model.specs.declared.Cause.{Cause}
use Rattle.model.specs.Numbers.{Err}
use Rattle.model.specs.declared.Cause.TheVariants.{Wrong, Unsound}
use Rattle.model.specs.Lists.{every, zeros}
use Rattle.model.specs.Numbers.{good?, logical_page, offset}
use Rattle.model.specs.Tables.{view}
use Rattle.model.specs.Device.{Flash, State, state, Out}
use Rattle.model.specs.Contract.{Done}
use Rattle.model.specs.PageWrite.{write_page}
use Rattle.model.specs.Entry.{Recorder, recorder, Lent, lent, Outcome, Answered, refused, clean, tables_fit, flash_fits, page_scratch, seen_scratch, all_fits, back, write}
use Rattle.model.proofs.Guard.{guarded_passes}
use Rattle.model.proofs.Refusals.{guarded_sizes, guarded_sound}
use Rattle.guard.specs.Countable.{Countable}
use Rattle.ftl.proofs.Places.{guarded_place, inside?, room?}
use Rattle.ftl.proofs.Guards.{by, answered}
use Rattle.ftl.proofs.Answers.{write_upto, upto_countable}
use Rattle.ftl.proofs.Passing.{clean?, fit?, sound?, Passed, unit_is}

-- what the inner write is lent of the caller's data
pub sent_fits : (off len s : ℕ) (d : List ℕ) → len ≤ length d → leb (off + len) s ≡ true → off + length (take len d) ≤ s
sent_fits off len s d h r = subst (λ (k : ℕ). off + k ≤ s) (sym (length-take-le len d h)) (leb-true (off + len) s r)

-- a row of tests: one that fails, and all that pass
row_not : (g t f b p s l : Bool) → (g && ((t && (f && (b && (p && s)))) && l)) ≡ false
    → every (every (g ∷ t ∷ f ∷ b ∷ (p && (s && true)) ∷ []) ∷ l ∷ []) ≡ false
unfolding every
row_not false t f b p s l e = refl
row_not true false f b p s l e = refl
row_not true true false b p s l e = refl
row_not true true true false p s l e = refl
row_not true true true true false s l e = refl
row_not true true true true true false l e = refl
row_not true true true true true true l e = rw e

row_all : (t f b p s l : Bool) → (t && (f && (b && (p && s)))) ≡ true → l ≡ true
    → every (every (true ∷ t ∷ f ∷ b ∷ (p && (s && true)) ∷ []) ∷ l ∷ []) ≡ true
unfolding every
row_all false f b p s l e h = e
row_all true false b p s l e h = e
row_all true true false p s l e h = e
row_all true true true false s l e h = e
row_all true true true true false l e h = e
row_all true true true true true l e h = rw h

module _ (G : Geometry) (bad : List ℕ) (x : Recorder) (page seen : List ℕ) (sector len : ℕ) (d : List ℕ) where
  abbrev given : Lent
  given = lent x [] (page ∷ seen ∷ [])

  abbrev entry : Outcome
  entry = write G bad sector len d given

  abbrev long? : Bool
  long? = leb len (length d)

  abbrev sounds : Bool
  sounds = sound? G bad x page seen

  abbrev pub inner : Out
  inner = write_page G bad (logical_page G sector) (offset G sector) (take len d) (state (view G x.words x.used) x.flash)

  -- the inner write's answer fits a signed word
  pub answer_fits : (r : Answer) (st : State) → Done inner r st → offset G sector + length (take len d) ≤ G.s → G.s ≤ 65536 → Countable r
  answer_fits r st D h s =
      subst Countable (sym D.answer)
      (upto_countable (length (take len d)) inner.answer (omega arith)
      (write_upto G bad (logical_page G sector) (offset G sector) (take len d) (state (view G x.words x.used) x.flash)))

  -- the tests of the definition, from those of the code
  abbrev sized? : Bool
  sized? = every (all_fits G bad (page_scratch G ∷ seen_scratch G ∷ []) given ∷ long? ∷ [])

  abbrev Pass : Type 0
  Pass = Passed G bad x page seen

  abbrev fits? : Bool
  fits? = fit? G bad x page seen

  sized_not : (good? G && (fits? && long?)) ≡ false → sized? ≡ false
  unfolding clean
  sized_not e =
      row_not (good? G) (tables_fit G given) (flash_fits G x.flash) (eqb (length bad) G.n) (clean? G.s page) (clean? (G.n + G.p) seen) long?
      e

  sized : Pass → long? ≡ true → sized? ≡ true
  unfolding clean
  sized P h =
      rw P.goodness
      (row_all (tables_fit G given) (flash_fits G x.flash) (eqb (length bad) G.n) (clean? G.s page) (clean? (G.n + G.p) seen) long?
      P.fits
      h)

  -- a refusal that changes nothing
  stays : (k : Cause) → entry ≡ refused k given → Answered entry given (Err k)
  stays k q = by q answered

  -- the same after the soundness test, which hands its scratch back as it was
  stays_seen : Pass → (seen' : List ℕ) → seen' ≡ zeros (G.n + G.p) → (k : Cause) → entry ≡ refused k given
      → Answered entry (lent x [] (page ∷ seen' ∷ [])) (Err k)
  stays_seen P seen' s k q =
      subst (λ (y : List ℕ). Answered entry (lent x [] (page ∷ y ∷ [])) (Err k)) (P.seen_clean ∙ sym s) (stays k q)

  wrong : (good? G && (fits? && long?)) ≡ false → Answered entry given (Err Wrong)
  unfolding write
  wrong e = stays Wrong (guarded_sizes sized? sounds _ _ given (back G given inner) (sized_not e))

  pub wrong_geometry : good? G ≡ false → Answered entry given (Err Wrong)
  wrong_geometry e = wrong (rw e)

  pub wrong_size : good? G ≡ true → fits? ≡ false → Answered entry given (Err Wrong)
  wrong_size g e = wrong (ap₂ (λ x y. x && (y && long?)) g e)

  pub too_short : good? G ≡ true → fits? ≡ true → long? ≡ false → Answered entry given (Err Wrong)
  too_short g h e = wrong (ap₂ ◌&&◌ g (ap₂ ◌&&◌ h e))

  module _ (P : Pass) (l : long? ≡ true) (seen' : List ℕ) (s : seen' ≡ zeros (G.n + G.p)) where
    abbrev left : Lent
    left = lent x [] (page ∷ seen' ∷ [])

    pub unsound : sounds ≡ false → Answered entry left (Err Unsound)
    unfolding write
    unsound e = stays_seen P seen' s Unsound (guarded_sound sized? sounds _ _ given (back G given inner) (sized P l) e)

    pub refused_place : sounds ≡ true → (inside? G sector && room? G sector len) ≡ false → Answered entry left (Err Wrong)
    unfolding write
    refused_place q e = stays_seen P seen' s Wrong (guarded_place sized? sounds _ _ given (back G given inner) (sized P l) q e)

    -- the inner write answered r, and left the words w, the use marks u and the flash f
    pub done : sounds ≡ true → inside? G sector ≡ true → room? G sector len ≡ true → (w u : List ℕ) (f : Flash) (page' : List ℕ)
        → length w ≡ length x.words → page' ≡ zeros G.s → (r : Answer) → Done inner r (state (view G w u) f)
        → Answered entry (lent (recorder w u f) [] (page' ∷ seen' ∷ [])) r
    unfolding write
    done q i o w u f page' long p r D =
        by (guarded_passes sized? sounds _ _ given (back G given inner) (sized P l) q i o)
        (record { left_is = all; answer_is = D.answer })
      where
        all : lent (recorder w u f) [] (page' ∷ seen' ∷ []) ≡ (back G given inner).left
        all = cc (unit_is G bad x page seen P inner r w u f long D, p, s, P.ready.page_clean, P.seen_clean)

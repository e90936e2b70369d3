-- The public entries, on every input: sound tables stay sound, a collection changes no logical page's content, the flash ends as the
-- listed operations leave it, and with a finite fuse those are the first of the endless list.
use Prim.Native.Nat.{ℕ, ◌+◌, ◌<◌}
use native.Mathlib.Omega.{arith}
use mathlib.Core.Path.{◌≡◌, refl, sym, ap, ◌∙◌, subst}
use mathlib.Core.Bool.{Bool, true, false}
use mathlib.Core.Logic.{◌⊎◌, inl, inr, ◌≢◌}
use mathlib.Core.List.{List, [], ◌∷◌}
use lib.Dec.{ltb, leb, eqb}
use lib.ListN.{length, take}
use lib.Seq.{take-nil, length-take-le}
use borrow.Author.Tests.{ltb-true, leb-true, eqb-true}
use Rattle.model.specs.Numbers.{Geometry, Good, good?, Ok, Cause, Wrong, Unsound, Reason, endless, flat, logical_page, offset}
use Rattle.model.specs.Tables.{Tables, word_of, tab_words, pages, view, packed}
use Rattle.model.specs.Sound.{Sound, SoundTables, soundb, Mapped}
use Rattle.model.specs.Device.{Flash, Op, state, Out, perform_all, format_from}
use Rattle.model.specs.PageWrite.{content, write_page}
use Rattle.model.specs.Checkpoint.{Queueing, opened, reason_of, restored_by}
use Rattle.model.specs.Entry.{Recorder, recorder, Lent, lent, Outcome, refused, unless, guarded, tables_of}
use Rattle.model.specs.Entry.{state_of, back, tables_fit, flash_fits, page_scratch, seen_scratch, all_fits, clean, formatting}
use Rattle.model.specs.Entry.{opening, read, write, collecting, collection, list_collection, threshold_collection, encoding, restoring}
use Rattle.model.specs.History.{Call, Format, Open, Read, Write, Collect, CollectList, CollectThreshold, Encode, Restore}
use Rattle.model.specs.History.{lit, run, after, ops_of, content_of, Begins, Reached, by_opening, by_restoring, called, lent_fuse}
use Rattle.model.specs.Contract.{Fit}
use Rattle.model.proofs.Working.{Counted}
use Rattle.model.proofs.Address.{flat_inj}
use Rattle.model.proofs.View.{sized-view, packed-length, view-packed}
use Rattle.model.proofs.Official.{counted_sound, sound_counted, soundb_counted}
use Rattle.model.proofs.Ops.{Holds, Safe, SafeOps}
use Rattle.model.proofs.Write.{Wrote, wrote}
use Rattle.model.proofs.Collect.{Kept, collected, collected_list, collected_threshold}
use Rattle.model.proofs.Format.{Formatted, formatted}
use Rattle.model.proofs.Base.{opened_sound}
use Rattle.model.proofs.Requeue.{accepted_by}
use Rattle.model.proofs.Fuse.{fused_write, fused_collect, fused_list, fused_threshold, fused_format}
use Rattle.model.proofs.Guard.{each, good_test, tables_test, flash_test, guarded_by, unless_by}

abbrev pub SoundIn : Geometry → Recorder → Type 0
SoundIn G r = SoundTables G r.words r.used

abbrev pub tab : Geometry → Recorder → Tables
tab G r = view G r.words r.used

-- sound tables, packed, are sound in the words
pub packed_in : (G : Geometry) (t : Tables) (f : Flash) → Counted G t → SoundIn G (recorder (packed t) t.used f)
packed_in G t f S =
    record {
      words_size = packed-length S.sized;
      used_size = S.sized.used;
      sound = subst (Sound G) (sym (view-packed S.sized)) (counted_sound G t S);
    }

pub counted_in : (G : Geometry) (r : Recorder) → SoundIn G r → Counted G (tab G r)
counted_in G r S = sound_counted G (tab G r) (sized-view G r.words r.used S.words_size S.used_size) S.sound

-- ---- a call that is neither an opening nor a restore

pub record Step (G : Geometry) (r r' : Recorder) (ops : List Op) : Type 0 where
  pub sound : SoundIn G r → SoundIn G r'
  pub performs : r'.flash ≡ perform_all G ops r.flash
  pub fits : (ops ≡ []) ⊎ Fit G r.flash
  pub safe : (M : List ℕ) → Holds G M (tab G r).free → Safe G M ops (tab G r').free

abbrev pub StepOf : Geometry → Recorder → Outcome → Type 0
StepOf G r o = Step G r o.left.unit o.ops

step_none : (G : Geometry) (r : Recorder) → Step G r r []
step_none G r =
    record { sound = λ S. S; performs = refl; fits = inl refl; safe = λ M H. record { safe = tt; holds = λ _. H } }

-- what the tests of write and of the collections say
pub record Fits (G : Geometry) (bad : List ℕ) (x : Lent) : Type 0 where
  pub good : Good G
  pub words_size : length x.unit.words ≡ tab_words G
  pub used_size : length x.unit.used ≡ pages G
  pub fit : Fit G x.unit.flash
  pub bad_size : length bad ≡ G.n
  pub counted : Counted G (tables_of G x)

pub tables_sound : (G : Geometry) (x : Lent) → tables_fit G x ≡ true → soundb G (tables_of G x) ≡ true → Counted G (tables_of G x)
tables_sound G x a b =
    let h : (length x.unit.words ≡ tab_words G) × (length x.unit.used ≡ pages G) = tables_test G x a in
    soundb_counted G (tables_of G x) (sized-view G x.unit.words x.unit.used h.0 h.1) b

pub all_fit : (G : Geometry) (bad : List ℕ) (scratch : List ℕ) (x : Lent) → all_fits G bad scratch x ≡ true → soundb G (tables_of G x) ≡ true → Fits G bad x
all_fit G bad scratch x a b =
    let t : (i : ℕ) → _ = each (good? G ∷ tables_fit G x ∷ flash_fits G x.unit.flash ∷ eqb (length bad) G.n ∷ clean scratch x.scratch ∷ []) a in
    let h : (length x.unit.words ≡ tab_words G) × (length x.unit.used ≡ pages G) = tables_test G x (t 1) in
    record {
      good = good_test G (t 0);
      words_size = h.0;
      used_size = h.1;
      fit = flash_test G x.unit.flash (t 2);
      bad_size = eqb-true _ _ (t 3);
      counted = tables_sound G x (t 1) b;
    }

-- an inner call, put back into what was lent
module _ (G : Geometry) (bad : List ℕ) (x : Lent) (X : Fits G bad x) (o : Out) (S : Counted G o.st.tab) where
  pub back-content : (l : ℕ) → content_of G (back G x o).left.unit l ≡ content G o.st l
  back-content l = ap (λ t. content G (state t o.st.flash) l) (view-packed S.sized)

  step_back : o.st.flash ≡ perform_all G o.ops x.unit.flash
      → ((M : List ℕ) → Holds G M (tables_of G x).free → Safe G M o.ops o.st.tab.free)
      → StepOf G x.unit (back G x o)
  step_back p s =
      record {
        sound = λ _. packed_in G o.st.tab o.st.flash S;
        performs = p;
        fits = inr X.fit;
        safe = λ M H. subst (λ t. Safe G M o.ops t.free) (sym (view-packed S.sized)) (s M H);
      }

-- the collections, finished or refused
module _ (G : Geometry) (bad : List ℕ) (x : Lent) (o : Out)
    (keeps : Good G → Counted G (tables_of G x) → Fit G x.unit.flash → Kept G (state_of G x) o) where
  step_collecting : StepOf G x.unit (collecting G bad x o)
  step_collecting =
      guarded_by (StepOf G x.unit) _ _ _ _ x _ (step_none G x.unit) (step_none G x.unit)
      (λ a b _ _.
      let X : Fits G bad x = all_fit G bad _ x a b in
      let C : Kept G (state_of G x) o = keeps X.good X.counted X.fit in
      step_back G bad x X o C.sound C.performs C.safe)

  collecting-content : (l : ℕ) → content_of G (collecting G bad x o).left.unit l ≡ content_of G x.unit l
  collecting-content l =
      guarded_by (λ y. content_of G y.left.unit l ≡ content_of G x.unit l) _ _ _ _ x _ refl refl
      (λ a b _ _.
      let X : Fits G bad x = all_fit G bad _ x a b in
      let C : Kept G (state_of G x) o = keeps X.good X.counted X.fit in
      back-content G bad x X o C.sound l ∙ C.contents l)

-- Demand 3, first half: a collection, finished or refused, changes no logical page's content, whatever was lent
module _ (G : Geometry) (bad : List ℕ) (r : Recorder) (s : List (List ℕ)) (l : ℕ) where
  pub collect-content : content_of G (after G bad (Collect s) r) l ≡ content_of G r l
  unfolding collection
  collect-content = collecting-content G bad (lent r [] s) _ (λ K S F. collected G K bad _ S F) l

  pub list_content : (m : ℕ) → content_of G (after G bad (CollectList m s) r) l ≡ content_of G r l
  unfolding list_collection
  list_content m = collecting-content G bad (lent r [] s) _ (λ K S F. collected_list G K bad m _ S F) l

  pub threshold_content : (threshold m : ℕ) → content_of G (after G bad (CollectThreshold threshold m s) r) l ≡ content_of G r l
  unfolding threshold_collection
  threshold_content threshold m = collecting-content G bad (lent r [] s) _ (λ K S F. collected_threshold G K bad threshold m _ S F) l

-- a write
module _ (G : Geometry) (bad : List ℕ) (sector len : ℕ) (d : List ℕ) (x : Lent) where
  abbrev pub inner : Out
  inner = write_page G bad (logical_page G sector) (offset G sector) (take len d) (state_of G x)

  -- where its tests pass
  done : (X : Fits G bad x) → leb len (length d) ≡ true → ltb (logical_page G sector) G.e ≡ true → leb (offset G sector + len) G.s ≡ true
      → Wrote G (state_of G x) (logical_page G sector) (offset G sector) (take len d) inner
  done X a b c =
      wrote G X.good bad (state_of G x) X.counted X.fit (logical_page G sector) (offset G sector) (take len d) (ltb-true _ _ b)
      (rw (length-take-le len d (leb-true _ _ a)) (leb-true _ _ c))

  pub wrote_by : (P : Outcome → Type 0) → P (refused Wrong x) → P (refused Unsound x)
      → ((X : Fits G bad x) → Wrote G (state_of G x) (logical_page G sector) (offset G sector) (take len d) inner → P (back G x inner))
      → P (write G bad sector len d x)
  unfolding write
  wrote_by P w u f =
      guarded_by P _ _ _ _ x _ w u
      (λ a b c e.
      let t : (i : ℕ) → _ = each (all_fits G bad (page_scratch G ∷ seen_scratch G ∷ []) x ∷ leb len (length d) ∷ []) a in
      let X : Fits G bad x = all_fit G bad _ x (t 0) b in
      f X (done X (t 1) c e))

  step_write : StepOf G x.unit (write G bad sector len d x)
  step_write =
      wrote_by (StepOf G x.unit) (step_none G x.unit) (step_none G x.unit)
      (λ X W. step_back G bad x X inner W.sound W.performs W.safe)

  -- and no other logical page's content
  pub write_others : (l : ℕ) → l ≢ logical_page G sector → content_of G (write G bad sector len d x).left.unit l ≡ content_of G x.unit l
  write_others l n =
      wrote_by (λ y. content_of G y.left.unit l ≡ content_of G x.unit l) refl refl
      (λ X W. back-content G bad x X inner W.sound l ∙ W.others l n)

-- a read and an encoding leave the recorder as it was
pub read_unit : (G : Geometry) (sector len : ℕ) (x : Lent) → ((read G sector len x).left.unit ≡ x.unit) × ((read G sector len x).ops ≡ [])
unfolding read
read_unit G sector len x =
    guarded_by (λ y. (y.left.unit ≡ x.unit) × (y.ops ≡ [])) _ _ _ _ x _ (refl, refl) (refl, refl)
    (λ _ _ _ _. unless_by (λ y. (y.left.unit ≡ x.unit) × (y.ops ≡ [])) _ _ x _ (refl, refl) (λ _. (refl, refl)))

pub encoding_unit : (G : Geometry) (x : Lent) → ((encoding G x).left.unit ≡ x.unit) × ((encoding G x).ops ≡ [])
unfolding encoding
encoding_unit G x = guarded_by (λ y. (y.left.unit ≡ x.unit) × (y.ops ≡ [])) _ _ _ _ x _ (refl, refl) (refl, refl) (λ _ _ _ _. (refl, refl))

-- a recorder that stays, no operation
step_same : (G : Geometry) (r : Recorder) (o : Outcome) → (o.left.unit ≡ r) × (o.ops ≡ []) → StepOf G r o
step_same G r o e = subst (λ r'. Step G r r' o.ops) (sym e.0) (subst (λ os. Step G r r os) (sym e.1) (step_none G r))

-- formatting: whatever the tables hold, its operations are erases
pub record Wiped (G : Geometry) (r : Recorder) (o : Outcome) : Type 0 where
  pub words : o.left.unit.words ≡ r.words
  pub used : o.left.unit.used ≡ r.used
  pub performs : o.left.unit.flash ≡ perform_all G o.ops r.flash
  pub erases : (o.ops ≡ []) ⊎ (Fit G r.flash × ((M : List ℕ) → SafeOps G M o.ops))

pub wiped : (G : Geometry) (x : Lent) → Wiped G x.unit (formatting G x)
unfolding formatting
wiped G x =
    guarded_by (Wiped G x.unit) _ _ _ _ x _ none none
    (λ a _ _ _.
    let t : (i : ℕ) → _ = each (good? G ∷ flash_fits G x.unit.flash ∷ []) a in
    let F : Fit G x.unit.flash = flash_test G x.unit.flash (t 1) in
    let D : Formatted G (state_of G x) (format_from G G.n 0 (state_of G x)) = formatted G (state_of G x) F in
    record { words = refl; used = refl; performs = D.performs; erases = inr (F, D.erases) })
  where
    none : {c : Cause} → Wiped G x.unit (refused c x)
    none = record { words = refl; used = refl; performs = refl; erases = inl refl }

step_format : (G : Geometry) (x : Lent) → StepOf G x.unit (formatting G x)
step_format G x =
    record {
      sound = λ S.
          record {
            words_size = ap length W.words ∙ S.words_size;
            used_size = ap length W.used ∙ S.used_size;
            sound = subst (Sound G) (sym same) S.sound;
          };
      performs = W.performs;
      fits = sized W.erases;
      safe = λ M H. record { safe = erases_of M W.erases; holds = λ _. subst (λ t. Holds G M t.free) (sym same) H };
    }
  where
    W : Wiped G x.unit (formatting G x)
    W = wiped G x

    ops : List Op
    ops = (formatting G x).ops

    same : tab G (formatting G x).left.unit ≡ tab G x.unit
    same = ap (λ w. view G w (formatting G x).left.unit.used) W.words ∙ ap (view G x.unit.words) W.used

    sized : (ops ≡ []) ⊎ (Fit G x.unit.flash × ((M : List ℕ) → SafeOps G M ops)) → (ops ≡ []) ⊎ Fit G x.unit.flash
    sized (inl q) = inl q
    sized (inr e) = inr e.0

    erases_of : (M : List ℕ) → (ops ≡ []) ⊎ (Fit G x.unit.flash × ((M : List ℕ) → SafeOps G M ops)) → SafeOps G M ops
    erases_of M (inl q) = subst (SafeOps G M) (sym q) tt
    erases_of M (inr e) = e.1 M

-- ---- an opening and a restore: refused, or the tables are made anew over the flash as it is

pub record Begun (G : Geometry) (r : Recorder) (t : Tables) (o : Outcome) : Type 0 where
  pub good : Good G
  pub counted : Counted G t
  pub unit : o.left.unit ≡ recorder (packed t) t.used r.flash
  pub answer : o.answer ≡ Ok 0
  pub ops : o.ops ≡ []

pub record Stayed (x : Lent) (o : Outcome) : Type 0 where
  pub cause : Cause
  pub is : o ≡ refused cause x

pub opened_or : (G : Geometry) (x : Lent) → Stayed x (opening G x) ⊎ Begun G x.unit (opened G (tables_of G x).alloc) (opening G x)
unfolding opening
opened_or G x =
    guarded_by (λ y. Stayed x y ⊎ Begun G x.unit (opened G (tables_of G x).alloc) y) _ _ _ _ x _
    (inl (record { cause = Wrong; is = refl }))
    (inl (record { cause = Unsound; is = refl }))
    (λ a _ _ _.
    let t : (i : ℕ) → _ = each (good? G ∷ tables_fit G x ∷ []) a in
    let K : Good G = good_test G (t 0) in
    inr (record { good = K; counted = opened_sound G K (tables_of G x).alloc; unit = refl; answer = refl; ops = refl }))

pub restored_or : (G : Geometry) (q : Queueing) (b : List ℕ) (x : Lent)
    → Stayed x (restoring G q b x) ⊎ Begun G x.unit (restored_by G q b) (restoring G q b x)
unfolding restoring
restored_or G q b x =
    guarded_by (λ y. Stayed x y ⊎ Begun G x.unit (restored_by G q b) y) _ _ _ _ x _
    (inl (record { cause = Wrong; is = refl }))
    (inl (record { cause = Unsound; is = refl }))
    (λ a _ _ _.
    let t : (i : ℕ) → _ = each (good? G ∷ tables_fit G x ∷ clean (pages G ∷ []) x.scratch ∷ []) a in
    let K : Good G = good_test G (t 0) in
    unless_by (λ y. Stayed x y ⊎ Begun G x.unit (restored_by G q b) y) (eqb (reason_of G b) 0) (Reason (reason_of G b)) x _
    (inl (record { cause = Reason (reason_of G b); is = refl }))
    (λ e. inr (record { good = K; counted = accepted_by G q b (eqb-true _ _ e) K; unit = refl; answer = refl; ops = refl })))

-- a restore that is not refused had a file without a reason
pub restored_passes : (G : Geometry) (q : Queueing) (b : List ℕ) (x : Lent) → (restoring G q b x).answer ≡ Ok 0 → reason_of G b ≡ 0
unfolding restoring
restored_passes G q b x =
    guarded_by (λ y. y.answer ≡ Ok 0 → reason_of G b ≡ 0) _ _ _ _ x _ (λ e. absurd (let z : ◌≡◌ {A = ℕ} 0 1 = cc in omega arith))
    (λ e. absurd (let z : ◌≡◌ {A = ℕ} 0 1 = cc in omega arith))
    (λ _ _ _ _. unless_by (λ y. y.answer ≡ Ok 0 → reason_of G b ≡ 0) (eqb (reason_of G b) 0) (Reason (reason_of G b)) x _
    (λ e. absurd (let z : ◌≡◌ {A = ℕ} 0 1 = cc in omega arith)) (λ e _. eqb-true _ _ e))

begun_sound : (G : Geometry) (r : Recorder) (t : Tables) (o : Outcome) → Begun G r t o → SoundIn G o.left.unit
begun_sound G r t o B = subst (SoundIn G) (sym B.unit) (packed_in G t r.flash B.counted)

-- either way: the flash stays, and sound tables stay sound
module _ (G : Geometry) (x : Lent) (t : Tables) (o : Outcome) where
  or_sound : Stayed x o ⊎ Begun G x.unit t o → SoundIn G x.unit → SoundIn G o.left.unit
  or_sound (inl s) S = subst (λ y. SoundIn G y.left.unit) (sym s.is) S
  or_sound (inr b) S = begun_sound G x.unit t o b

  pub or_begun : Stayed x o ⊎ Begun G x.unit t o → o.answer ≡ Ok 0 → Begun G x.unit t o
  or_begun (inl s) e = absurd (let z : ◌≡◌ {A = ℕ} 0 1 = cc in omega arith)
  or_begun (inr b) e = b

  or_answered : Stayed x o ⊎ Begun G x.unit t o → o.answer ≡ Ok 0 → SoundIn G o.left.unit
  or_answered b e = begun_sound G x.unit t o (or_begun b e)

  pub or_flash : Stayed x o ⊎ Begun G x.unit t o → (o.left.unit.flash ≡ x.unit.flash) × (o.ops ≡ [])
  or_flash (inl s) = (ap (λ y. y.left.unit.flash) s.is, ap (λ y. y.ops) s.is)
  or_flash (inr b) = (ap (λ r. r.flash) b.unit, b.ops)

-- ---- every call

pub stepped : (G : Geometry) (bad : List ℕ) (c : Call) (r : Recorder) → (Begins c → ⊥) → StepOf G r (run G bad c r)
unfolding collection list_collection threshold_collection
stepped G bad Format r n = step_format G (lent r [] [])
stepped G bad Open r n = absurd (n tt)
stepped G bad (Read sector len o s) r n = step_same G r (read G sector len (lent r o s)) (read_unit G sector len (lent r o s))
stepped G bad (Write sector len d s) r n = step_write G bad sector len d (lent r [] s)
stepped G bad (Collect s) r n = step_collecting G bad (lent r [] s) _ (λ K S F. collected G K bad _ S F)
stepped G bad (CollectList m s) r n = step_collecting G bad (lent r [] s) _ (λ K S F. collected_list G K bad m _ S F)
stepped G bad (CollectThreshold t m s) r n = step_collecting G bad (lent r [] s) _ (λ K S F. collected_threshold G K bad t m _ S F)
stepped G bad (Encode b s) r n = step_same G r (encoding G (lent r b s)) (encoding_unit G (lent r b s))
stepped G bad (Restore q b s) r n = absurd (n tt)

-- a fact of every call: of an opening, of a restore, and of the calls that begin nothing
pub by_kind : (P : Call → Type 0) → P Open → ((q : Queueing) (b : List ℕ) (s : List (List ℕ)) → P (Restore q b s)) → ((c : Call) → (Begins c → ⊥) → P c) → (c : Call) → P c
by_kind P o r f Format = f Format (λ z. z)
by_kind P o r f Open = o
by_kind P o r f (Read sector len b s) = f (Read sector len b s) (λ z. z)
by_kind P o r f (Write sector len d s) = f (Write sector len d s) (λ z. z)
by_kind P o r f (Collect s) = f (Collect s) (λ z. z)
by_kind P o r f (CollectList m s) = f (CollectList m s) (λ z. z)
by_kind P o r f (CollectThreshold t m s) = f (CollectThreshold t m s) (λ z. z)
by_kind P o r f (Encode b s) = f (Encode b s) (λ z. z)
by_kind P o r f (Restore q b s) = r q b s

module _ (G : Geometry) (bad : List ℕ) where
  -- "Every public call leaves sound tables sound."
  pub kept_sound : (c : Call) (r : Recorder) → SoundIn G r → SoundIn G (after G bad c r)
  kept_sound c r S =
      by_kind (λ c. SoundIn G (after G bad c r))
      (or_sound G (lent r [] []) _ _ (opened_or G (lent r [] [])) S)
      (λ q b s. or_sound G (lent r [] s) _ _ (restored_or G q b (lent r [] s)) S)
      (λ c n. (stepped G bad c r n).sound S)
      c

  -- an opening and a restore do no operation
  pub opened-flash : (r : Recorder) → ((after G bad Open r).flash ≡ r.flash) × ((run G bad Open r).ops ≡ [])
  opened-flash r = or_flash G (lent r [] []) (opened G (tab G r).alloc) (opening G (lent r [] [])) (opened_or G (lent r [] []))

  pub restored-flash : (q : Queueing) (b : List ℕ) (s : List (List ℕ)) (r : Recorder)
      → ((after G bad (Restore q b s) r).flash ≡ r.flash) × ((run G bad (Restore q b s) r).ops ≡ [])
  restored-flash q b s r = or_flash G (lent r [] s) (restored_by G q b) (restoring G q b (lent r [] s)) (restored_or G q b (lent r [] s))

  -- the flash after a call is the flash before it with the call's operations done
  pub performs : (c : Call) (r : Recorder) → (after G bad c r).flash ≡ perform_all G (run G bad c r).ops r.flash
  performs c r =
      by_kind (λ c. (after G bad c r).flash ≡ perform_all G (run G bad c r).ops r.flash)
      (idle Open (opened-flash r))
      (λ q b s. idle (Restore q b s) (restored-flash q b s r))
      (λ c n. (stepped G bad c r n).performs)
      c
    where
      idle : (c : Call) → ((after G bad c r).flash ≡ r.flash) × ((run G bad c r).ops ≡ [])
          → (after G bad c r).flash ≡ perform_all G (run G bad c r).ops r.flash
      idle c e = e.0 ∙ ap (λ os. perform_all G os r.flash) (sym e.1)

  -- ---- "any state reached by public calls"

  pub reached_sound : {r : Recorder} → Reached G bad r → SoundIn G r
  reached_sound (by_opening r e) = or_answered G (lent r [] []) _ _ (opened_or G (lent r [] [])) e
  reached_sound (by_restoring r q b s e) = or_answered G (lent r [] s) _ _ (restored_or G q b (lent r [] s)) e
  reached_sound (called {r} h c) = kept_sound c r (reached_sound h)
  reached_sound (lent_fuse {r} h f) =
      let S : SoundIn G r = reached_sound h in
      record { words_size = S.words_size; used_size = S.used_size; sound = S.sound }

  -- Demand 3: no two mapped logical pages share a physical page
  pub sound_apart : (r : Recorder) → SoundIn G r → (l m : ℕ) → Mapped (tab G r) l → Mapped (tab G r) m
      → flat G (word_of (tab G r) l) ≡ flat G (word_of (tab G r) m) → l ≡ m
  sound_apart r h l m a b e =
      let S : Counted G (tab G r) = counted_in G r h in
      S.apart l m a (flat_inj G (word_of (tab G r) l) (word_of (tab G r) m) (omega (arith, S.page< l a)) (omega (arith, S.page< m b)) e)

  pub apart : {r : Recorder} → Reached G bad r → (l m : ℕ) → Mapped (tab G r) l → Mapped (tab G r) m
      → flat G (word_of (tab G r) l) ≡ flat G (word_of (tab G r) m) → l ≡ m
  apart {r} h = sound_apart r (reached_sound h)

  -- ---- the fuse

  -- the tests do not look at the fuse
  guarded_ops : (f : ℕ) (a b c d : Bool) (x x' : Lent) (o o' : Outcome) → o.ops ≡ take f o'.ops
      → (guarded a b c d x o).ops ≡ take f (guarded a b c d x' o').ops
  unfolding guarded unless
  guarded_ops f false b c d x x' o o' e = sym (take-nil f)
  guarded_ops f true false c d x x' o o' e = sym (take-nil f)
  guarded_ops f true true false d x x' o o' e = sym (take-nil f)
  guarded_ops f true true true false x x' o o' e = sym (take-nil f)
  guarded_ops f true true true true x x' o o' e = e

  quiet : (f : ℕ) (a b : List Op) → a ≡ [] → b ≡ [] → a ≡ take f b
  quiet f a b p q = p ∙ sym (take-nil f) ∙ ap (take f) (sym q)

  -- "With fuse f the flash ends as it began with the first f of them done"
  pub fused : (c : Call) (f : ℕ) → f < endless → (r : Recorder) → (run G bad c (lit f r)).ops ≡ take f (ops_of G bad c r)
  unfolding formatting write collection list_collection threshold_collection
  fused Format f h r = guarded_ops f _ _ _ _ _ _ _ _ (fused_format G G.n 0 f h (state_of G (lent r [] [])))
  fused Open f h r = quiet f _ _ (opened-flash (lit f r)).1 (opened-flash (lit endless r)).1
  fused (Read sector len o s) f h r = quiet f _ _ (read_unit G sector len (lent (lit f r) o s)).1 (read_unit G sector len (lent (lit endless r) o s)).1
  fused (Write sector len d s) f h r = guarded_ops f _ _ _ _ _ _ _ _ (fused_write G bad f h (state_of G (lent r [] s)) _ _ _)
  fused (Collect s) f h r = guarded_ops f _ _ _ _ _ _ _ _ (fused_collect G bad f h (state_of G (lent r [] s)))
  fused (CollectList m s) f h r = guarded_ops f _ _ _ _ _ _ _ _ (fused_list G bad f h (state_of G (lent r [] s)) m)
  fused (CollectThreshold t m s) f h r = guarded_ops f _ _ _ _ _ _ _ _ (fused_threshold G bad f h (state_of G (lent r [] s)) t m)
  fused (Encode b s) f h r = quiet f _ _ (encoding_unit G (lent (lit f r) b s)).1 (encoding_unit G (lent (lit endless r) b s)).1
  fused (Restore q b s) f h r = quiet f _ _ (restored-flash q b s (lit f r)).1 (restored-flash q b s (lit endless r)).1

  pub fuse_law : (c : Call) (f : ℕ) → f < endless → (r : Recorder)
      → (after G bad c (lit f r)).flash ≡ perform_all G (take f (ops_of G bad c r)) (lit f r).flash
  fuse_law c f h r = performs c (lit f r) ∙ ap (λ os. perform_all G os (lit f r).flash) (fused c f h r)

  pub endless_law : (c : Call) (r : Recorder) → (after G bad c (lit endless r)).flash ≡ perform_all G (ops_of G bad c r) (lit endless r).flash
  endless_law c r = performs c (lit endless r)

-- What a logical page holds is what a read shows: a read is settled by content, and a read behind a write shows what was written.
use Prim.Native.Nat.{ℕ, ◌+◌, ◌*◌, ◌≤◌}
use native.Mathlib.Omega.{arith}
use mathlib.Core.Path.{◌≡◌, refl, sym, ap, ◌∙◌, subst}
use mathlib.Core.Bool.{Bool, true, false, not}
use mathlib.Core.Logic.{◌⊎◌, inl, inr}
use mathlib.Core.List.{List, [], ◌∷◌, ◌++◌}
use lib.Dec.{eqb, ltb, leb}
use lib.ListN.{length, take, drop}
use lib.Seq.{take_at, drop_at, length-take-le}
use borrow.Author.Tests.{eq-eqb, ne_eqb, ltb-true, leb-true, le-leb}
use Rattle.model.specs.Lists.{every, splice}
use Rattle.model.specs.declared.Geometry.{Geometry}
use Rattle.model.specs.Numbers.{Ok}
use Rattle.model.specs.declared.Cause.TheVariants.{Unmapped}
use Rattle.model.specs.Numbers.{Good, good?, empty, logical_page, offset}
use Rattle.model.specs.Tables.{word_of, pages}
use Rattle.model.specs.Sound.{soundb, Mapped}
use Rattle.model.specs.Device.{state, Out}
use Rattle.model.specs.PageWrite.{nothing, holds, content, whole, old_page, write_page}
use Rattle.model.specs.Entry.{Recorder, Lent, lent, Outcome, outcome, unless, guarded, clean, state_of, back, tables_fit, page_scratch, seen_scratch, all_fits, read, write, collecting, collection, list_collection, threshold_collection}
use Rattle.model.specs.History.{Call, Format, Open, Read, Write, Collect, CollectList, CollectThreshold, Encode, Restore, run, after, content_of}
use Rattle.model.proofs.Decide.{counted_test}
use Rattle.model.proofs.Official.{counted_sound}
use Rattle.model.proofs.Slots.{same?}
use Rattle.model.proofs.View.{view-packed}
use Rattle.model.proofs.Content.{content-empty, content_mapped}
use Rattle.model.proofs.Write.{Own, Wrote, wrote, old_length}
use Rattle.model.proofs.Guard.{each, test_good, test_tables, guarded_by, guarded_passes, unless_passes}
use Rattle.model.proofs.Entry.{SoundIn, Fits, all_fit, packed_in, counted_in, collect-content, list_content, threshold_content}
use Rattle.model.proofs.Working.{Counted}
use Rattle.model.proofs.Collect.{Kept, collected, collected_list, collected_threshold}
use Rattle.model.specs.Contract.{Fit}
use Rattle.demands.specs.Given.{state_in, tab}
use Rattle.demands.specs.Unit.{Shows, Collects}

guarded_shows : (a b c d : Bool) (x x' : Lent) (o o' : Outcome) → x.buffer ≡ x'.buffer → x.scratch ≡ x'.scratch → Shows o o'
    → Shows (guarded a b c d x o) (guarded a b c d x' o')
unfolding guarded unless
guarded_shows false b c d x x' o o' p q h = record { answer = refl; buffer = p; scratch = q }
guarded_shows true false c d x x' o o' p q h = record { answer = refl; buffer = p; scratch = q }
guarded_shows true true false d x x' o o' p q h = record { answer = refl; buffer = p; scratch = q }
guarded_shows true true true false x x' o o' p q h = record { answer = refl; buffer = p; scratch = q }
guarded_shows true true true true x x' o o' p q h = h

module _ (G : Geometry) (bad : List ℕ) (sector len : ℕ) (o : List ℕ) (s : List (List ℕ)) where
  abbrev l : ℕ
  l = logical_page G sector

  abbrev shown : Recorder → Outcome
  shown r = outcome (lent r (splice 0 (take len (drop (offset G sector) (whole G (state_in G r) l))) o) s) (Ok len) []

  abbrev read_deed : Recorder → Outcome
  read_deed r = unless (not (eqb (word_of (tab G r) l) empty)) Unmapped (lent r o s) (shown r)

  deed_shows : (r r' : Recorder) → content_of G r l ≡ content_of G r' l → Shows (read_deed r) (read_deed r')
  unfolding unless
  deed_shows r r' e = go (same? (word_of (tab G r) l) empty) (same? (word_of (tab G r') l) empty)
    where
      go : (word_of (tab G r) l ≡ empty) ⊎ Mapped (tab G r) l → (word_of (tab G r') l ≡ empty) ⊎ Mapped (tab G r') l → Shows (read_deed r) (read_deed r')
      go (inl a) (inl b) = rw (eq-eqb _ _ a, eq-eqb _ _ b) (record { answer = refl; buffer = refl; scratch = refl })
      go (inl a) (inr b) =
          absurd (let f : nothing ≡ holds (whole G (state_in G r') l) = sym (content-empty G (state_in G r) l a) ∙ e ∙ content_mapped G (state_in G r') l b in let z : ◌≡◌ {A = ℕ} 0 1 = cc in omega arith)
      go (inr a) (inl b) =
          absurd (let f : nothing ≡ holds (whole G (state_in G r) l) = sym (content-empty G (state_in G r') l b) ∙ sym e ∙ content_mapped G (state_in G r) l a in let z : ◌≡◌ {A = ℕ} 0 1 = cc in omega arith)
      go (inr a) (inr b) =
          let f : holds (whole G (state_in G r) l) ≡ holds (whole G (state_in G r') l) =
          sym (content_mapped G (state_in G r) l a) ∙ e ∙ content_mapped G (state_in G r') l b in
          let q : whole G (state_in G r) l ≡ whole G (state_in G r') l = cc in
          rw (ne_eqb _ _ a, ne_eqb _ _ b)
          (record { answer = refl; buffer = ap (λ w. splice 0 (take len (drop (offset G sector) w)) o) q; scratch = refl })

  abbrev tests : Recorder → Bool
  tests r =
      every (good? G ∷ tables_fit G (lent r o s) ∷ eqb (length r.flash.bytes) (pages G * G.s) ∷ leb len (length o) ∷ clean (seen_scratch G ∷ []) s ∷ [])

  -- two recorders that pass or fail a read's tests alike
  reads_alike : (r r' : Recorder) → tests r ≡ tests r' → soundb G (tab G r) ≡ soundb G (tab G r') → content_of G r l ≡ content_of G r' l
      → Shows (run G bad (Read sector len o s) r) (run G bad (Read sector len o s) r')
  unfolding read
  reads_alike r r' p q e = rw (p, q) (guarded_shows _ _ _ _ (lent r o s) (lent r' o s) _ _ refl refl (deed_shows r r' e))

  same_tests : (r r' : Recorder) → SoundIn G r → SoundIn G r' → length r.flash.bytes ≡ pages G * G.s → length r'.flash.bytes ≡ pages G * G.s
      → tests r ≡ tests r'
  unfolding every
  same_tests r r' S S' b b' =
      rw (
        test_tables G (lent r o s) S.words_size S.used_size,
        test_tables G (lent r' o s) S'.words_size S'.used_size,
        eq-eqb _ _ b,
        eq-eqb _ _ b',
      )

  -- Where two recorders are of the right sizes and sound and hold the same in the logical page, a read of it answers the same and leaves the
  -- same in the buffer, whatever the read is lent
  pub read_by_content : (r r' : Recorder) → SoundIn G r → SoundIn G r'
      → length r.flash.bytes ≡ pages G * G.s → length r'.flash.bytes ≡ pages G * G.s
      → content_of G r (logical_page G sector) ≡ content_of G r' (logical_page G sector)
      → Shows (run G bad (Read sector len o s) r) (run G bad (Read sector len o s) r')
  read_by_content r r' S S' b b' e =
      reads_alike r r' (same_tests r r' S S' b b')
      (counted_test G (tab G r) (counted_in G r S) ∙ sym (counted_test G (tab G r') (counted_in G r' S')))
      e

  -- and what a read of a mapped page shows
  pub shows_content : (r : Recorder) → Good G → SoundIn G r → length r.flash.bytes ≡ pages G * G.s → len ≤ length o
      → clean (seen_scratch G ∷ []) s ≡ true → ltb l G.e ≡ true → leb (offset G sector + len) G.s ≡ true
      → (page : List ℕ) → content_of G r l ≡ holds page
      → run G bad (Read sector len o s) r ≡ outcome (lent r (splice 0 (take len (drop (offset G sector) page)) o) s) (Ok len) []
  unfolding read every
  shows_content r K S b fits tidy below inside page e =
      guarded_passes _ _ _ _ (lent r o s) _
      (rw (test_good G K, test_tables G (lent r o s) S.words_size S.used_size, eq-eqb _ _ b, le-leb _ _ fits, tidy))
      (counted_test G (tab G r) (counted_in G r S))
      below
      inside
      ∙ unless_passes (not (eqb (word_of (tab G r) l) empty)) Unmapped (lent r o s) (shown r) (rw (ne_eqb _ _ mapped))
      ∙ ap (λ w. outcome (lent r (splice 0 (take len (drop (offset G sector) w)) o) s) (Ok len) []) same
    where
      mapped : Mapped (tab G r) l
      mapped a = absurd (let f : nothing ≡ holds page = sym (content-empty G (state_in G r) l a) ∙ e in let z : ◌≡◌ {A = ℕ} 0 1 = cc in omega arith)

      same : whole G (state_in G r) l ≡ page
      same = let f : holds (whole G (state_in G r) l) ≡ holds page = sym (content_mapped G (state_in G r) l mapped) ∙ e in cc

-- ---- behind a collection

by_collection : (P : Call → Type 0) → ((s : List (List ℕ)) → P (Collect s)) → ((m : ℕ) (s : List (List ℕ)) → P (CollectList m s))
    → ((t m : ℕ) (s : List (List ℕ)) → P (CollectThreshold t m s))
    → (c : Call) → Collects c → P c
by_collection P one list below (Collect s) n = one s
by_collection P one list below (CollectList m s) n = list m s
by_collection P one list below (CollectThreshold t m s) n = below t m s
by_collection P one list below Format n = absurd n
by_collection P one list below Open n = absurd n
by_collection P one list below (Read sector len o s) n = absurd n
by_collection P one list below (Write sector len d s) n = absurd n
by_collection P one list below (Encode b s) n = absurd n
by_collection P one list below (Restore q b s) n = absurd n

module _ (G : Geometry) (bad : List ℕ) where
  pub collected_content : (r : Recorder) (l : ℕ) (c : Call) → Collects c → content_of G (after G bad c r) l ≡ content_of G r l
  collected_content r l =
      by_collection (λ c. content_of G (after G bad c r) l ≡ content_of G r l)
      (λ s. collect-content G bad r s l)
      (λ m s. list_content G bad r s l m)
      (λ t m s. threshold_content G bad r s l t m)

  module _ (r : Recorder) (sector len : ℕ) (b : List ℕ) (t : List (List ℕ)) where
    abbrev shows : Recorder → Outcome
    shows r' = run G bad (Read sector len b t) r'

    -- refused by a test, the unit is the same; else it was sound and of the right sizes, and is so still
    collecting_unseen : (s : List (List ℕ)) (o : Out) → ((l : ℕ) → content_of G (collecting G bad (lent r [] s) o).left.unit l ≡ content_of G r l)
        → (Good G → Counted G (tab G r) → Fit G r.flash → Kept G (state_in G r) o)
        → Shows (shows (collecting G bad (lent r [] s) o).left.unit) (shows r)
    collecting_unseen s o same keeps =
        guarded_by (λ y. ((l : ℕ) → content_of G y.left.unit l ≡ content_of G r l) → Shows (shows y.left.unit) (shows r)) _ _ _ _ (lent r [] s) _
        (λ _. unchanged)
        (λ _. unchanged)
        (λ a b _ _ e.
        let X : Fits G bad (lent r [] s) = all_fit G bad _ (lent r [] s) a b in
        let k : Kept G (state_in G r) o = keeps X.good X.counted X.fit in
        read_by_content G bad sector len _ t (back G (lent r [] s) o).left.unit r (packed_in G o.st.tab o.st.flash k.sound)
        (record { words_size = X.words_size; used_size = X.used_size; sound = counted_sound G (tab G r) X.counted })
        k.fit.bytes
        X.fit.bytes
        (e (logical_page G sector)))
        same
      where
        unchanged : Shows (shows r) (shows r)
        unchanged = record { answer = refl; buffer = refl; scratch = refl }

    -- a collection, finished or refused, over whatever was lent, is not seen by any read
    pub read-behind-collection : (c : Call) → Collects c → Shows (shows (after G bad c r)) (shows r)
    unfolding collection list_collection threshold_collection
    read-behind-collection =
        by_collection (λ c. Shows (shows (after G bad c r)) (shows r))
        (λ s. collecting_unseen s _ (λ l. collect-content G bad r s l) (λ K S F. collected G K bad _ S F))
        (λ m s. collecting_unseen s _ (λ l. list_content G bad r s l m) (λ K S F. collected_list G K bad m _ S F))
        (λ t m s. collecting_unseen s _ (λ l. threshold_content G bad r s l t m) (λ K S F. collected_threshold G K bad t m _ S F))

-- ---- behind a write

-- the bytes laid in at off, read from there
laid : (off len : ℕ) (d xs : List ℕ) → length d ≡ len → off + len ≤ length xs → take len (drop off (splice off d xs)) ≡ d
unfolding splice
laid off len d xs e h =
    ap (take len) (drop_at (take off xs) (d ++ drop (off + length d) xs) off (length-take-le off xs (omega arith)))
    ∙ take_at d (drop (off + length d) xs) len e

-- A write that was not refused, and then a read of the same sector and length into any buffer that is long enough: it shows what was written
pub read_back : (G : Geometry) (bad : List ℕ) (sector len m : ℕ) (d : List ℕ) (s : List (List ℕ)) (r : Recorder)
    → (run G bad (Write sector len d s) r).answer ≡ Ok m
    → (o : List ℕ) (s' : List (List ℕ)) → len ≤ length o → clean (seen_scratch G ∷ []) s' ≡ true
    → run G bad (Read sector len o s') (after G bad (Write sector len d s) r)
    ≡ outcome (lent (after G bad (Write sector len d s) r) (splice 0 (take len d) o) s') (Ok len) []
unfolding write
read_back G bad sector len m d s r e o s' ho tidy =
    guarded_by
    (λ y. y.answer ≡ Ok m
    → run G bad (Read sector len o s') y.left.unit ≡ outcome (lent y.left.unit (splice 0 (take len d) o) s') (Ok len) [])
    _ _ _ _ x _
    (λ q. absurd (let z : ◌≡◌ {A = ℕ} 0 1 = cc in omega arith))
    (λ q. absurd (let z : ◌≡◌ {A = ℕ} 0 1 = cc in omega arith))
    (λ a b c f q.
    let t : (i : ℕ) → _ = each (all_fits G bad (page_scratch G ∷ seen_scratch G ∷ []) x ∷ leb len (length d) ∷ []) a in
    let X : Fits G bad x = all_fit G bad _ x (t 0) b in
    let n : length (take len d) ≡ len = length-take-le len d (leb-true _ _ (t 1)) in
    let w : Wrote G (state_of G x) (logical_page G sector) (offset G sector) (take len d) inner =
    wrote G X.good bad (state_of G x) X.counted X.fit (logical_page G sector) (offset G sector) (take len d) (ltb-true _ _ c)
    (rw n (leb-true _ _ f)) in
    let held : content_of G (back G x inner).left.unit (logical_page G sector) ≡ holds page =
    ap (λ t. content G (state t inner.st.flash) (logical_page G sector)) (view-packed w.sound.sized)
    ∙ (subst (Own G (state_of G x) inner.st (logical_page G sector) (offset G sector) (take len d)) q w.own).1 in
    shows_content G bad sector len o s' (back G x inner).left.unit X.good (packed_in G inner.st.tab inner.st.flash w.sound)
    w.fit.bytes ho tidy c f page held
    ∙ ap (λ z. outcome (lent (back G x inner).left.unit (splice 0 z o) s') (Ok len) [])
    (laid (offset G sector) len (take len d) (old_page G (state_of G x) (logical_page G sector)) n
    (rw (old_length G X.good (state_of G x) X.counted X.fit (logical_page G sector)) (leb-true _ _ f))))
    e
  where
    x : Lent
    x = lent r [] s

    inner : Out
    inner = write_page G bad (logical_page G sector) (offset G sector) (take len d) (state_of G x)

    page : List ℕ
    page = splice (offset G sector) (take len d) (old_page G (state_of G x) (logical_page G sector))

-- a write that was not refused was lent data enough
long_enough : (G : Geometry) (bad : List ℕ) (sector len m : ℕ) (d : List ℕ) (s : List (List ℕ)) (r : Recorder)
    → (run G bad (Write sector len d s) r).answer ≡ Ok m → len ≤ length d
unfolding write
long_enough G bad sector len m d s r =
    guarded_by (λ y. y.answer ≡ Ok m → len ≤ length d) _ _ _ _ (lent r [] s) _
    (λ q. absurd (let z : ◌≡◌ {A = ℕ} 0 1 = cc in omega arith))
    (λ q. absurd (let z : ◌≡◌ {A = ℕ} 0 1 = cc in omega arith))
    (λ a _ _ _ _.
    let t : (i : ℕ) → _ = each (all_fits G bad (page_scratch G ∷ seen_scratch G ∷ []) (lent r [] s) ∷ leb len (length d) ∷ []) a in
    leb-true _ _ (t 1))

-- so the buffer's first bytes are the data's first bytes
pub read-after-write : (G : Geometry) (bad : List ℕ) (sector len m : ℕ) (d : List ℕ) (s : List (List ℕ)) (r : Recorder)
    → (run G bad (Write sector len d s) r).answer ≡ Ok m
    → (o : List ℕ) (s' : List (List ℕ)) → len ≤ length o → clean (seen_scratch G ∷ []) s' ≡ true
    → ((run G bad (Read sector len o s') (after G bad (Write sector len d s) r)).answer ≡ Ok len)
    × (take len (run G bad (Read sector len o s') (after G bad (Write sector len d s) r)).left.buffer ≡ take len d)
unfolding splice
read-after-write G bad sector len m d s r e o s' ho tidy =
    let q : _ = read_back G bad sector len m d s r e o s' ho tidy in (
      ap (λ (y : Outcome). y.answer) q,
      ap (λ (y : Outcome). take len y.left.buffer) q
          ∙ take_at (take len d) (drop (0 + length (take len d)) o) len (length-take-le len d (long_enough G bad sector len m d s r e)),
    )

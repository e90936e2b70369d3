-- What the tests of each public call say, in words, and the call as its tests and its deed.
use Prim.Native.Nat.{ℕ, ◌+◌, ◌*◌, ◌≤◌, ◌<◌}
use native.Mathlib.Omega.{arith}
use mathlib.Core.Path.{◌≡◌, refl, sym, ap, ◌∙◌}
use mathlib.Core.Bool.{Bool, true, false, not, ◌&&◌}
use mathlib.Core.List.{List, [], ◌∷◌, map}
use lib.Dec.{eqb, ltb, leb}
use lib.ListN.{length, take, drop, length-replicate}
use borrow.Author.Tests.{eqb-true, eq-eqb, ltb-true, leb-true, lt-ltb, le-leb}
use Rattle.model.specs.declared.Geometry.{Geometry}
use Rattle.model.specs.Numbers.{Ok}
use Rattle.model.specs.declared.Cause.TheVariants.{Unmapped, Reason}
use Rattle.model.specs.Lists.{every, blank, splice, zeros}
use Rattle.model.specs.Numbers.{good?, empty, logical_page, offset}
use Rattle.model.specs.Tables.{word_of, tab_words, pages, packed}
use Rattle.model.specs.Sound.{Sound, soundb}
use Rattle.model.specs.Device.{Flash, Out, format_from}
use Rattle.model.specs.PageWrite.{whole, write_page}
use Rattle.model.specs.PageGc.{collect, collect_list, collect_threshold}
use Rattle.model.specs.Checkpoint.{opened, sealed, file_size, reason_of, restored_by}
use Rattle.model.specs.Entry.{Recorder, recorder, Lent, lent, Outcome, outcome, unless, guarded, clean, back, tables_fit, flash_fits, page_scratch, seen_scratch, all_fits}
use Rattle.model.specs.Entry.{formatting, opening, read, write, collection, list_collection, threshold_collection, encoding, restoring}
use Rattle.model.specs.History.{Call, Format, Open, Read, Write, Collect, CollectList, CollectThreshold, Encode, Restore, run}
use Rattle.model.specs.Contract.{Fit}
use Rattle.model.proofs.View.{sized-view}
use Rattle.model.proofs.Official.{counted_sound, sound_counted, soundb_counted}
use Rattle.model.proofs.Decide.{counted_test}
use Rattle.model.proofs.Guard.{both, each, good_test, test_good, tables_test, test_tables, flash_test, zeros-blank, blank_is}
use Rattle.model.proofs.Entry.{Fits}
use Rattle.demands.specs.Given.{Exactly, tab, state_in, lent_to, TablesFit, AllFits, SizesRight, TablesSound, Within}

-- two answers of one test
pub clash : {A : Type 0} → true ≡ false → A
clash e = absurd (let z : ◌≡◌ {A = ℕ} 0 1 = cc in omega arith)

pub not_flips : (b : Bool) → not b ≡ false → b ≡ true
not_flips true e = refl
not_flips false e = clash e

pub flips_not : (b : Bool) → not b ≡ true → b ≡ false
flips_not true e = clash (sym e)
flips_not false e = refl

-- ---- scratch: `clean` is all zeros, of these sizes

clean_is : (ks : List ℕ) (xs : List (List ℕ)) → clean ks xs ≡ true → xs ≡ map zeros ks
unfolding clean
clean_is [] [] e = refl
clean_is [] (x ∷ xs) e = clash (sym e)
clean_is (k ∷ ks) [] e = clash (sym e)
clean_is (k ∷ ks) (x ∷ xs) e =
    let h : ((eqb (length x) k && blank x) ≡ true) × (clean ks xs ≡ true) = both _ _ e in
    let g : (eqb (length x) k ≡ true) × (blank x ≡ true) = both _ _ h.0 in
    ap (λ y. y ∷ xs) (blank_is x g.1 ∙ ap zeros (eqb-true (length x) k g.0)) ∙ ap (λ ys. zeros k ∷ ys) (clean_is ks xs h.1)

zeros-clean : (ks : List ℕ) → clean ks (map zeros ks) ≡ true
unfolding clean
zeros-clean [] = refl
zeros-clean (k ∷ ks) = rw (eq-eqb (length (zeros k)) k (length-replicate k 0), zeros-blank k) (zeros-clean ks)

pub is_clean : (ks : List ℕ) (xs : List (List ℕ)) → xs ≡ map zeros ks → clean ks xs ≡ true
is_clean ks xs e = ap (clean ks) e ∙ zeros-clean ks

-- ---- geometry and sizes

pub test_flash : (G : Geometry) (f : Flash) → Fit G f → flash_fits G f ≡ true
test_flash G f F = rw (eq-eqb _ _ F.bytes, eq-eqb _ _ F.marks, eq-eqb _ _ F.counts)

module _ (G : Geometry) where
  fit_tables : (x : Lent) → tables_fit G x ≡ true → TablesFit G x.unit
  fit_tables x e =
      let h : (length x.unit.words ≡ tab_words G) × (length x.unit.used ≡ pages G) = tables_test G x e in
      record { words = h.0; used = h.1 }

  module _ (bad : List ℕ) where
    -- the tests, as the definitions of the entries make them
    abbrev pub sizes : Call → Recorder → Bool
    sizes Format r = every (good? G ∷ flash_fits G r.flash ∷ [])
    sizes Open r = every (good? G ∷ tables_fit G (lent r [] []) ∷ [])
    sizes (Read sector len o s) r =
        every
        (good? G
        ∷ tables_fit G (lent r o s)
        ∷ eqb (length r.flash.bytes) (pages G * G.s)
        ∷ leb len (length o)
        ∷ clean (seen_scratch G ∷ []) s
        ∷ [])
    sizes (Write sector len d s) r = every (all_fits G bad (page_scratch G ∷ seen_scratch G ∷ []) (lent r [] s) ∷ leb len (length d) ∷ [])
    sizes (Collect s) r = all_fits G bad (page_scratch G ∷ seen_scratch G ∷ G.n ∷ []) (lent r [] s)
    sizes (CollectList m s) r = all_fits G bad (page_scratch G ∷ seen_scratch G ∷ G.n ∷ []) (lent r [] s)
    sizes (CollectThreshold t m s) r = all_fits G bad (page_scratch G ∷ seen_scratch G ∷ G.n ∷ []) (lent r [] s)
    sizes (Encode b s) r = every (good? G ∷ tables_fit G (lent r b s) ∷ leb (file_size G) (length b) ∷ clean (seen_scratch G ∷ []) s ∷ [])
    sizes (Restore q b s) r = every (good? G ∷ tables_fit G (lent r [] s) ∷ clean (pages G ∷ []) s ∷ [])

    all_exactly : (ks : List ℕ) (x : Lent) → Exactly (all_fits G bad ks x ≡ true) (AllFits G bad ks x.scratch x.unit)
    unfolding every
    all_exactly ks x =
        record {
          only = λ a.
              let t : (i : ℕ) → _ =
              each (good? G ∷ tables_fit G x ∷ flash_fits G x.unit.flash ∷ eqb (length bad) G.n ∷ clean ks x.scratch ∷ []) a in
              record {
                geometry = good_test G (t 0);
                tables = fit_tables x (t 1);
                flash = flash_test G x.unit.flash (t 2);
                bad_list = eqb-true _ _ (t 3);
                scratch = clean_is ks x.scratch (t 4);
              };
          whenever = λ h.
              rw (
                test_good G h.geometry,
                test_tables G x h.tables.words h.tables.used,
                test_flash G x.unit.flash h.flash,
                eq-eqb _ _ h.bad_list,
                is_clean ks x.scratch h.scratch,
              );
        }

    -- "geometry and sizes"
    pub sizes_exactly : (c : Call) (r : Recorder) → Exactly (sizes c r ≡ true) (SizesRight G bad c r)
    unfolding every
    sizes_exactly Format r =
        record {
          only = λ a. let t : (i : ℕ) → _ = each (good? G ∷ flash_fits G r.flash ∷ []) a in (good_test G (t 0), flash_test G r.flash (t 1));
          whenever = λ h. rw (test_good G h.0, test_flash G r.flash h.1);
        }
    sizes_exactly Open r =
        let x : Lent = lent r [] [] in
        record {
          only = λ a. let t : (i : ℕ) → _ = each (good? G ∷ tables_fit G x ∷ []) a in (good_test G (t 0), fit_tables x (t 1));
          whenever = λ h. rw (test_good G h.0, test_tables G x h.1.words h.1.used);
        }
    sizes_exactly (Read sector len o s) r =
        let x : Lent = lent r o s in
        record {
          only = λ a.
              let t : (i : ℕ) → _ =
              each (good? G ∷ tables_fit G x ∷ eqb (length r.flash.bytes) (pages G * G.s) ∷ leb len (length o) ∷ clean (seen_scratch G ∷ []) s ∷ []) a in
              (good_test G (t 0), fit_tables x (t 1), eqb-true _ _ (t 2), leb-true _ _ (t 3), clean_is _ s (t 4));
          whenever = λ h.
              rw (test_good G h.0, test_tables G x h.1.words h.1.used, eq-eqb _ _ h.2, le-leb _ _ h.3, is_clean (seen_scratch G ∷ []) s h.4);
        }
    sizes_exactly (Write sector len d s) r =
        record {
          only = λ a.
              let t : (i : ℕ) → _ = each (all_fits G bad (page_scratch G ∷ seen_scratch G ∷ []) (lent r [] s) ∷ leb len (length d) ∷ []) a in
              ((all_exactly _ (lent r [] s)).only (t 0), leb-true _ _ (t 1));
          whenever = λ h. rw ((all_exactly (page_scratch G ∷ seen_scratch G ∷ []) (lent r [] s)).whenever h.0, le-leb _ _ h.1);
        }
    sizes_exactly (Collect s) r = all_exactly _ (lent r [] s)
    sizes_exactly (CollectList m s) r = all_exactly _ (lent r [] s)
    sizes_exactly (CollectThreshold t m s) r = all_exactly _ (lent r [] s)
    sizes_exactly (Encode b s) r =
        let x : Lent = lent r b s in
        record {
          only = λ a.
              let t : (i : ℕ) → _ = each (good? G ∷ tables_fit G x ∷ leb (file_size G) (length b) ∷ clean (seen_scratch G ∷ []) s ∷ []) a in
              (good_test G (t 0), fit_tables x (t 1), leb-true _ _ (t 2), clean_is _ s (t 3));
          whenever = λ h. rw (test_good G h.0, test_tables G x h.1.words h.1.used, le-leb _ _ h.2, is_clean (seen_scratch G ∷ []) s h.3);
        }
    sizes_exactly (Restore q b s) r =
        let x : Lent = lent r [] s in
        record {
          only = λ a.
              let t : (i : ℕ) → _ = each (good? G ∷ tables_fit G x ∷ clean (pages G ∷ []) s ∷ []) a in
              (good_test G (t 0), fit_tables x (t 1), clean_is _ s (t 2));
          whenever = λ h. rw (test_good G h.0, test_tables G x h.1.words h.1.used, is_clean (pages G ∷ []) s h.2);
        }

  -- ---- soundness, logical page, page overrun

  abbrev pub sound_test : Call → Recorder → Bool
  sound_test Format r = true
  sound_test Open r = true
  sound_test (Restore q b s) r = true
  sound_test (Read sector len o s) r = soundb G (tab G r)
  sound_test (Write sector len d s) r = soundb G (tab G r)
  sound_test (Collect s) r = soundb G (tab G r)
  sound_test (CollectList m s) r = soundb G (tab G r)
  sound_test (CollectThreshold t m s) r = soundb G (tab G r)
  sound_test (Encode b s) r = soundb G (tab G r)

  abbrev pub page_test : Call → Bool
  page_test (Read sector len o s) = ltb (logical_page G sector) G.e
  page_test (Write sector len d s) = ltb (logical_page G sector) G.e
  page_test Format = true
  page_test Open = true
  page_test (Collect s) = true
  page_test (CollectList m s) = true
  page_test (CollectThreshold t m s) = true
  page_test (Encode b s) = true
  page_test (Restore q b s) = true

  abbrev pub overrun_test : Call → Bool
  overrun_test (Read sector len o s) = leb (offset G sector + len) G.s
  overrun_test (Write sector len d s) = leb (offset G sector + len) G.s
  overrun_test Format = true
  overrun_test Open = true
  overrun_test (Collect s) = true
  overrun_test (CollectList m s) = true
  overrun_test (CollectThreshold t m s) = true
  overrun_test (Encode b s) = true
  overrun_test (Restore q b s) = true

  soundb_exactly : (r : Recorder) → TablesFit G r → Exactly (soundb G (tab G r) ≡ true) (Sound G (tab G r))
  soundb_exactly r h =
      record {
        only = λ b. counted_sound G (tab G r) (soundb_counted G (tab G r) (sized-view G r.words r.used h.words h.used) b);
        whenever = λ S. counted_test G (tab G r) (sound_counted G (tab G r) (sized-view G r.words r.used h.words h.used) S);
      }

  -- and what a write and the collections find there
  pub fits_of : (bad : List ℕ) {ks : List ℕ} (s : List (List ℕ)) (r : Recorder) → AllFits G bad ks s r → Sound G (tab G r) → Fits G bad (lent r [] s)
  fits_of bad s r A S =
      record {
        good = A.geometry;
        words_size = A.tables.words;
        used_size = A.tables.used;
        fit = A.flash;
        bad_size = A.bad_list;
        counted = sound_counted G (tab G r) (sized-view G r.words r.used A.tables.words A.tables.used) S;
      }

  always : Exactly (true ≡ true) (Unit {0})
  always = record { only = λ _. tt; whenever = λ _. refl }

  pub sound_exactly : (bad : List ℕ) (c : Call) (r : Recorder) → SizesRight G bad c r → Exactly (sound_test c r ≡ true) (TablesSound G c r)
  sound_exactly bad Format r h = always
  sound_exactly bad Open r h = always
  sound_exactly bad (Restore q b s) r h = always
  sound_exactly bad (Read sector len o s) r h = soundb_exactly r h.1
  sound_exactly bad (Write sector len d s) r h = soundb_exactly r h.0.tables
  sound_exactly bad (Collect s) r h = soundb_exactly r h.tables
  sound_exactly bad (CollectList m s) r h = soundb_exactly r h.tables
  sound_exactly bad (CollectThreshold t m s) r h = soundb_exactly r h.tables
  sound_exactly bad (Encode b s) r h = soundb_exactly r h.1

  abbrev pub Inside : Call → Type 0
  Inside c = (page_test c ≡ true) × (overrun_test c ≡ true)

  sector_exactly : (sector len : ℕ)
      → Exactly ((ltb (logical_page G sector) G.e ≡ true) × (leb (offset G sector + len) G.s ≡ true)) ((logical_page G sector < G.e) × (offset G sector + len ≤ G.s))
  sector_exactly sector len =
      record { only = λ h. (ltb-true _ _ h.0, leb-true _ _ h.1); whenever = λ h. (lt-ltb _ _ h.0, le-leb _ _ h.1) }

  anywhere : Exactly ((true ≡ true) × (true ≡ true)) (Unit {0})
  anywhere = record { only = λ _. tt; whenever = λ _. (refl, refl) }

  pub within_exactly : (c : Call) → Exactly (Inside c) (Within G c)
  within_exactly (Read sector len o s) = sector_exactly sector len
  within_exactly (Write sector len d s) = sector_exactly sector len
  within_exactly Format = anywhere
  within_exactly Open = anywhere
  within_exactly (Collect s) = anywhere
  within_exactly (CollectList m s) = anywhere
  within_exactly (CollectThreshold t m s) = anywhere
  within_exactly (Encode b s) = anywhere
  within_exactly (Restore q b s) = anywhere

  -- ---- the deed: what a call does where its tests pass

  module _ (bad : List ℕ) where
    abbrev put_back : Lent → Out → Outcome
    put_back x o = back G x o

    unfoldable pub deed : Call → Recorder → Outcome
    deed Format r =
        let o = format_from G G.n 0 (state_in G r) in
        outcome (lent (recorder r.words r.used o.st.flash) [] []) o.answer o.ops
    deed Open r =
        let t = opened G (tab G r).alloc in
        outcome (lent (recorder (packed t) t.used r.flash) [] []) (Ok 0) []
    deed (Read sector len o s) r =
        unless (not (eqb (word_of (tab G r) (logical_page G sector)) empty)) Unmapped (lent r o s)
        (outcome (lent r (splice 0 (take len (drop (offset G sector) (whole G (state_in G r) (logical_page G sector)))) o) s) (Ok len) [])
    deed (Write sector len d s) r =
        put_back (lent r [] s) (write_page G bad (logical_page G sector) (offset G sector) (take len d) (state_in G r))
    deed (Collect s) r = put_back (lent r [] s) (collect G bad (state_in G r))
    deed (CollectList m s) r = put_back (lent r [] s) (collect_list G bad m (state_in G r))
    deed (CollectThreshold t m s) r = put_back (lent r [] s) (collect_threshold G bad t m (state_in G r))
    deed (Encode b s) r = outcome (lent r (splice 0 (sealed G (tab G r)) b) s) (Ok (file_size G)) []
    deed (Restore q b s) r =
        let t = restored_by G q b in
        unless (eqb (reason_of G b) 0) (Reason (reason_of G b)) (lent r [] s)
        (outcome (lent (recorder (packed t) t.used r.flash) [] s) (Ok 0) [])

    pub run_is : (c : Call) (r : Recorder)
        → run G bad c r ≡ guarded (sizes bad c r) (sound_test c r) (page_test c) (overrun_test c) (lent_to c r) (deed c r)
    unfolding formatting opening read write encoding restoring collection list_collection threshold_collection deed
    run_is Format r = refl
    run_is Open r = refl
    run_is (Read sector len o s) r = refl
    run_is (Write sector len d s) r = refl
    run_is (Collect s) r = refl
    run_is (CollectList m s) r = refl
    run_is (CollectThreshold t m s) r = refl
    run_is (Encode b s) r = refl
    run_is (Restore q b s) r = refl

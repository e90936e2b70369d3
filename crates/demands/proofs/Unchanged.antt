-- 01's rows whose third column is "nothing changed" (22, 117, 61, a write's 14 or 28, a restore's reasons): nothing that was lent has changed, and no
-- device operation was done. And "zero scratch is handed back zero".
use Prim.Native.Nat.{ℕ, zero, suc}
use mathlib.Core.Path.{◌≡◌, refl, sym, ap, ◌∙◌, subst}
use mathlib.Core.Bool.{Bool, true, false, cond}
use mathlib.Core.List.{List, [], ◌∷◌}
use lib.Dec.{eqb, leb}
use lib.ListN.{length, take}
use Rattle.model.specs.declared.Geometry.{Geometry}
use Rattle.model.specs.Numbers.{Answer}
use Rattle.model.specs.declared.Cause.{Cause}
use Rattle.model.specs.Numbers.{Ok, Err}
use Rattle.model.specs.declared.Cause.TheVariants.{Unmapped, Reason}
use Rattle.model.specs.Numbers.{good?, logical_page, offset}
use Rattle.model.specs.Causes.{Failing, Kind, in_tests, in_read, in_write, in_copy, in_erase, in_file, kind_of}
use Rattle.model.specs.Tables.{view, tab_words}
use Rattle.model.specs.Device.{EraseSeg, State, state, Out, finish, behind, go_on, blanked, format_from}
use Rattle.model.specs.PageWrite.{whole, write_page}
use Rattle.model.specs.PageGc.{victim, copy_answer, finish_of, last_of, copy_one, collect, collect_more, collect_list, collect_threshold}
use Rattle.model.specs.Checkpoint.{file_size, reason_of}
use Rattle.model.specs.Entry.{Recorder, recorder, Lent, lent, Outcome, back, state_of, tables_fit, flash_fits, clean, page_scratch, seen_scratch, all_fits, collecting}
use Rattle.model.specs.Entry.{formatting, opening, read, write, collection, list_collection, threshold_collection, encoding, restoring}
use Rattle.model.specs.History.{Call, Format, Open, Read, Write, Collect, CollectList, CollectThreshold, Encode, Restore, run}
use Rattle.model.proofs.View.{packed-view}
use Rattle.model.proofs.Guard.{each, tables_test, unless_by, guarded_by}
use Rattle.demands.specs.Given.{lent_to}
use Rattle.demands.specs.Left.{Quiet}
use Rattle.demands.proofs.Walk.{write_by, finish_by, collect_by, more_by, threshold_by}

-- what a collection's passes may answer
abbrev pub InPass : Kind → Type 0
InPass in_tests = ⊥
InPass in_read = ⊥
InPass (in_write f) = ⊥
InPass (in_copy f) = Unit {0}
InPass in_erase = Unit {0}
InPass (in_file r) = ⊥

abbrev pub Pass : Answer → Type 0
Pass (Ok m) = Unit {0}
Pass (Err c) = InPass (kind_of c)

pub pass_kind : (P : Kind → Type 0) → ((f : Failing) → P (in_copy f)) → P in_erase → (k : Kind) → InPass k → P k
pass_kind P copy erase in_tests h = absurd h
pass_kind P copy erase in_read h = absurd h
pass_kind P copy erase (in_write f) h = absurd h
pass_kind P copy erase (in_copy f) h = copy f
pass_kind P copy erase in_erase h = erase
pass_kind P copy erase (in_file r) h = absurd h

pass_then : (a : Answer) (o : Out) (f : State → Out) → Pass o.answer → Pass (f o.st).answer → Pass (go_on a o f).answer
pass_then (Ok m) o f h r = r
pass_then (Err c) o f h r = h

module _ (G : Geometry) (bad : List ℕ) where
  abbrev PassOut : State → Out → Type 0
  PassOut st o = Pass o.answer

  copy_pass : (v : ℕ) (st : State) → Pass (copy_one G bad v st).answer
  copy_pass v st =
      let l : ℕ = last_of G v st.tab in
      write_by G bad (λ o. Pass (copy_answer o.answer)) l 0 (whole G st l) st tt (λ _ _ _. tt) (λ _ _ _. tt)

  finish_pass : (v : ℕ) (st : State) → Pass (finish_of G v st).answer
  finish_pass v st = finish_by G bad (λ o. Pass o.answer) v st tt tt

  went_pass : (st : State) (o : Out) (rest : State → Out) → Pass o.answer → Pass (rest o.st).answer → Pass (go_on o.answer o rest).answer
  went_pass st o rest = pass_then o.answer o rest

  pub collect_pass : (st : State) → Pass (collect G bad st).answer
  collect_pass st = collect_by G bad PassOut (λ _ _. tt) copy_pass (λ _ _ h. h) went_pass st (λ _. finish_pass (victim st.tab))

  pub more_pass : (m c : ℕ) (st : State) → Pass (collect_more G bad m c st).answer
  more_pass = more_by G bad PassOut (λ _ _. tt) copy_pass (λ _ _ h. h) went_pass finish_pass

  pub threshold_pass : (t m : ℕ) (st : State) → Pass (collect_threshold G bad t m st).answer
  threshold_pass = threshold_by G bad PassOut (λ _ _. tt) copy_pass (λ _ _ h. h) went_pass finish_pass

  pub formats_all : (j g : ℕ) (st : State) → (format_from G j g st).answer ≡ Ok 0
  unfolding format_from
  formats_all zero g st = refl
  formats_all (suc j) g st = go (eqb st.flash.fuse 0) (formats_all j (suc g) (state st.tab (blanked G g 0 st.flash)))
    where
      go : (b : Bool) → (format_from G j (suc g) (state st.tab (blanked G g 0 st.flash))).answer ≡ Ok 0
          → (cond b (finish 0 st) (behind (EraseSeg g 0 ∷ []) (format_from G j (suc g) (state st.tab (blanked G g 0 st.flash))))).answer ≡ Ok 0
      go true ih = refl
      go false ih = ih

  module _ (k : Cause) (q : Quiet (kind_of k)) where
    abbrev Stays : Lent → Outcome → Type 0
    Stays x o = o.answer ≡ Err k → (o.left ≡ x) × (o.ops ≡ [])

    none : {A : Type 0} (a : Answer) → Pass a → a ≡ Err k → A
    none a h e = absurd (pass_kind (λ k. Quiet k → ⊥) (λ _ z. z) (λ z. z) (kind_of k) (subst Pass e h) q)

    collecting_stays : (x : Lent) (o : Out) → Pass o.answer → Stays x (collecting G bad x o)
    collecting_stays x o h = guarded_by (Stays x) _ _ _ _ x _ (λ _. (refl, refl)) (λ _. (refl, refl)) (λ _ _ _ _ e. none o.answer h e)

    abbrev Loudly : Answer → Type 0
    Loudly (Ok m) = Unit {0}
    Loudly (Err c) = Quiet (kind_of c) → ⊥

    inner_stays : (x : Lent) → length x.unit.words ≡ tab_words G → (l off : ℕ) (c : List ℕ)
        → Stays x (back G x (write_page G bad l off c (state_of G x)))
    unfolding view
    inner_stays x w l off c =
        write_by G bad (λ o. Stays x (back G x o)) l off c (state_of G x)
        (λ _.
        (ap (λ z. lent (recorder z x.unit.used x.unit.flash) x.buffer x.scratch) (packed-view G x.unit.words x.unit.used w), refl))
        (λ _ _ _ e. none (Ok (length c)) tt e)
        (λ _ _ _ e. absurd (subst Loudly e (λ z. z) q))

    write_stays : (sector len : ℕ) (d : List ℕ) (x : Lent) → Stays x (write G bad sector len d x)
    unfolding write
    write_stays sector len d x =
        guarded_by (Stays x) _ _ _ _ x _ (λ _. (refl, refl)) (λ _. (refl, refl))
        (λ a _ _ _.
        let t : (i : ℕ) → _ = each (all_fits G bad (page_scratch G ∷ seen_scratch G ∷ []) x ∷ leb len (length d) ∷ []) a in
        let u : (i : ℕ) → _ = each (good? G ∷ tables_fit G x ∷ flash_fits G x.unit.flash ∷ eqb (length bad) G.n ∷ clean (page_scratch G ∷ seen_scratch G ∷ []) x.scratch ∷ []) (t 0) in
        inner_stays x (tables_test G x (u 1)).0 (logical_page G sector) (offset G sector) (take len d))

    pub stays : (c : Call) (r : Recorder) → (run G bad c r).answer ≡ Err k → ((run G bad c r).left ≡ lent_to c r) × ((run G bad c r).ops ≡ [])
    unfolding formatting opening read encoding restoring collection list_collection threshold_collection collect_list
    stays Format r =
        guarded_by (Stays (lent r [] [])) _ _ _ _ _ _ (λ _. (refl, refl)) (λ _. (refl, refl))
        (λ _ _ _ _ e. none (Ok 0) tt (sym (formats_all G.n 0 (state_of G (lent r [] []))) ∙ e))
    stays Open r = guarded_by (Stays (lent r [] [])) _ _ _ _ _ _ (λ _. (refl, refl)) (λ _. (refl, refl)) (λ _ _ _ _ e. none (Ok 0) tt e)
    stays (Read sector len o s) r =
        guarded_by (Stays (lent r o s)) _ _ _ _ _ _ (λ _. (refl, refl)) (λ _. (refl, refl))
        (λ _ _ _ _. unless_by (Stays (lent r o s)) _ Unmapped (lent r o s) _ (λ _. (refl, refl)) (λ _ e. none (Ok len) tt e))
    stays (Write sector len d s) r = write_stays sector len d (lent r [] s)
    stays (Collect s) r = collecting_stays (lent r [] s) _ (collect_pass (state_of G (lent r [] s)))
    stays (CollectList m s) r = collecting_stays (lent r [] s) _ (more_pass m 0 (state_of G (lent r [] s)))
    stays (CollectThreshold t m s) r = collecting_stays (lent r [] s) _ (threshold_pass t m (state_of G (lent r [] s)))
    stays (Encode b s) r =
        guarded_by (Stays (lent r b s)) _ _ _ _ _ _ (λ _. (refl, refl)) (λ _. (refl, refl)) (λ _ _ _ _ e. none (Ok (file_size G)) tt e)
    stays (Restore q b s) r =
        guarded_by (Stays (lent r [] s)) _ _ _ _ _ _ (λ _. (refl, refl)) (λ _. (refl, refl))
        (λ _ _ _ _. unless_by (Stays (lent r [] s)) _ (Reason (reason_of G b)) (lent r [] s) _ (λ _. (refl, refl)) (λ _ e. none (Ok 0) tt e))

  -- ---- scratch comes back as it was lent, whatever the answer

  abbrev Hands : Lent → Outcome → Type 0
  Hands x o = o.left.scratch ≡ x.scratch

  pub scratch_back : (c : Call) (r : Recorder) → (run G bad c r).left.scratch ≡ (lent_to c r).scratch
  unfolding formatting opening read write collection list_collection threshold_collection encoding restoring
  scratch_back Format r = guarded_by (Hands (lent r [] [])) _ _ _ _ _ _ refl refl (λ _ _ _ _. refl)
  scratch_back Open r = guarded_by (Hands (lent r [] [])) _ _ _ _ _ _ refl refl (λ _ _ _ _. refl)
  scratch_back (Read sector len o s) r =
      guarded_by (Hands (lent r o s)) _ _ _ _ _ _ refl refl (λ _ _ _ _. unless_by (Hands (lent r o s)) _ Unmapped (lent r o s) _ refl (λ _. refl))
  scratch_back (Write sector len d s) r = guarded_by (Hands (lent r [] s)) _ _ _ _ _ _ refl refl (λ _ _ _ _. refl)
  scratch_back (Collect s) r = guarded_by (Hands (lent r [] s)) _ _ _ _ _ _ refl refl (λ _ _ _ _. refl)
  scratch_back (CollectList m s) r = guarded_by (Hands (lent r [] s)) _ _ _ _ _ _ refl refl (λ _ _ _ _. refl)
  scratch_back (CollectThreshold t m s) r = guarded_by (Hands (lent r [] s)) _ _ _ _ _ _ refl refl (λ _ _ _ _. refl)
  scratch_back (Encode b s) r = guarded_by (Hands (lent r b s)) _ _ _ _ _ _ refl refl (λ _ _ _ _. refl)
  scratch_back (Restore q b s) r =
      guarded_by (Hands (lent r [] s)) _ _ _ _ _ _ refl refl
      (λ _ _ _ _. unless_by (Hands (lent r [] s)) _ (Reason (reason_of G b)) (lent r [] s) _ refl (λ _. refl))

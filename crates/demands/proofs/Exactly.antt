-- 01's table, "Given exactly when": for each public call, on every input, exactly when it gives each answer.
use Prim.Native.Nat.{ℕ, zero, suc, ◌+◌, ◌≤◌, ◌<◌}
use native.Mathlib.Omega.{arith}
use mathlib.Core.Path.{◌≡◌, refl, sym, ap, ◌∙◌, subst}
use mathlib.Core.Bool.{Bool, true, false, cond, not, ◌&&◌}
use mathlib.Core.Logic.{◌⊎◌, inl, inr, ⊎_elim, ◌≢◌}
use mathlib.Core.List.{List, []}
use lib.Dec.{eqb, ltb}
use lib.ListN.{length, take}
use lib.Seq.{length-take-le}
use borrow.Author.Tests.{eqb-true, eqb-false, eq-eqb, ne_eqb, lt-ltb, le-ltb}
use Rattle.model.specs.Lists.{total}
use Rattle.model.specs.declared.Geometry.{Geometry}
use Rattle.model.specs.Numbers.{Answer}
use Rattle.model.specs.declared.Cause.{Cause}
use Rattle.model.specs.Numbers.{Ok, Err}
use Rattle.model.specs.declared.Cause.TheVariants.{Wrong, Unsound, Unmapped, NoRoom, Device, CopyNoRoom, CopyDevice, Erase, Reason}
use Rattle.model.specs.Numbers.{Good, empty, logical_page, offset}
use Rattle.model.specs.Causes.{Kind, in_tests, in_read, in_write, in_copy, in_erase, in_file, kind_of, ByCopy}
use Rattle.model.specs.Tables.{Tables, at, word_of}
use Rattle.model.specs.Sound.{Mapped}
use Rattle.model.specs.Device.{Flash, Op, State, state, Out, out, go_on, may_erase, finish}
use Rattle.model.specs.PageMap.{None}
use Rattle.model.specs.PageMap.{find}
use Rattle.model.specs.PageWrite.{whole, write_page}
use Rattle.model.specs.PageGc.{victim, taken, copy_answer, last_of, finish_of, copy_one, drain, collect_of, collect, collect_more, collect_list, collect_threshold}
use Rattle.model.specs.Checkpoint.{file_size, reason_of}
use Rattle.model.specs.Entry.{Recorder, Lent, lent, Outcome}
use Rattle.model.specs.declared.Queueing.{Queueing}
use Rattle.model.specs.History.{Call, Format, Open, Read, Write, Collect, CollectList, CollectThreshold, Encode, Restore, run, IsRefused}
use Rattle.model.specs.Contract.{Fit}
use Rattle.model.proofs.Working.{Counted}
use Rattle.model.proofs.Slots.{same?, less?}
use Rattle.model.proofs.Guard.{guarded_passes, unless_passes}
use Rattle.model.proofs.Refusals.{guarded_sizes, guarded_sound, guarded_page, guarded_overrun}
use Rattle.model.proofs.Entry.{Fits}
use Rattle.model.proofs.Collect.{W, Kept, collected}
use Rattle.demands.proofs.Unchanged.{formats_all, pass_kind, Pass, collect_pass, more_pass, threshold_pass}
use Rattle.demands.proofs.Passed.{guarded_ends, unless_ends}
use Rattle.model.proofs.Find.{Full, Free, found}
use Rattle.model.proofs.Turns.{write_none, write-spent, write-stored, collect_none, threshold_above, threshold_below, finish-done, finish-refused}
use Rattle.model.proofs.Taken.{taken_sound, victim_flag, victim_full, victim_seg}
use Rattle.demands.proofs.Ends.{Stored, WriteEnds, write_ends, DrainEnd, DrainEnds, drain_ends}
use Rattle.demands.proofs.Tested.{clash, not_flips, flips_not, sizes, sizes_exactly, sound_test, sound_exactly, page_test, overrun_test, Inside, within_exactly, deed, run_is, fits_of}
use Rattle.demands.specs.Given.{Exactly, tab, state_in, lent_to, SizesRight, TablesSound, Within, Passed}
use Rattle.demands.specs.When.{NoneFree, CopyWhy, Copies, CopyFails, AllCopied, PassWhen, Passes, LastPass, Counts, PassFails, ListWhen, ThresholdWhen, DeedWhen, WrongWhen, UnsoundWhen, When, Finds, none, copy, start, pass}
use Rattle.demands.specs.Left.{Spent}
use Rattle.demands.proofs.Walk.{write_by}

not-true : (b : Bool) → (b ≡ true → ⊥) → b ≡ false
not-true true n = absurd (n refl)
not-true false n = refl

-- sound tables with no free page outside the bad list
nothing_free : (G : Geometry) (K : Good G) (bad : List ℕ) (t : Tables) (S : Counted G t) → NoneFree G bad t → find G bad t ≡ None
nothing_free G K bad t S n = go (found G K t S bad)
  where
    go : Full G K t S bad (find G bad t) ⊎ Free G K t S bad (find G bad t) → find G bad t ≡ None
    go (inl h) = h.is
    go (inr h) = absurd (let z : at t.free h.seg ≡ 0 = n h.seg h.next.seg h.good in omega (arith, h.next.some_free))

module _ (G : Geometry) (bad : List ℕ) where
  -- where its tests pass no call answers 22 or 117
  abbrev InDeed : Kind → Type 0
  InDeed in_tests = ⊥
  InDeed in_read = Unit {0}
  InDeed (in_write f) = Unit {0}
  InDeed (in_copy f) = Unit {0}
  InDeed in_erase = Unit {0}
  InDeed (in_file r) = Unit {0}

  abbrev pub Plain : Answer → Type 0
  Plain (Ok m) = Unit {0}
  Plain (Err c) = InDeed (kind_of c)

  pass_plain : (a : Answer) → Pass a → Plain a
  pass_plain (Ok m) h = tt
  pass_plain (Err c) h = pass_kind InDeed (λ _. tt) tt (kind_of c) h

  write_plain : (l off : ℕ) (d : List ℕ) (st : State) → Plain (write_page G bad l off d st).answer
  write_plain l off d st = write_by G bad (λ o. Plain o.answer) l off d st tt (λ _ _ _. tt) (λ _ _ _. tt)

  deed_plain : (c : Call) (r : Recorder) → Plain (deed G bad c r).answer
  unfolding deed collect_list
  deed_plain Format r = subst Plain (sym (formats_all G bad G.n 0 (state_in G r))) tt
  deed_plain Open r = tt
  deed_plain (Read sector len o s) r = unless_ends (λ y. Plain y.answer) _ Unmapped (lent r o s) _ (λ _. tt) (λ _. tt)
  deed_plain (Write sector len d s) r = write_plain (logical_page G sector) (offset G sector) (take len d) (state_in G r)
  deed_plain (Collect s) r = pass_plain (collect G bad (state_in G r)).answer (collect_pass G bad (state_in G r))
  deed_plain (CollectList m s) r = pass_plain (collect_more G bad m 0 (state_in G r)).answer (more_pass G bad m 0 (state_in G r))
  deed_plain (CollectThreshold t m s) r = pass_plain (collect_threshold G bad t m (state_in G r)).answer (threshold_pass G bad t m (state_in G r))
  deed_plain (Encode b s) r = tt
  deed_plain (Restore q b s) r = unless_ends (λ y. Plain y.answer) _ (Reason (reason_of G b)) (lent r [] s) _ (λ _. tt) (λ _. tt)

  -- ---- 22 and 117

  module _ (c : Call) (r : Recorder) where
    abbrev x : Lent
    x = lent_to c r

    abbrev answered : Answer → Outcome → Type 0
    answered a y = y.answer ≡ a

    -- the tests and what they say
    right : sizes G bad c r ≡ true → SizesRight G bad c r
    right = (sizes_exactly G bad c r).only

    sound : (a : sizes G bad c r ≡ true) → sound_test G c r ≡ true → TablesSound G c r
    sound a = (sound_exactly G bad c r (right a)).only

    wrong : sizes G bad c r ≡ false → SizesRight G bad c r → ⊥
    wrong f h = clash (sym ((sizes_exactly G bad c r).whenever h) ∙ f)

    unsound : sizes G bad c r ≡ true → sound_test G c r ≡ false → TablesSound G c r → ⊥
    unsound a f S = clash (sym ((sound_exactly G bad c r (right a)).whenever S) ∙ f)

    outside : (page_test G c ≡ false) ⊎ (overrun_test G c ≡ false) → Within G c → ⊥
    outside (inl f) W = clash (sym ((within_exactly G c).whenever W).0 ∙ f)
    outside (inr f) W = clash (sym ((within_exactly G c).whenever W).1 ∙ f)

    -- what follows of an answer, where each test says what it says
    by_tests : (a : Answer) {P : Type 0}
        → ((SizesRight G bad c r → ⊥) → Err Wrong ≡ a → P)
        → (SizesRight G bad c r → (TablesSound G c r → ⊥) → Err Unsound ≡ a → P)
        → (SizesRight G bad c r → TablesSound G c r → (Within G c → ⊥) → Err Wrong ≡ a → P)
        → (Passed G bad c r → (deed G bad c r).answer ≡ a → P)
        → (run G bad c r).answer ≡ a → P
    by_tests a {P} w u v f =
        subst (λ y. answered a y → P) (sym (run_is G bad c r))
        (guarded_ends (λ y. answered a y → P) _ _ _ _ x (deed G bad c r)
        (λ h. w (wrong h))
        (λ h k. u (right h) (unsound h k))
        (λ h k o. v (right h) (sound h k) (outside o))
        (λ h k l m. f (record { sizes_right = right h; sound = sound h k; within = (within_exactly G c).only (l, m) })))

    pub wrong_exactly : Exactly ((run G bad c r).answer ≡ Err Wrong) (WrongWhen G bad c r)
    wrong_exactly =
        record {
          only =
              by_tests (Err Wrong) (λ h _. inl h) (λ _ _ e. absurd (let z : ◌≡◌ {A = ℕ} 0 1 = cc in omega arith))
              (λ h S n _. inr (h, S, n))
              (λ _ e. absurd (subst Plain e (deed_plain c r)));
          whenever = back_to;
        }
      where
        tests : SizesRight G bad c r → TablesSound G c r → (Within G c → ⊥) → (p : Bool) → page_test G c ≡ p → (run G bad c r).answer ≡ Err Wrong
        tests h S n false p =
            ap (λ (y : Outcome). y.answer)
            (run_is G bad c r ∙ guarded_page _ _ _ _ x _ ((sizes_exactly G bad c r).whenever h) ((sound_exactly G bad c r h).whenever S) p)
        tests h S n true p =
            ap (λ (y : Outcome). y.answer)
            (run_is G bad c r
            ∙ guarded_overrun _ _ _ _ x _ ((sizes_exactly G bad c r).whenever h) ((sound_exactly G bad c r h).whenever S) p
            (not-true (overrun_test G c) (λ o. n ((within_exactly G c).only (p, o)))))

        back_to : WrongWhen G bad c r → (run G bad c r).answer ≡ Err Wrong
        back_to (inl h) =
            ap (λ (y : Outcome). y.answer) (run_is G bad c r ∙ guarded_sizes _ _ _ _ x _ (not-true _ (λ a. h (right a))))
        back_to (inr h) = tests h.0 h.1 h.2 (page_test G c) refl

    pub unsound_exactly : Exactly ((run G bad c r).answer ≡ Err Unsound) (UnsoundWhen G bad c r)
    unsound_exactly =
        record {
          only =
              by_tests (Err Unsound) (λ _ e. absurd (let z : ◌≡◌ {A = ℕ} 0 1 = cc in omega arith)) (λ h n _. (h, n))
              (λ _ _ _ e. absurd (let z : ◌≡◌ {A = ℕ} 0 1 = cc in omega arith))
              (λ _ e. absurd (subst Plain e (deed_plain c r)));
          whenever = λ h.
              ap (λ (y : Outcome). y.answer)
              (run_is G bad c r
              ∙ guarded_sound _ _ _ _ x _ ((sizes_exactly G bad c r).whenever h.0)
              (not-true (sound_test G c r) (λ b. h.1 ((sound_exactly G bad c r h.0).only b))));
        }

    -- every other answer: the tests pass, and the deed gives it
    passed_is : Passed G bad c r → run G bad c r ≡ deed G bad c r
    passed_is P =
        let W : Inside G c = (within_exactly G c).whenever P.within in
        run_is G bad c r
        ∙ guarded_passes _ _ _ _ x _ ((sizes_exactly G bad c r).whenever P.sizes_right) ((sound_exactly G bad c r P.sizes_right).whenever P.sound) W.0 W.1

    plain_passed : (a : Answer) → Plain a → (run G bad c r).answer ≡ a → Passed G bad c r
    plain_passed a p =
        by_tests a (λ _ e. absurd (subst Plain (sym e) p)) (λ _ _ e. absurd (subst Plain (sym e) p)) (λ _ _ _ e. absurd (subst Plain (sym e) p)) (λ P _. P)

    -- an answer of the deed, and of the call
    deed_exactly : (a : Answer) → Plain a → Exactly ((run G bad c r).answer ≡ a) (Passed G bad c r × ((deed G bad c r).answer ≡ a))
    deed_exactly a p =
        record {
          only = λ e. let P : Passed G bad c r = plain_passed a p e in (P, sym (ap (λ (y : Outcome). y.answer) (passed_is P)) ∙ e);
          whenever = λ h. ap (λ (y : Outcome). y.answer) (passed_is h.0) ∙ h.1;
        }

    -- what the deed says in other words
    in_words : (a : Answer) → Plain a → {B : Type 0} → (Passed G bad c r → Exactly ((deed G bad c r).answer ≡ a) B) → Exactly ((run G bad c r).answer ≡ a) (Passed G bad c r × B)
    in_words a p f =
        record {
          only = λ e. let h : Passed G bad c r × ((deed G bad c r).answer ≡ a) = (deed_exactly a p).only e in (h.0, (f h.0).only h.1);
          whenever = λ h. (deed_exactly a p).whenever (h.0, (f h.0).whenever h.1);
        }

-- ---- the calls one by one

module _ (G : Geometry) (bad : List ℕ) where
  -- a restore: the reason is that of the first test that fails
  module _ (q : Queueing) (b : List ℕ) (s : List (List ℕ)) (r : Recorder) where
    abbrev restore : Call
    restore = Restore q b s

    pub restore_exactly : Exactly ((run G bad (Restore q b s) r).answer ≡ Ok 0) (Passed G bad (Restore q b s) r × (reason_of G b ≡ 0))
    unfolding deed
    restore_exactly =
        in_words G bad restore r (Ok 0) tt
        (λ _.
        record {
          only =
              unless_ends (λ y. y.answer ≡ Ok 0 → reason_of G b ≡ 0) (eqb (reason_of G b) 0) _ (lent r [] s) _
              (λ _ e. absurd (let z : ◌≡◌ {A = ℕ} 0 1 = cc in omega arith))
              (λ h _. eqb-true _ _ h);
          whenever = λ e. ap (λ (y : Outcome). y.answer) (unless_passes _ _ (lent r [] s) _ (eq-eqb _ _ e));
        })

    pub reason_exactly : (k : ℕ)
        → Exactly ((run G bad (Restore q b s) r).answer ≡ Err (Reason k)) (Passed G bad (Restore q b s) r × ((reason_of G b ≡ k) × (k ≢ 0)))
    unfolding deed
    reason_exactly k =
        in_words G bad restore r (Err (Reason k)) tt
        (λ _.
        record {
          only =
              unless_ends (λ y. y.answer ≡ Err (Reason k) → (reason_of G b ≡ k) × (k ≢ 0)) (eqb (reason_of G b) 0) _ (lent r [] s) _
              (λ h e.
              let i : reason_of G b ≡ k = cc in
              (i, λ z. eqb-false (reason_of G b) 0 h (i ∙ z)))
              (λ _ e. absurd (let z : ◌≡◌ {A = ℕ} 0 1 = cc in omega arith));
          whenever = λ h.
              unless_ends (λ y. y.answer ≡ Err (Reason k)) (eqb (reason_of G b) 0) _ (lent r [] s) _
              (λ _. ap (λ j. Err (Reason j)) h.0)
              (λ e. absurd (h.1 (sym h.0 ∙ eqb-true _ _ e)));
        })

  -- a read
  module _ (sector len : ℕ) (o : List ℕ) (s : List (List ℕ)) (r : Recorder) where
    abbrev reading : Call
    reading = Read sector len o s

    abbrev word : ℕ
    word = word_of (tab G r) (logical_page G sector)

    -- "read of an unmapped page"
    pub unmapped_exactly : Exactly ((run G bad (Read sector len o s) r).answer ≡ Err Unmapped)
        (Passed G bad (Read sector len o s) r × (word_of (tab G r) (logical_page G sector) ≡ empty))
    unfolding deed
    unmapped_exactly =
        in_words G bad reading r (Err Unmapped) tt
        (λ _.
        record {
          only =
              unless_ends (λ y. y.answer ≡ Err Unmapped → word ≡ empty) (not (eqb word empty)) Unmapped (lent r o s) _
              (λ h _. eqb-true word empty (not_flips _ h))
              (λ _ e. absurd (let z : ◌≡◌ {A = ℕ} 0 1 = cc in omega arith));
          whenever = λ e.
              unless_ends (λ y. y.answer ≡ Err Unmapped) (not (eqb word empty)) Unmapped (lent r o s) _ (λ _. refl)
              (λ h. absurd (eqb-false word empty (flips_not _ h) e));
        })

    pub read_exactly : Exactly ((run G bad (Read sector len o s) r).answer ≡ Ok len)
        (Passed G bad (Read sector len o s) r × Mapped (tab G r) (logical_page G sector))
    unfolding deed
    read_exactly =
        in_words G bad reading r (Ok len) tt
        (λ _.
        record {
          only =
              unless_ends (λ y. y.answer ≡ Ok len → Mapped (tab G r) (logical_page G sector)) (not (eqb word empty)) Unmapped (lent r o s) _
              (λ _ e. absurd (let z : ◌≡◌ {A = ℕ} 0 1 = cc in omega arith))
              (λ h _. eqb-false word empty (flips_not _ h));
          whenever = λ m.
              unless_ends (λ y. y.answer ≡ Ok len) (not (eqb word empty)) Unmapped (lent r o s) _
              (λ h. absurd (m (eqb-true word empty (not_flips _ h))))
              (λ _. refl);
        })

  -- a write
  module _ (sector len : ℕ) (d : List ℕ) (s : List (List ℕ)) (r : Recorder) where
    abbrev writing : Call
    writing = Write sector len d s

    abbrev inner : Out
    inner = write_page G bad (logical_page G sector) (offset G sector) (take len d) (state_in G r)

    fits : Passed G bad writing r → Fits G bad (lent r [] s)
    fits P = fits_of G bad s r P.sizes_right.0 P.sound

    long : Passed G bad writing r → length (take len d) ≡ len
    long P = length-take-le len d P.sizes_right.1

    ends : Passed G bad writing r → WriteEnds G bad (take len d) (state_in G r) inner.st inner.ops inner.answer
    ends P =
        write_ends G (fits P).good bad (logical_page G sector) (offset G sector) (take len d) (state_in G r) (fits P).counted

    abbrev Ends : Answer → Type 0
    Ends = WriteEnds G bad (take len d) (state_in G r) inner.st inner.ops

    -- "no segment outside the bad list has free count above 0"
    pub no_room_exactly : Exactly ((run G bad (Write sector len d s) r).answer ≡ Err NoRoom)
        (Passed G bad (Write sector len d s) r × NoneFree G bad (tab G r))
    unfolding deed
    no_room_exactly =
        in_words G bad writing r (Err NoRoom) tt
        (λ P.
        record {
          only = λ e. (subst Ends e (ends P)).0.none;
          whenever = λ n. ap (λ (y : Out). y.answer) (write_none G bad _ _ _ (state_in G r) (nothing_free G (fits P).good bad (tab G r) (fits P).counted n));
        })

    -- "the device refuses the programming"
    pub device_exactly : Exactly ((run G bad (Write sector len d s) r).answer ≡ Err Device)
        (Passed G bad (Write sector len d s) r × Finds G bad (state_in G r) false)
    unfolding deed
    device_exactly =
        in_words G bad writing r (Err Device) tt
        (λ P.
        record {
          only = λ e. let w : Spent G bad (state_in G r) inner.st = (subst Ends e (ends P)).0 in (w.seg, w.page, w.found, w.refused);
          whenever = λ h. ap (λ (y : Out). y.answer) (write-spent G bad _ _ _ (state_in G r) h.0 h.1 h.2 h.3);
        })

    pub write_exactly : Exactly ((run G bad (Write sector len d s) r).answer ≡ Ok len)
        (Passed G bad (Write sector len d s) r × Finds G bad (state_in G r) true)
    unfolding deed
    write_exactly =
        in_words G bad writing r (Ok len) tt
        (λ P.
        record {
          only = λ e.
              let w : Stored G bad (take len d) len (state_in G r) inner.ops = subst Ends e (ends P) in
              (w.seg, w.page, w.found, w.allowed);
          whenever = λ h.
              ap (λ (y : Out). y.answer) (write-stored G bad _ _ _ (state_in G r) h.0 h.1 h.2 h.3) ∙ ap Ok (long P);
        })

-- ---- the collections

-- From any state the copies go one way: two runs of copies that can go no further end in one state
abbrev Stops : Geometry → List ℕ → ℕ → State → Type 0
Stops G bad v st = (at st.tab.lens v ≡ 0) ⊎ ((c : Cause) × ((copy_one G bad v st).answer ≡ Err c))

module _ (G : Geometry) (bad : List ℕ) (v : ℕ) where
  goes_on : {A : Type 0} {m : ℕ} (st : State) → Stops G bad v st → at st.tab.lens v ≢ 0 → (copy_one G bad v st).answer ≡ Ok m → A
  goes_on st (inl e) n q = absurd (n e)
  goes_on st (inr h) n q = absurd (let f : ◌≡◌ {A = Answer} (Err h.0) (Ok _) = sym h.1 ∙ q in let z : ◌≡◌ {A = ℕ} 0 1 = cc in omega arith)

  one_stop : {j k : ℕ} {st a b : State} → Copies G bad v j st a → Stops G bad v a → Copies G bad v k st b → Stops G bad v b → a ≡ b
  one_stop none s none t = refl
  one_stop {st = st} none s (copy n q h) t = goes_on st s n q
  one_stop {st = st} (copy n q h) s none t = goes_on st t n q
  one_stop (copy n q h) s (copy m p i) t = one_stop h s i t

-- what a copy may answer
abbrev CopyMay : Answer → Type 0
CopyMay (Ok m) = Unit {0}
CopyMay (Err c) = ByCopy (kind_of c)

copy_may : (G : Geometry) (bad : List ℕ) (v : ℕ) (st : State) → CopyMay (copy_one G bad v st).answer
copy_may G bad v st =
    let l : ℕ = last_of G v st.tab in
    write_by G bad (λ o. CopyMay (copy_answer o.answer)) l 0 (whole G st l) st tt (λ _ _ _. tt) (λ _ _ _. tt)

-- ---- what a copy is refused for

module _ (G : Geometry) (K : Good G) (bad : List ℕ) (v : ℕ) where
  abbrev Why : State → Answer → Type 0
  Why st (Ok m) = Unit {0}
  Why st (Err c) = CopyWhy G bad st (kind_of c)

  -- the write that a copy is
  abbrev copying : State → Out
  copying st = let l = last_of G v st.tab in write_page G bad l 0 (whole G st l) st

  why_of : (st : State) (a : Answer) → WriteEnds G bad (whole G st (last_of G v st.tab)) st (copying st).st (copying st).ops a → Why st (copy_answer a)
  why_of st (Ok m) w = tt
  why_of st (Err NoRoom) w = w.0.none
  why_of st (Err Device) w = (w.0.seg, w.0.page, w.0.found, w.0.refused)
  why_of st (Err Wrong) w = absurd w
  why_of st (Err Unsound) w = absurd w
  why_of st (Err Unmapped) w = absurd w
  why_of st (Err CopyNoRoom) w = absurd w
  why_of st (Err CopyDevice) w = absurd w
  why_of st (Err Erase) w = absurd w
  why_of st (Err (Reason r)) w = absurd w

  copy_why : (st : State) → Counted G st.tab → Why st (copy_one G bad v st).answer
  copy_why st S = why_of st (copying st).answer (write_ends G K bad (last_of G v st.tab) 0 (whole G st (last_of G v st.tab)) st S)

  copy_none : (st : State) → Counted G st.tab → NoneFree G bad st.tab → (copy_one G bad v st).answer ≡ Err CopyNoRoom
  copy_none st S n = ap (λ (o : Out). copy_answer o.answer) (write_none G bad _ _ _ st (nothing_free G K bad st.tab S n))

  copy_refused : (st : State) → Finds G bad st false → (copy_one G bad v st).answer ≡ Err CopyDevice
  copy_refused st h = ap (λ (o : Out). copy_answer o.answer) (write-spent G bad _ _ _ st h.0 h.1 h.2 h.3)

  -- finished copies leave sound tables
  copies_sound : v < G.n → {k : ℕ} {st here : State} → Copies G bad v k st here → Counted G st.tab → Fit G st.flash → Counted G here.tab
  copies_sound seg none S F = S
  copies_sound seg {st = st} (copy n q h) S F = let w = W G K bad v seg st S F n in copies_sound seg h w.sound w.fit

module _ (G : Geometry) (K : Good G) (bad : List ℕ) (st : State) (S : Counted G st.tab) (F : Fit G st.flash) where
  module _ (some : st.tab.queued ≢ 0) where
    pos : 0 < st.tab.queued
    pos = omega arith

    abbrev v : ℕ
    v = victim st.tab

    abbrev st₁ : State
    st₁ = state (taken st.tab) st.flash

    abbrev d : Out
    d = drain G bad G.p v st₁

    D : DrainEnds G bad v st₁ d
    D =
        drain_ends G K bad v (victim_seg G st.tab S pos) G.p st₁ (omega (arith, S.lens≤ v, S.valid≤ v))
        (taken_sound G st.tab S pos)
        F
        (victim_full G st.tab S pos)
        (victim_flag G st.tab S pos)

    collect_is : collect G bad st ≡ go_on d.answer d (λ st'. finish_of G v st')
    unfolding collect collect_of
    collect_is = rw (ne_eqb st.tab.queued 0 some)

    -- the pass by where its copies stop
    abbrev Way : Answer → Type 0
    Way a =
        ((at D.here.tab.lens v ≡ 0) × ((finish_of G v D.here).answer ≡ a))
        ⊎ ((at D.here.tab.lens v ≢ 0) × ((copy_one G bad v D.here).answer ≡ a) × IsRefused a)

    way : Way (collect G bad st).answer
    way = subst Way (sym (ap (λ (y : Out). y.answer) collect_is)) (go d.answer D.end)
      where
        go : (a : Answer) → DrainEnd G bad v D.here d.st a → Way (go_on a (out d.st a d.ops) (λ st'. finish_of G v st')).answer
        go (Ok m) e = inl (e.1, ap (λ z. (finish_of G v z).answer) (sym e.0))
        go (Err c) e = inr (e.2, e.1, tt)

    halted : (a : Answer) → Way a → Stops G bad v D.here
    halted (Ok m) (inl h) = inl h.0
    halted (Ok m) (inr h) = absurd h.2
    halted (Err c) (inl h) = inl h.0
    halted (Err c) (inr h) = inr (c, h.1)

    same_here : {k : ℕ} (here : State) → Copies G bad v k st₁ here → Stops G bad v here → here ≡ D.here
    same_here here h s = one_stop G bad v h s D.copies (halted (collect G bad st).answer way)

    -- an erase answers 0 or 5
    finish_yes : (z : State) → may_erase G v z.flash ≡ true → (finish_of G v z).answer ≡ Ok 0
    finish_yes z e = ap (λ (y : Out). y.answer) (finish-done G v z e)

    finish_no : (z : State) → may_erase G v z.flash ≡ false → (finish_of G v z).answer ≡ Err Erase
    finish_no z e = ap (λ (y : Out). y.answer) (finish-refused G v z e)

    fails_so : (c : Cause) → (copy_one G bad v D.here).answer ≡ Err c → at D.here.tab.lens v ≢ 0 → CopyFails G bad st c
    fails_so c e n =
        record {
          some = some;
          done = D.done;
          here = D.here;
          copies = D.copies;
          more = n;
          why = subst (Why G K bad v D.here) e (copy_why G K bad v D.here D.sound);
        }

    -- a copy is refused for room or at the device, or is done
    copied_as : (a : Answer) → CopyMay a → (copy_one G bad v D.here).answer ≡ a → IsRefused a → at D.here.tab.lens v ≢ 0 → PassWhen G bad st a
    copied_as (Ok m) p e i n = absurd i
    copied_as (Err CopyNoRoom) p e i n = fails_so CopyNoRoom e n
    copied_as (Err CopyDevice) p e i n = fails_so CopyDevice e n
    copied_as (Err Erase) p e i n = absurd p
    copied_as (Err Wrong) p e i n = absurd p
    copied_as (Err Unsound) p e i n = absurd p
    copied_as (Err Unmapped) p e i n = absurd p
    copied_as (Err NoRoom) p e i n = absurd p
    copied_as (Err Device) p e i n = absurd p
    copied_as (Err (Reason r)) p e i n = absurd p

    when_some : (a : Answer) → Way a → PassWhen G bad st a
    when_some a (inr h) = copied_as a (subst CopyMay h.1 (copy_may G bad v D.here)) h.1 h.2 h.0
    when_some a (inl h) = subst (PassWhen G bad st) h.1 (go (may_erase G v D.here.flash) refl)
      where
        go : (b : Bool) → may_erase G v D.here.flash ≡ b → PassWhen G bad st (finish_of G v D.here).answer
        go true e =
            subst (PassWhen G bad st) (sym (finish_yes D.here e))
            (refl, inr (record { some = some; done = D.done; here = D.here; copies = D.copies; emptied = h.0; erase = e }))
        go false e =
            subst (PassWhen G bad st) (sym (finish_no D.here e))
            (record { some = some; done = D.done; here = D.here; copies = D.copies; emptied = h.0; erase = e })

    -- and back
    fails_back : (c : Cause) (X : CopyFails G bad st c) → (copy_one G bad v X.here).answer ≡ Err c → (collect G bad st).answer ≡ Err c
    fails_back c X q = go way
      where
        e : X.here ≡ D.here
        e = same_here X.here X.copies (inr (c, q))

        go : Way (collect G bad st).answer → (collect G bad st).answer ≡ Err c
        go (inl h) = absurd (X.more (ap (λ z. at z.tab.lens v) e ∙ h.0))
        go (inr h) = sym h.1 ∙ ap (λ z. (copy_one G bad v z).answer) (sym e) ∙ q

    sound_there : {k : ℕ} {here : State} → Copies G bad v k st₁ here → Counted G here.tab
    sound_there h = copies_sound G K bad v (victim_seg G st.tab S pos) h (taken_sound G st.tab S pos) F

    copied_back : (b : Bool) → AllCopied G bad st b → (collect G bad st).answer ≡ (finish_of G v D.here).answer
    copied_back b X = go way
      where
        e : X.here ≡ D.here
        e = same_here X.here X.copies (inl X.emptied)

        go : Way (collect G bad st).answer → (collect G bad st).answer ≡ (finish_of G v D.here).answer
        go (inl h) = sym h.1
        go (inr h) = absurd (h.0 (ap (λ z. at z.tab.lens v) (sym e) ∙ X.emptied))

    erases_here : (b : Bool) → (X : AllCopied G bad st b) → may_erase G v D.here.flash ≡ b
    erases_here b X = ap (λ z. may_erase G v z.flash) (sym (same_here X.here X.copies (inl X.emptied))) ∙ X.erase

  collect-empty : st.tab.queued ≡ 0 → (collect G bad st).answer ≡ Ok 0
  collect-empty e = ap (λ (y : Out). y.answer) (collect_none G bad st e)

  pass_only : PassWhen G bad st (collect G bad st).answer
  pass_only = go (same? st.tab.queued 0)
    where
      go : (st.tab.queued ≡ 0) ⊎ (st.tab.queued ≢ 0) → PassWhen G bad st (collect G bad st).answer
      go (inl e) = subst (PassWhen G bad st) (sym (collect-empty e)) (refl, inl e)
      go (inr n) = when_some n (collect G bad st).answer (way n)

  pass_back : (a : Answer) → PassWhen G bad st a → (collect G bad st).answer ≡ a
  pass_back (Ok m) (z, inl e) = collect-empty e ∙ ap Ok (sym z)
  pass_back (Ok m) (z, inr X) = copied_back X.some true X ∙ finish_yes X.some (D X.some).here (erases_here X.some true X) ∙ ap Ok (sym z)
  pass_back (Err CopyNoRoom) X = fails_back X.some CopyNoRoom X (copy_none G K bad _ X.here (sound_there X.some X.copies) X.why)
  pass_back (Err CopyDevice) X = fails_back X.some CopyDevice X (copy_refused G K bad _ X.here X.why)
  pass_back (Err Erase) X = copied_back X.some false X ∙ finish_no X.some (D X.some).here (erases_here X.some false X)
  pass_back (Err Wrong) X = absurd X
  pass_back (Err Unsound) X = absurd X
  pass_back (Err Unmapped) X = absurd X
  pass_back (Err NoRoom) X = absurd X
  pass_back (Err Device) X = absurd X
  pass_back (Err (Reason r)) X = absurd X

  pub pass_exactly : (a : Answer) → Exactly ((collect G bad st).answer ≡ a) (PassWhen G bad st a)
  pass_exactly a = record { only = λ e. subst (PassWhen G bad st) e pass_only; whenever = pass_back a }

module _ (G : Geometry) (bad : List ℕ) where
  module _ (m c : ℕ) (st : State) where
    abbrev rest : State → Out
    rest t = cond (eqb t.tab.queued 0) (finish c t) (collect_more G bad m (suc c) t)

    more_is : collect_more G bad (suc m) c st ≡ go_on (collect G bad st).answer (collect G bad st) rest
    unfolding collect_more
    more_is = refl

    more_refused : {e : Cause} → (collect G bad st).answer ≡ Err e → (collect_more G bad (suc m) c st).answer ≡ Err e
    more_refused {e} q =
        ap (λ (y : Out). y.answer) more_is ∙ ap (λ a. (go_on a (collect G bad st) rest).answer) q ∙ q

    more_on : {j : ℕ} → (collect G bad st).answer ≡ Ok j → (collect_more G bad (suc m) c st).answer ≡ (rest (collect G bad st).st).answer
    more_on q = ap (λ (y : Out). y.answer) more_is ∙ ap (λ a. (go_on a (collect G bad st) rest).answer) q

    more_ended : {j : ℕ} → (collect G bad st).answer ≡ Ok j → (collect G bad st).st.tab.queued ≡ 0 → (collect_more G bad (suc m) c st).answer ≡ Ok c
    more_ended q e = more_on q ∙ ap (λ b. (cond b (finish c (collect G bad st).st) (collect_more G bad m (suc c) (collect G bad st).st)).answer) (eq-eqb _ _ e)

    more_next : {j : ℕ} → (collect G bad st).answer ≡ Ok j → (collect G bad st).st.tab.queued ≢ 0
        → (collect_more G bad (suc m) c st).answer ≡ (collect_more G bad m (suc c) (collect G bad st).st).answer
    more_next q n = more_on q ∙ ap (λ b. (cond b (finish c (collect G bad st).st) (collect_more G bad m (suc c) (collect G bad st).st)).answer) (ne_eqb _ _ n)

-- the passes keep tables and flash sound, so that each pass's answer can be said in words
module _ (G : Geometry) (K : Good G) (bad : List ℕ) where
  -- with c counted before
  abbrev MoreWhen : ℕ → ℕ → State → Answer → Type 0
  MoreWhen m c st (Ok x) = (k : ℕ) × (x ≡ c + k) × Counts G bad m st k
  MoreWhen m c st (Err e) = PassFails G bad m st e

  more_only : (m c : ℕ) (st : State) → Counted G st.tab → Fit G st.flash → MoreWhen m c st (collect_more G bad m c st).answer
  unfolding collect_more
  more_only zero c st S F = (0, omega arith, record { here = st; ops = []; passes = start; end = inl refl })
  more_only (suc m) c st S F = go (collect G bad st).answer refl (more_only m (suc c) (collect G bad st).st C.sound C.fit)
    where
      C : Kept G st (collect G bad st)
      C = collected G K bad st S F

      after : State
      after = (collect G bad st).st

      lift : {j : ℕ} → (collect G bad st).answer ≡ Ok j → after.tab.queued ≢ 0 → (a : Answer) → MoreWhen m (suc c) after a → MoreWhen (suc m) c st a
      lift q n (Ok x) h = (
        suc h.0,
        omega (arith, h.1),
        record { here = h.2.here; ops = _; passes = pass q n h.2.passes; end = raise h.2.end },
      )
        where
          raise : (h.0 ≡ m) ⊎ ((h.0 < m) × LastPass G bad h.2.here) → (suc h.0 ≡ suc m) ⊎ ((suc h.0 < suc m) × LastPass G bad h.2.here)
          raise (inl e) = inl (ap suc e)
          raise (inr p) = inr (omega (arith, p.0), p.1)
      lift q n (Err e) h =
          record { count = suc h.count; here = h.here; ops = _; passes = pass q n h.passes; fewer = omega (arith, h.fewer); refused = h.refused }

      next : {j : ℕ} → (collect G bad st).answer ≡ Ok j → (b : Bool) → eqb after.tab.queued 0 ≡ b
          → MoreWhen m (suc c) after (collect_more G bad m (suc c) after).answer
          → MoreWhen (suc m) c st (cond b (finish c after) (collect_more G bad m (suc c) after)).answer
      next {j} q true e ih = (
        0,
        omega arith,
        record {
          here = st;
          ops = [];
          passes = start;
          end = inr (omega arith, record { answer = (refl, ((pass_exactly G K bad st S F (Ok j)).only q).1); queue_empty = eqb-true _ _ e });
        },
      )
      next q false e ih = lift q (eqb-false _ _ e) (collect_more G bad m (suc c) after).answer ih

      go : (a : Answer) → (collect G bad st).answer ≡ a → MoreWhen m (suc c) after (collect_more G bad m (suc c) after).answer
          → MoreWhen (suc m) c st (go_on a (collect G bad st) (rest G bad m c st)).answer
      go (Ok j) q ih = next q (eqb after.tab.queued 0) refl ih
      go (Err e) q ih =
          subst (MoreWhen (suc m) c st) (sym q)
          (record { count = 0; here = st; ops = []; passes = start; fewer = omega arith; refused = (pass_exactly G K bad st S F (Err e)).only q })

  fails_at : {k : ℕ} {st here : State} {ops : List Op} → Passes G bad k st here ops → Counted G st.tab → Fit G st.flash
      → (m c : ℕ) → k < m → (e : Cause) → PassWhen G bad here (Err e) → (collect_more G bad m c st).answer ≡ Err e
  fails_at start S F zero c h e q = absurd (omega arith)
  fails_at {st = st} start S F (suc m) c h e q = more_refused G bad m c st ((pass_exactly G K bad st S F (Err e)).whenever q)
  fails_at (pass p n i) S F zero c h e q = absurd (omega arith)
  fails_at {st = st} (pass p n i) S F (suc m) c h e q =
      let C : Kept G st (collect G bad st) = collected G K bad st S F in
      more_next G bad m c st p n ∙ fails_at i C.sound C.fit m (suc c) (omega arith) e q

  counts_to : {k : ℕ} {st here : State} {ops : List Op} → Passes G bad k st here ops → Counted G st.tab → Fit G st.flash
      → (m c : ℕ) → (k ≡ m) ⊎ ((k < m) × LastPass G bad here) → (collect_more G bad m c st).answer ≡ Ok (c + k)
  unfolding collect_more
  counts_to start S F zero c h = let e : c ≡ c + 0 = omega arith in ap Ok e
  counts_to start S F (suc m) c (inl h) = absurd (omega arith)
  counts_to {st = st} start S F (suc m) c (inr h) =
      let e : c ≡ c + 0 = omega arith in
      more_ended G bad m c st ((pass_exactly G K bad st S F (Ok 0)).whenever h.1.answer) h.1.queue_empty ∙ ap Ok e
  counts_to (pass p n i) S F zero c (inl h) = absurd (omega arith)
  counts_to (pass p n i) S F zero c (inr h) = absurd (omega (arith, h.0))
  counts_to {st = st} (pass {k} p n i) S F (suc m) c (inl h) =
      let C : Kept G st (collect G bad st) = collected G K bad st S F in
      let e : suc c + k ≡ c + suc k = omega arith in
      more_next G bad m c st p n ∙ counts_to i C.sound C.fit m (suc c) (inl (omega arith)) ∙ ap Ok e
  counts_to {st = st} (pass {k} p n i) S F (suc m) c (inr h) =
      let C : Kept G st (collect G bad st) = collected G K bad st S F in
      let e : suc c + k ≡ c + suc k = omega arith in
      more_next G bad m c st p n ∙ counts_to i C.sound C.fit m (suc c) (inr (omega (arith, h.0), h.1)) ∙ ap Ok e

  more_exactly : (m : ℕ) (st : State) → Counted G st.tab → Fit G st.flash → (a : Answer)
      → Exactly ((collect_more G bad m 0 st).answer ≡ a) (ListWhen G bad m st a)
  more_exactly m st S F a = record { only = λ e. plain a (subst (MoreWhen m 0 st) e (more_only m 0 st S F)); whenever = back_to a }
    where
      plain : (a : Answer) → MoreWhen m 0 st a → ListWhen G bad m st a
      plain (Ok x) h = let e : h.0 ≡ x = omega (arith, h.1) in subst (Counts G bad m st) e h.2
      plain (Err c) h = h

      back_to : (a : Answer) → ListWhen G bad m st a → (collect_more G bad m 0 st).answer ≡ a
      back_to (Ok x) h = let e : 0 + x ≡ x = omega arith in counts_to h.passes S F m 0 h.end ∙ ap Ok e
      back_to (Err c) h = fails_at h.passes S F m 0 h.fewer c h.refused

module _ (G : Geometry) (bad : List ℕ) where
  -- at the entries: every answer but 22 and 117
  pub collect_exactly : (s : List (List ℕ)) (r : Recorder) (a : Answer) → Plain G bad a
      → Exactly ((run G bad (Collect s) r).answer ≡ a) (Passed G bad (Collect s) r × PassWhen G bad (state_in G r) a)
  unfolding deed
  collect_exactly s r a p =
      in_words G bad (Collect s) r a p
      (λ P.
      let X : Fits G bad (lent r [] s) = fits_of G bad s r P.sizes_right P.sound in
      pass_exactly G X.good bad (state_in G r) X.counted X.fit a)

  pub list_exactly : (m : ℕ) (s : List (List ℕ)) (r : Recorder) (a : Answer) → Plain G bad a
      → Exactly ((run G bad (CollectList m s) r).answer ≡ a) (Passed G bad (CollectList m s) r × ListWhen G bad m (state_in G r) a)
  unfolding deed collect_list
  list_exactly m s r a p =
      in_words G bad (CollectList m s) r a p
      (λ P.
      let X : Fits G bad (lent r [] s) = fits_of G bad s r P.sizes_right P.sound in
      more_exactly G X.good bad m (state_in G r) X.counted X.fit a)

  pub threshold_exactly : (t m : ℕ) (s : List (List ℕ)) (r : Recorder) (a : Answer) → Plain G bad a
      → Exactly ((run G bad (CollectThreshold t m s) r).answer ≡ a) (Passed G bad (CollectThreshold t m s) r × ThresholdWhen G bad t m (state_in G r) a)
  unfolding deed
  threshold_exactly t m s r a p =
      in_words G bad (CollectThreshold t m s) r a p
      (λ P.
      let X : Fits G bad (lent r [] s) = fits_of G bad s r P.sizes_right P.sound in
      below (more_exactly G X.good bad m (state_in G r) X.counted X.fit a))
    where
      st : State
      st = state_in G r

      below : Exactly ((collect_more G bad m 0 st).answer ≡ a) (ListWhen G bad m st a) → Exactly ((collect_threshold G bad t m st).answer ≡ a) (ThresholdWhen G bad t m st a)
      below E = record { only = there (less? t (total st.tab.free)); whenever = back_to }
        where
          there : (t < total st.tab.free) ⊎ (total st.tab.free ≤ t) → (collect_threshold G bad t m st).answer ≡ a → ThresholdWhen G bad t m st a
          there (inl h) e = inl (h, sym e ∙ ap (λ (y : Out). y.answer) (threshold_above G bad t m st h))
          there (inr h) e = inr (h, E.only (sym (ap (λ (y : Out). y.answer) (threshold_below G bad t m st h)) ∙ e))

          back_to : ThresholdWhen G bad t m st a → (collect_threshold G bad t m st).answer ≡ a
          back_to (inl h) = ap (λ (y : Out). y.answer) (threshold_above G bad t m st h.0) ∙ sym h.1
          back_to (inr h) = ap (λ (y : Out). y.answer) (threshold_below G bad t m st h.0) ∙ E.whenever h.1

-- an erase's refusals in words: "a segment whose count has reached the limit", "at 0"; a programming's stand in Programs
pub erase_refused : (G : Geometry) (g : ℕ) (f : Flash) → Exactly (may_erase G g f ≡ false) ((G.limit ≤ at f.counts g) ⊎ (f.fuse ≡ 0))
unfolding may_erase
erase_refused G g f = go (less? (at f.counts g) G.limit) (same? f.fuse 0)
  where
    Goal : Bool → Bool → Type 0
    Goal a b = Exactly ((a && not b) ≡ false) ((G.limit ≤ at f.counts g) ⊎ (f.fuse ≡ 0))

    go : (at f.counts g < G.limit) ⊎ (G.limit ≤ at f.counts g) → (f.fuse ≡ 0) ⊎ (f.fuse ≢ 0) → Goal (ltb (at f.counts g) G.limit) (eqb f.fuse 0)
    go (inr n) z = rw (le-ltb _ _ n) (record { only = λ _. inl n; whenever = λ _. refl })
    go (inl e) (inl z) = rw (lt-ltb _ _ e, eq-eqb _ _ z) (record { only = λ _. inr z; whenever = λ _. refl })
    go (inl e) (inr z) =
        rw (lt-ltb _ _ e, ne_eqb _ _ z)
        (record { only = λ q. clash q; whenever = λ h. ⊎_elim (λ n. absurd (let y : G.limit ≤ at f.counts g = n in omega arith)) (λ y. absurd (z y)) h })

-- ---- all of it in one: exactly when a call gives an answer, and so no call gives any other

module _ (G : Geometry) (bad : List ℕ) where
  same_answer : (a b : Answer) → Exactly (a ≡ b) (b ≡ a)
  same_answer a b = record { only = sym; whenever = sym }

  -- how a write's answer comes about
  write_only : (sector len : ℕ) (d : List ℕ) (s : List (List ℕ)) (r : Recorder) → Passed G bad (Write sector len d s) r → (a : Answer)
      → WriteEnds G bad (take len d) (state_in G r) (inner G bad sector len d s r).st (inner G bad sector len d s r).ops a
      → DeedWhen G bad (Write sector len d s) r a
  write_only sector len d s r P (Ok m) w = inr (inr ((w.seg, w.page, w.found, w.allowed), ap Ok (w.moved ∙ long G bad sector len d s r P)))
  write_only sector len d s r P (Err NoRoom) w = inl (w.0.none, refl)
  write_only sector len d s r P (Err Device) w = inr (inl ((w.0.seg, w.0.page, w.0.found, w.0.refused), refl))
  write_only sector len d s r P (Err Wrong) w = absurd w
  write_only sector len d s r P (Err Unsound) w = absurd w
  write_only sector len d s r P (Err Unmapped) w = absurd w
  write_only sector len d s r P (Err CopyNoRoom) w = absurd w
  write_only sector len d s r P (Err CopyDevice) w = absurd w
  write_only sector len d s r P (Err Erase) w = absurd w
  write_only sector len d s r P (Err (Reason k)) w = absurd w

  plain_exactly : (c : Call) (r : Recorder) (a : Answer) → Plain G bad a → Exactly ((run G bad c r).answer ≡ a) (Passed G bad c r × DeedWhen G bad c r a)
  unfolding deed
  plain_exactly Format r a p =
      in_words G bad Format r a p (λ _. record { only = λ e. sym e ∙ formats_all G bad G.n 0 (state_in G r); whenever = λ e. formats_all G bad G.n 0 (state_in G r) ∙ sym e })
  plain_exactly Open r a p = in_words G bad Open r a p (λ _. same_answer (Ok 0) a)
  plain_exactly (Encode b s) r a p = in_words G bad (Encode b s) r a p (λ _. same_answer (Ok (file_size G)) a)
  plain_exactly (Read sector len o s) r a p =
      in_words G bad (Read sector len o s) r a p
      (λ P.
      record {
        only =
            unless_ends (λ y. y.answer ≡ a → DeedWhen G bad (Read sector len o s) r a) (not (eqb (word G bad sector len o s r) empty)) Unmapped (lent r o s) _
            (λ h e. inr (eqb-true (word G bad sector len o s r) empty (not_flips _ h), sym e))
            (λ h e. inl (eqb-false (word G bad sector len o s r) empty (flips_not _ h), sym e));
        whenever = λ h. sym (ap (λ (y : Outcome). y.answer) (passed_is G bad (Read sector len o s) r P)) ∙ there P h;
      })
    where
      there : Passed G bad (Read sector len o s) r → DeedWhen G bad (Read sector len o s) r a → (run G bad (Read sector len o s) r).answer ≡ a
      there P (inl h) = (read_exactly G bad sector len o s r).whenever (P, h.0) ∙ sym h.1
      there P (inr h) = (unmapped_exactly G bad sector len o s r).whenever (P, h.0) ∙ sym h.1
  plain_exactly (Write sector len d s) r a p =
      in_words G bad (Write sector len d s) r a p
      (λ P.
      record {
        only = λ e. write_only sector len d s r P a (subst (WriteEnds G bad (take len d) (state_in G r) (inner G bad sector len d s r).st (inner G bad sector len d s r).ops) e (ends G bad sector len d s r P));
        whenever = λ h. sym (ap (λ (y : Outcome). y.answer) (passed_is G bad (Write sector len d s) r P)) ∙ there P h;
      })
    where
      there : Passed G bad (Write sector len d s) r → DeedWhen G bad (Write sector len d s) r a → (run G bad (Write sector len d s) r).answer ≡ a
      there P (inl h) = (no_room_exactly G bad sector len d s r).whenever (P, h.0) ∙ sym h.1
      there P (inr (inl h)) = (device_exactly G bad sector len d s r).whenever (P, h.0) ∙ sym h.1
      there P (inr (inr h)) = (write_exactly G bad sector len d s r).whenever (P, h.0) ∙ sym h.1
  plain_exactly (Collect s) r a p = collect_exactly G bad s r a p
  plain_exactly (CollectList m s) r a p = list_exactly G bad m s r a p
  plain_exactly (CollectThreshold t m s) r a p = threshold_exactly G bad t m s r a p
  plain_exactly (Restore q b s) r a p =
      in_words G bad (Restore q b s) r a p
      (λ P.
      record {
        only =
            unless_ends (λ y. y.answer ≡ a → DeedWhen G bad (Restore q b s) r a) (eqb (reason_of G b) 0) _ (lent r [] s) _
            (λ h e. inr (eqb-false _ _ h, sym e))
            (λ h e. inl (eqb-true _ _ h, sym e));
        whenever = λ h. sym (ap (λ (y : Outcome). y.answer) (passed_is G bad (Restore q b s) r P)) ∙ there P h;
      })
    where
      there : Passed G bad (Restore q b s) r → DeedWhen G bad (Restore q b s) r a → (run G bad (Restore q b s) r).answer ≡ a
      there P (inl h) = (restore_exactly G bad q b s r).whenever (P, h.0) ∙ sym h.1
      there P (inr h) = (reason_exactly G bad q b s r (reason_of G b)).whenever (P, (refl, h.0)) ∙ sym h.1

  pub answers_of : (c : Call) (r : Recorder) (a : Answer) → Exactly ((run G bad c r).answer ≡ a) (When G bad c r a)
  answers_of c r (Err Wrong) = wrong_exactly G bad c r
  answers_of c r (Err Unsound) = unsound_exactly G bad c r
  answers_of c r (Ok m) = plain_exactly c r (Ok m) tt
  answers_of c r (Err Unmapped) = plain_exactly c r (Err Unmapped) tt
  answers_of c r (Err NoRoom) = plain_exactly c r (Err NoRoom) tt
  answers_of c r (Err Device) = plain_exactly c r (Err Device) tt
  answers_of c r (Err CopyNoRoom) = plain_exactly c r (Err CopyNoRoom) tt
  answers_of c r (Err CopyDevice) = plain_exactly c r (Err CopyDevice) tt
  answers_of c r (Err Erase) = plain_exactly c r (Err Erase) tt
  answers_of c r (Err (Reason k)) = plain_exactly c r (Err (Reason k)) tt

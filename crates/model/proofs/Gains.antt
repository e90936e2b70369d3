-- 02, M-111: what a collection gains, and when it is refused for room. A page that is found is spent: one free page less in all, and one less in the room,
-- the free pages outside the bad list. An erase gives p more in all, and in the room unless its segment is bad.
use Prim.Native.Nat.{ℕ, zero, suc, ◌+◌, ◌-◌, ◌≤◌, ◌<◌}
use native.Mathlib.Omega.{arith}
use mathlib.Core.Path.{◌≡◌, refl, sym, ◌∙◌, subst}
use mathlib.Core.Bool.{Bool, true, false, cond}
use mathlib.Core.Logic.{◌⊎◌, inl, inr, ◌≢◌}
use mathlib.Core.List.{List, [], ◌∷◌}
use lib.Dec.{eqb}
use lib.ListN.{length, take, set}
use borrow.Author.Tests.{eqb-true, eqb-false, eq-eqb, ne_eqb}
use Rattle.model.specs.Lists.{splice, total}
use Rattle.model.specs.Numbers.{Geometry, Good, logical_page, offset}
use Rattle.model.specs.Numbers.{Answer, Ok, Err, Cause, Wrong, Unsound, NoRoom, Device, CopyNoRoom, CopyDevice, Erase}
use Rattle.model.specs.Causes.{Failing, for_room, at_device}
use Rattle.model.specs.Tables.{Tables, at}
use Rattle.model.specs.Device.{State, state, Out, out, may_program, may_erase, finish, refuse, go_on}
use Rattle.model.specs.PageMap.{find, spend}
use Rattle.model.specs.PageWrite.{whole, old_page, stored, spent, write_at, write_page}
use Rattle.model.specs.PageGc.{outside, listed_of, victim, taken, of_copy, copy_answer, cleared, finish_of}
use Rattle.model.specs.PageGc.{last_of, copy_one, drain, collect_of, collect}
use Rattle.model.specs.Entry.{Recorder, lent, Outcome, collection}
use Rattle.model.specs.History.{Write, Collect, run}
use Rattle.model.specs.Contract.{Fit}
use Rattle.model.proofs.Working.{Counted}
use Rattle.model.proofs.Slots.{same?}
use Rattle.model.proofs.Reading.{in_free}
use Rattle.model.proofs.Spend.{Next, spend_sound}
use Rattle.model.proofs.Forget.{forgot}
use Rattle.model.proofs.Find.{Full, Free, found}
use Rattle.model.proofs.Write.{Shorter, Wrote}
use Rattle.model.proofs.Taken.{taken_sound, victim_flag, victim_full, victim_seg}
use Rattle.model.proofs.Collect.{last_in, W, Drained, drained, collected}
use Rattle.model.proofs.View.{view-packed}
use Rattle.model.proofs.Guard.{guarded_by}
use Rattle.model.proofs.Entry.{tab, Fits, all_fit, inner, wrote_by}
use Rattle.model.proofs.Order.{state_in}

-- ---- sums of free counts

-- what f free pages add to the room, in a segment with the mark b
abbrev pub in_room : (b f : ℕ) → ℕ
in_room b f = cond (eqb b 0) f 0

none_in_room : (b : ℕ) → in_room b 0 ≡ 0
none_in_room b = go (eqb b 0)
  where
    go : (c : Bool) → ◌≡◌ {A = ℕ} (cond c 0 0) 0
    go true = refl
    go false = refl

-- one free count set
pub outside_set : (bad fs : List ℕ) (g f : ℕ) → length bad ≡ length fs → g < length fs
    → outside bad (set fs g f) + in_room (at bad g) (at fs g) ≡ outside bad fs + in_room (at bad g) f
unfolding outside
outside_set bad [] g f e h = absurd (omega arith)
outside_set [] (x ∷ fs) g f e h = absurd (omega arith)
outside_set (b ∷ bad) (x ∷ fs) zero f e h = omega arith
outside_set (b ∷ bad) (x ∷ fs) (suc g) f e h = omega (arith, outside_set bad fs g f (omega arith) (omega arith))

-- nothing is free but in bad segments
outside_none : (bad fs : List ℕ) → ((g : ℕ) → g < length fs → at bad g ≡ 0 → at fs g ≡ 0) → outside bad fs ≡ 0
unfolding outside
outside_none [] fs h = refl
outside_none (b ∷ bad) [] h = refl
outside_none (b ∷ bad) (x ∷ fs) h = go (same? b 0) (outside_none bad fs (λ g a e. h (suc g) (omega arith) e))
  where
    go : (b ≡ 0) ⊎ (b ≢ 0) → outside bad fs ≡ 0 → in_room b x + outside bad fs ≡ 0
    go (inl e) rest = rw (eq-eqb b 0 e) (omega (arith, h 0 (omega arith) e))
    go (inr n) rest = rw (ne_eqb b 0 n) (omega arith)

total-set : (fs : List ℕ) (g f : ℕ) → g < length fs → total (set fs g f) + at fs g ≡ total fs + f
unfolding total
total-set [] g f h = absurd (omega arith)
total-set (x ∷ fs) zero f h = omega arith
total-set (x ∷ fs) (suc g) f h = omega (arith, total-set fs g f (omega arith))

-- ---- pages spent: the free counts are fs before and fs' after

-- k pages that were free are not, all of them outside the bad list
pub record Spends (bad : List ℕ) (k : ℕ) (fs fs' : List ℕ) : Type 0 where
  pub total_is : total fs' + k ≡ total fs
  pub outside_is : outside bad fs' + k ≡ outside bad fs

-- j pages were to be written. The room is less than j, and all of it is spent; or the device refuses one, which is spent with those before it
abbrev pub Stopped : (bad : List ℕ) (j : ℕ) (fs fs' : List ℕ) → Failing → Type 0
Stopped bad j fs fs' for_room = (outside bad fs < j) × Spends bad (outside bad fs) fs fs'
Stopped bad j fs fs' at_device = (k : ℕ) × (k < j) × Spends bad (suc k) fs fs'

-- how that ends, by the answer; `cause` has the cause of either refusal
pub data Spent (bad : List ℕ) (cause : Failing → Cause) (j : ℕ) (fs fs' : List ℕ) : Answer → Type 0 where
  done : (m : ℕ) → Spends bad j fs fs' → Spent bad cause j fs fs' (Ok m)
  stopped : (f : Failing) → Stopped bad j fs fs' f → Spent bad cause j fs fs' (Err (cause f))

abbrev pub cause_in_write : Failing → Cause
cause_in_write for_room = NoRoom
cause_in_write at_device = Device

abbrev pub cause_in_copy : Failing → Cause
cause_in_copy for_room = CopyNoRoom
cause_in_copy at_device = CopyDevice

-- for `cc`, where two answers that differ are said to be equal
clash : ◌≡◌ {A = ℕ} 0 1 → ⊥
clash e = omega arith

module _ {bad : List ℕ} where
  none : {k : ℕ} {fs : List ℕ} → k ≡ 0 → Spends bad k fs fs
  none e = record { total_is = omega arith; outside_is = omega arith }

  -- one page, and k after it
  behind : {j k : ℕ} {fs fs₁ fs₂ : List ℕ} → j ≡ suc k → Spends bad 1 fs fs₁ → Spends bad k fs₁ fs₂ → Spends bad j fs fs₂
  behind e a b = record { total_is = omega (arith, a.total_is, b.total_is); outside_is = omega (arith, a.outside_is, b.outside_is) }

  -- a copy is finished, and the rest of them end so
  one_more : {j k : ℕ} {fs fs₁ fs₂ : List ℕ} {a : Answer} → j ≡ suc k → Spends bad 1 fs fs₁
      → Spent bad cause_in_copy k fs₁ fs₂ a → Spent bad cause_in_copy j fs fs₂ a
  one_more e one (done m s) = done m (behind e one s)
  one_more e one (stopped for_room h) = stopped for_room (omega (arith, one.outside_is, h.0), behind (omega (arith, one.outside_is)) one h.1)
  one_more e one (stopped at_device h) = stopped at_device (suc h.0, omega (arith, h.1), behind refl one h.2)

  -- a copy is refused
  no_more : {j : ℕ} {fs fs' : List ℕ} (f : Failing) → 0 < j → Stopped bad 1 fs fs' f → Spent bad cause_in_copy j fs fs' (Err (of_copy (cause_in_write f)))
  no_more for_room some h = stopped for_room (omega (arith, h.0), h.1)
  no_more at_device some h = stopped at_device (h.0, omega (arith, h.1), h.2)

  -- a write spends a page, unless it is refused for room
  pub one_spent : {fs fs' : List ℕ} {a : Answer} → Spent bad cause_in_write 1 fs fs' a → a ≢ Err NoRoom → Spends bad 1 fs fs'
  one_spent (done m s) n = s
  one_spent (stopped for_room h) n = absurd (n refl)
  one_spent (stopped at_device h) n =
      record { total_is = omega (arith, h.1, h.2.total_is); outside_is = omega (arith, h.1, h.2.outside_is) }

-- ---- a write

module _ (G : Geometry) (K : Good G) (bad : List ℕ) (hb : length bad ≡ G.n) where
  module _ (st : State) (S : Counted G st.tab) (l off : ℕ) (d : List ℕ) where
    abbrev fs : List ℕ
    fs = st.tab.free

    one_page : (g k : ℕ) → Next G st.tab g k → at bad g ≡ 0 → {fs' : List ℕ} → fs' ≡ (spend G g k st.tab).free → Spends bad 1 fs fs'
    one_page g k N b e =
        let hg : g < length fs = in_free S.sized N.seg in
        let o : _ = outside_set bad fs g (at fs g - 1) (hb ∙ sym S.sized.free) hg in
        record {
          total_is = rw e (omega (arith, N.some_free, total-set fs g (at fs g - 1) hg));
          outside_is = rw e (omega (arith, N.some_free, rw (eq-eqb (at bad g) 0 b) at o));
        }

    -- a write spends one page, unless there is no room
    pub write_spends : Spent bad cause_in_write 1 fs (write_page G bad l off d st).st.tab.free (write_page G bad l off d st).answer
    unfolding write_page write_at
    write_spends = go (found G K st.tab S bad)
      where
        at_page : (g k : ℕ) → Next G st.tab g k → at bad g ≡ 0 → (b : Bool)
            → let o = cond b (stored G l (length d) g k (splice off d (old_page G st l)) st) (spent G g k st) in
            Spent bad cause_in_write 1 fs o.st.tab.free o.answer
        at_page g k N b0 true = done _ (one_page g k N b0 (forgot G (spend G g k st.tab) (spend_sound G st.tab S g k N) l).free)
        at_page g k N b0 false = stopped at_device (0, omega arith, one_page g k N b0 refl)

        go : Full G K st.tab S bad (find G bad st.tab) ⊎ Free G K st.tab S bad (find G bad st.tab)
            → let o = write_at G (find G bad st.tab) l off d st in Spent bad cause_in_write 1 fs o.st.tab.free o.answer
        go (inl full) =
            let z : outside bad fs ≡ 0 = outside_none bad fs (λ g a b. full.full g (omega (arith, S.sized.free)) b) in
            rw full.is (stopped for_room (omega arith, none z))
        go (inr free) = rw free.is (at_page free.seg _ free.next free.good (may_program G free.seg _ st.flash))

  -- ---- a drain: a write for each listed page of v

  module _ (v : ℕ) (seg : v < G.n) where
    -- v is full and its flag is set
    abbrev Draining : State → Out → Type 0
    Draining st o =
        Counted G st.tab → Fit G st.flash → at st.tab.free v ≡ 0 → at st.tab.flags v ≡ 1
        → Spent bad cause_in_copy (at st.tab.lens v) st.tab.free o.st.tab.free o.answer

    drain_more : (st : State) (rest : State → Out) → at st.tab.lens v ≢ 0
        → ((st' : State) → at st'.tab.lens v ≡ at st.tab.lens v - 1 → Draining st' (rest st'))
        → Draining st (go_on (copy_one G bad v st).answer (copy_one G bad v st) rest)
    drain_more st rest some ih S F z f = go (write_spends st S l 0 (whole G st l)) (w.shorter v z)
      where
        l : ℕ
        l = last_of G v st.tab

        o : Out
        o = write_page G bad l 0 (whole G st l) st

        w : Wrote G st l 0 (whole G st l) o
        w = W G K bad v seg st S F some

        go : {a : Answer} → Spent bad cause_in_write 1 st.tab.free o.st.tab.free a → Shorter G st o.st l v a
            → let q = go_on (copy_answer a) (out o.st (copy_answer a) o.ops) rest in
            Spent bad cause_in_copy (at st.tab.lens v) st.tab.free q.st.tab.free q.answer
        go (done m one) less =
            let e : at o.st.tab.lens v ≡ at st.tab.lens v - 1 = less (last_in G v seg st.tab S some).0 (last_in G v seg st.tab S some).1 in
            one_more (omega arith) one (ih o.st e w.sound w.fit (w.busy v z f).full (w.busy v z f).flagged)
        go (stopped f h) less = no_more f (omega arith) h

    drain_spends : (b : ℕ) (st : State) → at st.tab.lens v ≤ b → Draining st (drain G bad b v st)
    unfolding drain
    drain_spends zero st h = λ S F z f. done 0 (none (omega arith))
    drain_spends (suc b) st h = go (eqb (at st.tab.lens v) 0) refl (λ st' e. drain_spends b st' (omega arith))
      where
        go : (c : Bool) → eqb (at st.tab.lens v) 0 ≡ c
            → ((st' : State) → at st'.tab.lens v ≡ at st.tab.lens v - 1 → Draining st' (drain G bad b v st'))
            → Draining st (cond c (finish 0 st) (go_on (copy_one G bad v st).answer (copy_one G bad v st) (λ st'. drain G bad b v st')))
        go true e ih = λ S F z f. done 0 (none (eqb-true _ _ e))
        go false e ih = drain_more st (λ st'. drain G bad b v st') (eqb-false _ _ e) ih

-- ---- one pass

-- finished: p - v are gained in all, no cut-off difference; v of the room are spent, and p come to it unless the victim is bad
pub record Gained (G : Geometry) (bad : List ℕ) (t t' : Tables) : Type 0 where
  pub within : listed_of t ≤ G.p
  pub total_is : total t'.free ≡ total t.free + (G.p - listed_of t)
  pub outside_is : outside bad t'.free + listed_of t ≡ outside bad t.free + in_room (at bad (victim t)) G.p
  pub enough : listed_of t ≤ outside bad t.free

-- how a pass ends, by the answer
pub data PassGains (G : Geometry) (bad : List ℕ) (t t' : Tables) : Answer → Type 0 where
  idle : t.queued ≡ 0 → t' ≡ t → PassGains G bad t t' (Ok 0)
  gained : Gained G bad t t' → PassGains G bad t t' (Ok 0)
  stopped : (f : Failing) → Stopped bad (listed_of t) t.free t'.free f → PassGains G bad t t' (Err (cause_in_copy f))
  not_erased : Spends bad (listed_of t) t.free t'.free → PassGains G bad t t' (Err Erase)

module _ (G : Geometry) (K : Good G) (bad : List ℕ) (hb : length bad ≡ G.n) (st : State) (S : Counted G st.tab) (F : Fit G st.flash) where
  module _ (some : 0 < st.tab.queued) where
    abbrev v : ℕ
    v = victim st.tab

    abbrev st₁ : State
    st₁ = state (taken st.tab) st.flash

    abbrev d : Out
    d = drain G bad G.p v st₁

    seg : v < G.n
    seg = victim_seg G st.tab S some

    few : listed_of st.tab ≤ G.p
    few = omega (arith, S.lens≤ v, S.valid≤ v)

    D : Drained G v st₁ d
    D = drained G K bad v seg G.p st₁ few (taken_sound G st.tab S some) F (victim_full G st.tab S some) (victim_flag G st.tab S some)

    E : Spent bad cause_in_copy (listed_of st.tab) st.tab.free d.st.tab.free d.answer
    E =
        drain_spends G K bad hb v seg G.p st₁ few (taken_sound G st.tab S some) F (victim_full G st.tab S some)
        (victim_flag G st.tab S some)

    abbrev drained_free : List ℕ
    drained_free = d.st.tab.free

    -- the erase, if the device does it
    erased_gains : (b : Bool) → Spends bad (listed_of st.tab) st.tab.free drained_free
        → let q = cond b (cleared G v d.st) (refuse Erase d.st) in PassGains G bad st.tab q.st.tab q.answer
    erased_gains false e = not_erased e
    erased_gains true e =
        let hv : v < length drained_free = in_free D.kept.sound.sized seg in
        let z : at drained_free v ≡ 0 = D.busy.full in
        let o : _ = outside_set bad drained_free v G.p (hb ∙ sym D.kept.sound.sized.free) hv in
        gained
        (record {
          within = few;
          total_is = omega (arith, e.total_is, few, z, total-set drained_free v G.p hv);
          outside_is = omega (arith, e.outside_is, none_in_room (at bad v), rw z at o);
          enough = omega (arith, e.outside_is);
        })

    pass : {a : Answer} → Spent bad cause_in_copy (listed_of st.tab) st.tab.free drained_free a
        → let q = go_on a (out d.st a d.ops) (λ st'. finish_of G v st') in PassGains G bad st.tab q.st.tab q.answer
    unfolding finish_of
    pass (done m e) = erased_gains (may_erase G v d.st.flash) e
    pass (stopped f h) = stopped f h

  pub pass_gains : PassGains G bad st.tab (collect G bad st).st.tab (collect G bad st).answer
  unfolding collect collect_of
  pass_gains = go (eqb st.tab.queued 0) refl
    where
      go : (b : Bool) → eqb st.tab.queued 0 ≡ b
          → let q = cond b (finish 0 st) (collect_of G bad (victim st.tab) st) in PassGains G bad st.tab q.st.tab q.answer
      go true e = idle (eqb-true _ _ e) refl
      go false e = let n : st.tab.queued ≢ 0 = eqb-false _ _ e in pass (omega arith) (E (omega arith))

-- what its answer tells of a pass
module _ {G : Geometry} {bad : List ℕ} {t t' : Tables} {a : Answer} (g : PassGains G bad t t' a) where
  pub if_finished : 0 < t.queued → a ≡ Ok 0 → Gained G bad t t'
  if_finished some = go g
    where
      go : {a : Answer} → PassGains G bad t t' a → a ≡ Ok 0 → Gained G bad t t'
      go (idle z _) e = absurd (omega arith)
      go (gained h) e = h
      go (stopped f h) e = absurd (clash cc)
      go (not_erased h) e = absurd (clash cc)

  pub if_for_room : a ≡ Err CopyNoRoom → Stopped bad (listed_of t) t.free t'.free for_room
  if_for_room = go g
    where
      go : {a : Answer} → PassGains G bad t t' a → a ≡ Err CopyNoRoom → Stopped bad (listed_of t) t.free t'.free for_room
      go (idle z _) e = absurd (clash cc)
      go (gained h) e = absurd (clash cc)
      go (stopped for_room h) e = h
      go (stopped at_device h) e = absurd (clash cc)
      go (not_erased h) e = absurd (clash cc)

  pub if_short : 0 < t.queued → a ≢ Err CopyDevice → outside bad t.free < listed_of t → a ≡ Err CopyNoRoom
  if_short some n short = go g n
    where
      go : {a : Answer} → PassGains G bad t t' a → a ≢ Err CopyDevice → a ≡ Err CopyNoRoom
      go (idle z _) n = absurd (omega arith)
      go (gained h) n = absurd (omega (arith, h.enough))
      go (stopped for_room h) n = refl
      go (stopped at_device h) n = absurd (n refl)
      go (not_erased h) n = absurd (omega (arith, h.outside_is))

-- ---- the entries, lent anything

-- what holds of a call that its tests do not refuse
abbrev pub Tried : (Outcome → Type 0) → Outcome → Type 0
Tried P o = o.answer ≢ Err Wrong → o.answer ≢ Err Unsound → P o

module _ (G : Geometry) (bad : List ℕ) (r : Recorder) (s : List (List ℕ)) where
  -- a write spends one page, unless there is no room
  pub writes : (sector len : ℕ) (d : List ℕ)
      → Tried (λ o. Spent bad cause_in_write 1 (tab G r).free (tab G o.left.unit).free o.answer) (run G bad (Write sector len d s) r)
  writes sector len d =
      wrote_by G bad sector len d (lent r [] s)
      (Tried (λ o. Spent bad cause_in_write 1 (tab G r).free (tab G o.left.unit).free o.answer))
      (λ n _. absurd (n refl))
      (λ _ n. absurd (n refl))
      (λ X W _ _.
      subst (λ t. Spent bad cause_in_write 1 (tab G r).free t.free (inner G bad sector len d (lent r [] s)).answer) (sym (view-packed W.sound.sized))
      (write_spends G X.good bad X.bad_size (state_in G r) X.counted (logical_page G sector) (offset G sector) (take len d)))

  abbrev o : Outcome
  o = run G bad (Collect s) r

  abbrev left : Tables
  left = tab G o.left.unit

  -- a collection is a pass
  pub passes : Tried (λ o. PassGains G bad (tab G r) (tab G o.left.unit) o.answer) o
  unfolding collection
  passes =
      guarded_by (Tried (λ o. PassGains G bad (tab G r) (tab G o.left.unit) o.answer)) _ _ _ _ (lent r [] s) _ (λ n _. absurd (n refl))
      (λ _ n. absurd (n refl))
      (λ a b _ _ _ _.
      let X : Fits G bad (lent r [] s) = all_fit G bad _ (lent r [] s) a b in
      let C : Counted G (collect G bad (state_in G r)).st.tab = (collected G X.good bad (state_in G r) X.counted X.fit).sound in
      subst (λ t. PassGains G bad (tab G r) t (collect G bad (state_in G r)).answer) (sym (view-packed C.sized))
      (pass_gains G X.good bad X.bad_size (state_in G r) X.counted X.fit))

  module _ (some : 0 < (tab G r).queued) where
    pub finished : o.answer ≡ Ok 0 → Gained G bad (tab G r) left
    finished e = if_finished (passes (λ q. clash cc) (λ q. clash cc)) some e

    -- "a finished pass on a victim with v listed pages raises total free pages by exactly p - v"
    pub finished_gains : o.answer ≡ Ok 0 → total left.free ≡ total (tab G r).free + (G.p - listed_of (tab G r))
    finished_gains e = (finished e).total_is

    -- v of the room are spent, and p come to it unless the victim is bad
    pub finished_room : o.answer ≡ Ok 0
        → outside bad left.free + listed_of (tab G r) ≡ outside bad (tab G r).free + in_room (at bad (victim (tab G r))) G.p
    finished_room e = (finished e).outside_is

  short : o.answer ≡ Err CopyNoRoom → Stopped bad (listed_of (tab G r)) (tab G r).free left.free for_room
  short e = if_for_room (passes (λ q. clash cc) (λ q. clash cc)) e

  -- "If the device refuses nothing, the pass is refused for room exactly when the free pages of segments outside the bad list number fewer than v."
  -- Only then, whatever the device refuses;
  pub refused_for_room : o.answer ≡ Err CopyNoRoom → outside bad (tab G r).free < listed_of (tab G r)
  refused_for_room e = (short e).0

  -- and all of them are spent then
  pub room_used_up : o.answer ≡ Err CopyNoRoom → Spends bad (outside bad (tab G r).free) (tab G r).free left.free
  room_used_up e = (short e).1

  -- and always then, if the device refuses no copy. That is less than "refuses nothing": an erase is refused behind the last copy, so there was room
  pub short_of_room : 0 < (tab G r).queued → o.answer ≢ Err Wrong → o.answer ≢ Err Unsound → o.answer ≢ Err CopyDevice
      → outside bad (tab G r).free < listed_of (tab G r) → o.answer ≡ Err CopyNoRoom
  short_of_room some w u n h = if_short (passes w u) some n h

-- Each mapped page is marked as programmed: true of a unit from its opening on, whatever the flash held, and kept by every call but an
-- accepted restore, which maps what its file says, and an accepted formatting, which erases under the tables. A restore of a checkpoint of such
-- a unit keeps it too. So a checkpoint of such a unit comes back as `marked_restores` says.
use Prim.Native.Nat.{ℕ, zero, suc, ◌+◌, ◌*◌, ◌≤◌, ◌<◌}
use native.Mathlib.Omega.{arith}
use mathlib.Core.Path.{◌≡◌, refl, sym, ap, ◌∙◌, subst}
use mathlib.Core.Bool.{Bool, true, false, cond}
use mathlib.Core.Logic.{◌⊎◌, inl, inr, ◌≢◌}
use mathlib.Core.List.{List, [], ◌∷◌}
use lib.Dec.{eqb, ltb, leb}
use lib.ListN.{length, get_or, set, take, length-replicate}
use lib.Seq.{get_or-set_same, get_or-set_other, length-take-le}
use borrow.Author.Tests.{eqb-false, ltb-true, leb-true}
use Rattle.model.specs.Lists.{on_slot, splice, total, zeros}
use Rattle.model.specs.declared.Geometry.{Geometry}
use Rattle.model.specs.Numbers.{Answer}
use Rattle.model.specs.Numbers.{Ok, Err}
use Rattle.model.specs.declared.Cause.TheVariants.{Erase}
use Rattle.model.specs.Numbers.{Good, empty, addr, flat, seg_of, page_of, logical_page, offset}
use Rattle.model.specs.Tables.{Tables, at, word_of, tab_words, pages}
use Rattle.model.specs.Sound.{Mapped}
use Rattle.model.specs.Device.{State, state, Out, may_program, may_erase, finish, refuse, go_on}
use Rattle.model.specs.PageMap.{find, spend, forget}
use Rattle.model.specs.PageWrite.{old_page, whole, stored, spent, write_at, write_page}
use Rattle.model.specs.PageGc.{victim, taken, cleared, finish_of, last_of, copy_one, drain, collect_of, collect, collect_more, collect_list, collect_threshold}
use Rattle.model.specs.declared.Queueing.{Queueing}
use Rattle.model.specs.Checkpoint.{opened, restored_by, sealed}
use Rattle.model.specs.Entry.{Recorder, Lent, lent, Outcome, back, state_of, tables_of, page_scratch, seen_scratch, all_fits, collecting, formatting, opening, write, collection, list_collection, threshold_collection, restoring}
use Rattle.model.specs.History.{Call, Format, Open, Read, Write, Collect, CollectList, CollectThreshold, Encode, Restore, run, after, IsRefused, GivesBack}
use Rattle.model.specs.Contract.{Fit}
use Rattle.model.proofs.Working.{Counted}
use Rattle.model.proofs.Slots.{same?, by_same, slot_at, on_slot_other, part_fits, below_part, mapped_lt, same_replicate}
use Rattle.model.proofs.Address.{addr_seg, addr_page}
use Rattle.model.proofs.View.{view-packed}
use Rattle.model.proofs.Spend.{Next, spend_sound}
use Rattle.model.proofs.Forget.{Forgot, forgot}
use Rattle.model.proofs.Find.{Full, Free, found}
use Rattle.model.proofs.Reset.{not_here}
use Rattle.model.proofs.Write.{Wrote, wrote}
use Rattle.model.proofs.Taken.{taken_sound, victim_flag, victim_full, victim_seg}
use Rattle.model.proofs.Collect.{Kept, last_in, copied, collected, collected_list, collected_threshold}
use Rattle.model.proofs.Guard.{each, guarded_by}
use Rattle.model.proofs.Entry.{Fits, all_fit, Begun, Stayed, opened_or, restored_or, read_unit, encoding_unit}
use Rattle.demands.proofs.Unchanged.{formats_all}
use Rattle.demands.proofs.Ends.{DrainEnd, DrainEnds, drain_ends}
use Rattle.demands.proofs.Marked.{ever, marked_restores}
use Rattle.model.proofs.Restore.{Back}
use Rattle.model.proofs.Sealed.{comes_back}
use Rattle.model.proofs.Requeue.{requeued-back}
use Rattle.model.proofs.Cut.{Encoded, encoded}
use Rattle.demands.specs.Given.{state_in, tab}
use Rattle.demands.specs.Unit.{MarkedAll, MarkedIn, Ordinary, Ever, FromOpening, opens, calls, lends_fuse, regains}

-- a mark set leaves marks that are set
set_keeps : (xs : List ℕ) (i j : ℕ) → at xs j ≢ 0 → at (set xs i 1) j ≢ 0
set_keeps xs i j n = go (same? j i)
  where
    go : (j ≡ i) ⊎ (j ≢ i) → at (set xs i 1) j ≢ 0
    go (inl e) q =
        let b : i < length xs = subst (λ k. k < length xs) e (mapped_lt xs j 0 n) in
        let w : at (set xs i 1) i ≡ 0 = subst (λ k. at (set xs i 1) k ≡ 0) e q in
        omega (arith, get_or-set_same xs i 1 0 b)
    go (inr m) q = n (sym (get_or-set_other xs i j 1 0 m) ∙ q)

module _ (G : Geometry) (K : Good G) (bad : List ℕ) where
  -- a write
  stored_marked : (st : State) → Counted G st.tab → Fit G st.flash → (l : ℕ) → l < G.e → (len g k : ℕ) → Next G st.tab g k → (page : List ℕ)
      → MarkedAll G st → MarkedAll G (stored G l len g k page st).st
  stored_marked st S F l hl len g k N page h =
      by_same (λ x. Mapped (stored G l len g k page st).st.tab x → at (set st.flash.marks (g * G.p + k) 1) (flat G (word_of (stored G l len g k page st).st.tab x)) ≢ 0)
      l own others
    where
      t₂ : Tables
      t₂ = forget G l (spend G g k st.tab)

      Fo : Forgot G l (spend G g k st.tab) (forget G l (spend G g k st.tab))
      Fo = forgot G (spend G g k st.tab) (spend_sound G st.tab S g k N) l

      hk : k < G.p
      hk = omega (arith, N.some_free, N.first)

      word_same : word_of (stored G l len g k page st).st.tab l ≡ addr G g k
      word_same = get_or-set_same (forget G l (spend G g k st.tab)).map l (addr G g k) empty (rw Fo.sound.sized.map hl)

      place : flat G (addr G g k) ≡ g * G.p + k
      place = ap (λ x. x * G.p + page_of G (addr G g k)) (addr_seg G K g hk) ∙ ap (λ x. g * G.p + x) (addr_page G K g hk)

      own : Mapped (stored G l len g k page st).st.tab l → at (set st.flash.marks (g * G.p + k) 1) (flat G (word_of (stored G l len g k page st).st.tab l)) ≢ 0
      own m q =
          let w : at (set st.flash.marks (g * G.p + k) 1) (g * G.p + k) ≡ 0 =
          subst (λ i. at (set st.flash.marks (g * G.p + k) 1) i ≡ 0) (ap (flat G) word_same ∙ place) q in
          omega (arith, get_or-set_same st.flash.marks (g * G.p + k) 1 0 (rw F.marks (below_part G.p N.seg hk)))

      others : (x : ℕ) → x ≢ l → Mapped (stored G l len g k page st).st.tab x
          → at (set st.flash.marks (g * G.p + k) 1) (flat G (word_of (stored G l len g k page st).st.tab x)) ≢ 0
      others x n m =
          let e : word_of (stored G l len g k page st).st.tab x ≡ word_of st.tab x =
          get_or-set_other (forget G l (spend G g k st.tab)).map l x (addr G g k) empty n ∙ Fo.kept x n in
          subst (λ a. at (set st.flash.marks (g * G.p + k) 1) (flat G a) ≢ 0) (sym e)
          (set_keeps st.flash.marks (g * G.p + k) (flat G (word_of st.tab x)) (h x (λ q. m (e ∙ q))))

  write_marked : (l off : ℕ) (d : List ℕ) (st : State) → Counted G st.tab → Fit G st.flash → l < G.e → MarkedAll G st
      → MarkedAll G (write_page G bad l off d st).st
  unfolding write_page write_at
  write_marked l off d st S F hl h = go (found G K st.tab S bad)
    where
      at_page : (g k : ℕ) → Next G st.tab g k → (b : Bool)
          → MarkedAll G (cond b (stored G l (length d) g k (splice off d (old_page G st l)) st) (spent G g k st)).st
      at_page g k N true = stored_marked st S F l hl (length d) g k N (splice off d (old_page G st l)) h
      at_page g k N false = h

      go : Full G K st.tab S bad (find G bad st.tab) ⊎ Free G K st.tab S bad (find G bad st.tab)
          → MarkedAll G (write_at G (find G bad st.tab) l off d st).st
      go (inl none) = subst (λ r. MarkedAll G (write_at G r l off d st).st) (sym none.is) h
      go (inr free) =
          subst (λ r. MarkedAll G (write_at G r l off d st).st) (sym free.is)
          (at_page free.seg _ free.next (may_program G free.seg _ st.flash))

  module _ (v : ℕ) (seg : v < G.n) where
    copy_marked : (st : State) → Counted G st.tab → Fit G st.flash → at st.tab.lens v ≢ 0 → MarkedAll G st → MarkedAll G (copy_one G bad v st).st
    copy_marked st S F some h =
        let l : ℕ = last_of G v st.tab in
        let m : Mapped st.tab l = (last_in G v seg st.tab S some).0 in
        write_marked l 0 (whole G st l) st S F (rw S.sized.map at (mapped_lt st.tab.map l empty m)) h

    drain_marked : (b : ℕ) (st : State) → Counted G st.tab → Fit G st.flash → MarkedAll G st → MarkedAll G (drain G bad b v st).st
    unfolding drain
    drain_marked zero st S F h = h
    drain_marked (suc b) st S F h = go (eqb (at st.tab.lens v) 0) refl (λ st' S' F' h'. drain_marked b st' S' F' h')
      where
        go : (c : Bool) → eqb (at st.tab.lens v) 0 ≡ c
            → ((st' : State) → Counted G st'.tab → Fit G st'.flash → MarkedAll G st' → MarkedAll G (drain G bad b v st').st)
            → MarkedAll G (cond c (finish 0 st) (go_on (copy_one G bad v st).answer (copy_one G bad v st) (λ st'. drain G bad b v st'))).st
        go true e ih = h
        go false e ih = next (copy_one G bad v st).answer
          where
            some : at st.tab.lens v ≢ 0
            some = eqb-false _ _ e

            C : Kept G st (write_page G bad (last_of G v st.tab) 0 (whole G st (last_of G v st.tab)) st)
            C = copied G K bad v seg st S F some

            one : MarkedAll G (copy_one G bad v st).st
            one = copy_marked st S F some h

            next : (a : Answer) → MarkedAll G (go_on a (copy_one G bad v st) (λ st'. drain G bad b v st')).st
            next (Ok m) = ih (copy_one G bad v st).st C.sound C.fit one
            next (Err c) = one

    -- an erase of a segment that holds no mapped page
    finish_marked : (st : State) → Counted G st.tab → Fit G st.flash → at st.tab.lens v ≡ 0 → MarkedAll G st → MarkedAll G (finish_of G v st).st
    unfolding finish_of
    finish_marked st S F bare h = go (may_erase G v st.flash)
      where
        go : (b : Bool) → MarkedAll G (cond b (cleared G v st) (refuse Erase st)).st
        go false = h
        go true = λ l m q.
            let a : ℕ = word_of st.tab l in
            let page : page_of G a < G.p = omega (arith, S.page< l m) in
            let room : v * G.p + G.p ≤ length st.flash.marks = rw F.marks (part_fits G.p seg) in
            let same : at (on_slot G.p v (λ _. zeros G.p) st.flash.marks) (flat G a) ≡ at st.flash.marks (flat G a) =
            sym (slot_at G.p (seg_of G a) (on_slot G.p v (λ _. zeros G.p) st.flash.marks) (page_of G a) 0 page)
            ∙ ap (λ xs. at xs (page_of G a))
            (on_slot_other G.p v (seg_of G a) (λ _. zeros G.p) st.flash.marks room (length-replicate G.p 0) (not_here G st.tab S v seg bare l m))
            ∙ slot_at G.p (seg_of G a) st.flash.marks (page_of G a) 0 page in
            h l m (sym same ∙ q)

  collect_marked : (st : State) → Counted G st.tab → Fit G st.flash → MarkedAll G st → MarkedAll G (collect G bad st).st
  unfolding collect collect_of
  collect_marked st S F h = go (eqb st.tab.queued 0) refl
    where
      go : (b : Bool) → eqb st.tab.queued 0 ≡ b → MarkedAll G (cond b (finish 0 st) (collect_of G bad (victim st.tab) st)).st
      go true e = h
      go false e = then d.answer D.end
        where
          n : st.tab.queued ≢ 0
          n = eqb-false _ _ e

          some : 0 < st.tab.queued
          some = omega (arith, n)

          v : ℕ
          v = victim st.tab

          seg : victim st.tab < G.n
          seg = victim_seg G st.tab S some

          st₁ : State
          st₁ = state (taken st.tab) st.flash

          d : Out
          d = drain G bad G.p (victim st.tab) (state (taken st.tab) st.flash)

          D : DrainEnds G bad (victim st.tab) (state (taken st.tab) st.flash) d
          D =
              drain_ends G K bad v seg G.p st₁ (omega (arith, S.lens≤ v, S.valid≤ v))
              (taken_sound G st.tab S some)
              F
              (victim_full G st.tab S some)
              (victim_flag G st.tab S some)

          drained : MarkedAll G d.st
          drained = drain_marked v seg G.p st₁ (taken_sound G st.tab S some) F h

          then : (a : Answer) → DrainEnd G bad (victim st.tab) D.here d.st a → MarkedAll G (go_on a d (λ st'. finish_of G (victim st.tab) st')).st
          then (Err c) w = drained
          then (Ok m) w =
              finish_marked v seg d.st (subst (λ z. Counted G z.tab) (sym w.0) D.sound) (subst (λ z. Fit G z.flash) (sym w.0) D.fit)
              (ap (λ z. at z.tab.lens v) w.0 ∙ w.1)
              drained

  more_marked : (m c : ℕ) (st : State) → Counted G st.tab → Fit G st.flash → MarkedAll G st → MarkedAll G (collect_more G bad m c st).st
  unfolding collect_more
  more_marked zero c st S F h = h
  more_marked (suc m) c st S F h = go (collect G bad st).answer (more_marked m (suc c) (collect G bad st).st C.sound C.fit one)
    where
      C : Kept G st (collect G bad st)
      C = collected G K bad st S F

      one : MarkedAll G (collect G bad st).st
      one = collect_marked st S F h

      next : (b : Bool) → MarkedAll G (collect_more G bad m (suc c) (collect G bad st).st).st
          → MarkedAll G (cond b (finish c (collect G bad st).st) (collect_more G bad m (suc c) (collect G bad st).st)).st
      next true I = one
      next false I = I

      go : (a : Answer) → MarkedAll G (collect_more G bad m (suc c) (collect G bad st).st).st
          → MarkedAll G (go_on a (collect G bad st) (λ t. cond (eqb t.tab.queued 0) (finish c t) (collect_more G bad m (suc c) t))).st
      go (Ok k) I = next (eqb (collect G bad st).st.tab.queued 0) I
      go (Err r) I = one

  threshold_marked : (t m : ℕ) (st : State) → Counted G st.tab → Fit G st.flash → MarkedAll G st → MarkedAll G (collect_threshold G bad t m st).st
  unfolding collect_threshold collect_list
  threshold_marked t m st S F h = go (ltb t (total st.tab.free))
    where
      go : (b : Bool) → MarkedAll G (cond b (finish 0 st) (collect_more G bad m 0 st)).st
      go true = h
      go false = more_marked m 0 st S F h

-- ---- the entries

module _ (G : Geometry) (bad : List ℕ) where
  abbrev Marks : Outcome → Type 0
  Marks o = MarkedIn G o.left.unit

  -- an inner call put back
  put_marked : (x : Lent) (o : Out) → Counted G o.st.tab → MarkedAll G o.st → Marks (back G x o)
  put_marked x o S h = subst (λ t. MarkedAll G (state t o.st.flash)) (sym (view-packed S.sized)) h

  collecting_marked : (x : Lent) (o : Out) → MarkedIn G x.unit
      → (Good G → Counted G (tables_of G x) → Fit G x.unit.flash → Kept G (state_of G x) o)
      → (Good G → Counted G (tables_of G x) → Fit G x.unit.flash → MarkedAll G o.st)
      → Marks (collecting G bad x o)
  collecting_marked x o h keeps marks =
      guarded_by Marks _ _ _ _ x _ h h
      (λ a b _ _.
      let X : Fits G bad x = all_fit G bad _ x a b in
      put_marked x o (keeps X.good X.counted X.fit).sound (marks X.good X.counted X.fit))

  writing_marked : (sector len : ℕ) (d : List ℕ) (x : Lent) → MarkedIn G x.unit → Marks (write G bad sector len d x)
  unfolding write
  writing_marked sector len d x h =
      guarded_by Marks _ _ _ _ x _ h h
      (λ a b c f.
      let t : (i : ℕ) → _ = each (all_fits G bad (page_scratch G ∷ seen_scratch G ∷ []) x ∷ leb len (length d) ∷ []) a in
      let X : Fits G bad x = all_fit G bad _ x (t 0) b in
      let o : Out = write_page G bad (logical_page G sector) (offset G sector) (take len d) (state_of G x) in
      let w : Wrote G (state_of G x) (logical_page G sector) (offset G sector) (take len d) o =
      wrote G X.good bad (state_of G x) X.counted X.fit (logical_page G sector) (offset G sector) (take len d) (ltb-true _ _ c)
      (rw (length-take-le len d (leb-true _ _ (t 1))) (leb-true _ _ f)) in
      put_marked x o w.sound
      (write_marked G X.good bad (logical_page G sector) (offset G sector) (take len d) (state_of G x) X.counted X.fit (ltb-true _ _ c) h))

  -- tables just opened map nothing
  opened_marked : (r : Recorder) (alloc : ℕ) (o : Outcome) → Begun G r (opened G alloc) o → Marks o
  opened_marked r alloc o B =
      subst (MarkedIn G) (sym B.unit)
      (subst (λ t. MarkedAll G (state t r.flash)) (sym (view-packed B.counted.sized)) (λ l m. absurd (m (same_replicate G.e empty l))))

  stayed_marked : (x : Lent) (o : Outcome) → MarkedIn G x.unit → Stayed x o → Marks o
  stayed_marked x o h s = subst Marks (sym s.is) h

  -- an opening: whatever the tables and the flash were, if it is accepted
  pub opening_marked : (r : Recorder) → (run G bad Open r).answer ≡ Ok 0 → MarkedIn G (after G bad Open r)
  opening_marked r e = go (opened_or G (lent r [] []))
    where
      go : Stayed (lent r [] []) (opening G (lent r [] [])) ⊎ Begun G r (opened G (tab G r).alloc) (opening G (lent r [] [])) → MarkedIn G (after G bad Open r)
      go (inl s) =
          absurd (let f : Err s.cause ≡ Ok 0 = sym (ap (λ (y : Outcome). y.answer) s.is) ∙ e in let z : ◌≡◌ {A = ℕ} 0 1 = cc in omega arith)
      go (inr b) = opened_marked r _ _ b

  -- every call but an accepted formatting and an accepted restore keeps it, whatever it is lent and whatever it answers
  pub marked_kept : (c : Call) (r : Recorder) → Ordinary c (run G bad c r).answer → MarkedIn G r → MarkedIn G (after G bad c r)
  unfolding formatting collection list_collection threshold_collection collect_list
  marked_kept Format r n h =
      guarded_by (λ y. IsRefused y.answer → Marks y) _ _ _ _ (lent r [] []) _ (λ _. h) (λ _. h)
      (λ _ _ _ _ k. absurd (subst IsRefused (formats_all G bad G.n 0 (state_of G (lent r [] []))) k))
      n
  marked_kept Open r n h = go (opened_or G (lent r [] []))
    where
      go : Stayed (lent r [] []) (opening G (lent r [] [])) ⊎ Begun G r (opened G (tab G r).alloc) (opening G (lent r [] [])) → MarkedIn G (after G bad Open r)
      go (inl s) = stayed_marked (lent r [] []) _ h s
      go (inr b) = opened_marked r _ _ b
  marked_kept (Read sector len o s) r n h = subst (MarkedIn G) (sym (read_unit G sector len (lent r o s)).0) h
  marked_kept (Write sector len d s) r n h = writing_marked sector len d (lent r [] s) h
  marked_kept (Collect s) r n h =
      collecting_marked (lent r [] s) _ h (λ K S F. collected G K bad _ S F) (λ K S F. collect_marked G K bad (state_in G r) S F h)
  marked_kept (CollectList m s) r n h =
      collecting_marked (lent r [] s) _ h (λ K S F. collected_list G K bad m _ S F) (λ K S F. more_marked G K bad m 0 (state_in G r) S F h)
  marked_kept (CollectThreshold t m s) r n h =
      collecting_marked (lent r [] s) _ h (λ K S F. collected_threshold G K bad t m _ S F) (λ K S F. threshold_marked G K bad t m (state_in G r) S F h)
  marked_kept (Encode b s) r n h = subst (MarkedIn G) (sym (encoding_unit G (lent r b s)).0) h
  marked_kept (Restore q b s) r n h = go (restored_or G q b (lent r [] s))
    where
      go : Stayed (lent r [] s) (restoring G q b (lent r [] s)) ⊎ Begun G r (restored_by G q b) (restoring G q b (lent r [] s)) → MarkedIn G (after G bad (Restore q b s) r)
      go (inl y) = stayed_marked (lent r [] s) _ h y
      go (inr y) = absurd (subst IsRefused y.answer n)

-- ---- a restore of a checkpoint of such a unit

-- After anything that `Ever` allows, an accepted restore of the checkpoint's file: the pages mapped then are mapped again, and marked still
pub regained_marked : (G : Geometry) (bad : List ℕ) (r₀ : Recorder) → MarkedIn G r₀
    → (buffer : List ℕ) (scratch : List (List ℕ)) (n : ℕ) → (run G bad (Encode buffer scratch) r₀).answer ≡ Ok n
    → {r : Recorder} → Ever G bad r₀ r → (q : Queueing) (s : List (List ℕ))
    → (run G bad (Restore q (take n (run G bad (Encode buffer scratch) r₀).left.buffer) s) r).answer ≡ Ok 0
    → MarkedIn G (after G bad (Restore q (take n (run G bad (Encode buffer scratch) r₀).left.buffer) s) r)
regained_marked G bad r₀ marked buffer scratch n e {r} h q s z =
    subst (λ z. (run G bad (Restore q z s) r).answer ≡ Ok 0 → MarkedIn G (after G bad (Restore q z s) r)) (sym E.file) by_file z
  where
    E : Encoded G (lent r₀ buffer scratch) n (run G bad (Encode buffer scratch) r₀).left.buffer
    E = encoded G (lent r₀ buffer scratch) n e

    file : List ℕ
    file = sealed G (tab G r₀)

    B : Back (tab G r₀) (restored_by G q (sealed G (tab G r₀)))
    B = requeued-back G q _ _ (comes_back G E.good (tab G r₀) E.counted)

    there : MarkedAll G (state (restored_by G q (sealed G (tab G r₀))) r.flash)
    there l m =
        let w : word_of (restored_by G q (sealed G (tab G r₀))) l ≡ word_of (tab G r₀) l = ap (λ x. get_or x l empty) B.map in
        let k : Mapped (tab G r₀) l = λ z. m (w ∙ z) in
        subst (λ a. at r.flash.marks (flat G a) ≢ 0) (sym w)
        (ever G bad r₀ l k (omega (arith, E.counted.page< l k)) (marked l k) h).mark

    by_file : (run G bad (Restore q (sealed G (tab G r₀)) s) r).answer ≡ Ok 0 → MarkedIn G (after G bad (Restore q (sealed G (tab G r₀)) s) r)
    by_file e = go (restored_or G q (sealed G (tab G r₀)) (lent r [] s))
      where
        go : Stayed (lent r [] s) (restoring G q (sealed G (tab G r₀)) (lent r [] s)) ⊎ Begun G r (restored_by G q (sealed G (tab G r₀))) (restoring G q (sealed G (tab G r₀)) (lent r [] s))
            → MarkedIn G (after G bad (Restore q (sealed G (tab G r₀)) s) r)
        go (inl y) =
            absurd (let f : Err y.cause ≡ Ok 0 = sym (ap (λ (o : Outcome). o.answer) y.is) ∙ e in let z : ◌≡◌ {A = ℕ} 0 1 = cc in omega arith)
        go (inr y) =
            subst (MarkedIn G) (sym y.unit) (subst (λ t. MarkedAll G (state t r.flash)) (sym (view-packed y.counted.sized)) there)

-- ---- a unit from its opening on, with any fuse, and regained by checkpoints of its own

pub marked_since : {G : Geometry} {bad : List ℕ} {r : Recorder} → FromOpening G bad r → MarkedIn G r
marked_since {G} {bad} (opens r e) = opening_marked G bad r e
marked_since {G} {bad} (calls {r} h c n) = marked_kept G bad c r n (marked_since h)
marked_since (lends_fuse h f) = marked_since h
marked_since {G} {bad} (regains {r₀} {r} h buffer scratch n e v q s z) = regained_marked G bad r₀ (marked_since h) buffer scratch n e v q s z

-- Demand 3b for such a unit, with no premise on what comes behind the checkpoint but the erases
pub unit_restores : (G : Geometry) (bad : List ℕ) (r₀ : Recorder) → FromOpening G bad r₀
    → (buffer : List ℕ) (scratch : List (List ℕ)) (n : ℕ) → (run G bad (Encode buffer scratch) r₀).answer ≡ Ok n
    → {r : Recorder} → Ever G bad r₀ r → length r.words ≡ tab_words G → length r.used ≡ pages G
    → (q : Queueing) → GivesBack G bad r₀ (take n (run G bad (Encode buffer scratch) r₀).left.buffer) q r
unit_restores G bad r₀ u buffer scratch n e h a b = marked_restores G bad r₀ buffer scratch n e (marked_since u) h a b

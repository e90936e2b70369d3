-- 02, M-102: from formatted flash and fresh tables, with no further opening or restore, no programming is refused for its order, nor for its mark.
use Prim.Native.Nat.{ℕ, zero, suc, ◌+◌, ◌*◌, ◌-◌, ◌≤◌, ◌<◌}
use native.Mathlib.Omega.{arith}
use mathlib.Core.Path.{◌≡◌, refl, sym, ap, ◌∙◌, subst}
use mathlib.Core.Bool.{Bool, true, false, not, cond, ◌&&◌}
use mathlib.Core.Logic.{◌⊎◌, inl, inr, ◌≢◌}
use mathlib.Core.List.{List, [], ◌∷◌}
use lib.Dec.{eqb, ltb, leb}
use lib.ListN.{length, take, get_or-replicate}
use lib.Seq.{get_or-set_other, length-take-le}
use borrow.Author.Tests.{eqb-true, eqb-false, ltb-true, leb-true, not-false}
use Rattle.model.specs.Lists.{slot, splice, total, blank}
use Rattle.model.specs.Numbers.{Geometry, Good, good?, logical_page, offset, Answer, Ok, Err, Cause, Wrong, Unsound, Unmapped, Erase}
use Rattle.model.specs.Causes.{kind_of}
use Rattle.model.specs.Tables.{Tables, at}
use Rattle.model.specs.Device.{Flash, State, state, Out, out, clear_up, may_program, may_erase, raised, blanked, EraseSeg, finish, refuse, behind, go_on, format_from}
use Rattle.model.specs.PageMap.{find, spend, forget}
use Rattle.model.specs.PageWrite.{whole, old_page, stored, spent, write_at, write_page}
use Rattle.model.specs.PageGc.{victim, taken, copy_answer, cleared, finish_of, last_of, copy_one}
use Rattle.model.specs.PageGc.{drain, collect_of, collect, collect_more, collect_list, collect_threshold}
use Rattle.model.specs.Entry.{Recorder, Lent, lent, Outcome, refused, tables_of, state_of, back, flash_fits, all_fits, page_scratch, seen_scratch}
use Rattle.model.specs.Checkpoint.{Queueing}
use Rattle.model.specs.Entry.{formatting, opening, read, write, collecting, collection, list_collection, threshold_collection, encoding, restoring}
use Rattle.model.specs.History.{Call, Format, Open, Read, Write, Collect, CollectList, CollectThreshold, Encode, Restore}
use Rattle.model.specs.History.{run, after, Begins, IsRefused, InService, delivered, called, lent_fuse, AtProgramming, OnlyFuse}
use Rattle.model.specs.Contract.{Fit}
use Rattle.model.proofs.Causes.{kind_copied}
use Rattle.model.proofs.Working.{Counted}
use Rattle.model.proofs.View.{view-packed}
use Rattle.model.proofs.Entry.{tab, Fits, all_fit, Stayed, Begun, opened_or, restored_or, by_kind}
use Rattle.model.proofs.Slots.{same?, part_fits, below_part, place_inj_seg, place_inj_page, zeros_from, slot_at, slot-length}
use Rattle.model.proofs.Spend.{Next, spend_sound, spend_free≤, free_same}
use Rattle.model.proofs.Forget.{forgot}
use Rattle.model.proofs.Find.{Full, Free, found}
use Rattle.model.proofs.Guard.{zeros-blank, each, flash_test, guarded_by, unless_by}
use Rattle.model.proofs.Inner.{Inner, spends, stores, takes, clears, Inners, inners_keep, write_inners, copy_inners, collect_inners, list_inners, threshold_inners}
use Rattle.model.proofs.Taken.{taken_sound, victim_seg}
use Rattle.model.proofs.Reset.{wipe_at_same, wipe_at_other}
use Rattle.model.proofs.Collect.{copied, Kept, collected, collected_list, collected_threshold}
use Rattle.model.proofs.Write.{Wrote, wrote}
use Rattle.model.proofs.Content.{blank_fit}
use Rattle.model.proofs.Format.{formatted}

-- every marked page lies below the first free one of its segment, page p - free
abbrev pub Ordered : Geometry → State → Type 0
Ordered G st = (g k : ℕ) → g < G.n → k < G.p → at st.flash.marks (g * G.p + k) ≢ 0 → k + at st.tab.free g < G.p

module _ (G : Geometry) where
  -- an erase, whatever else it does to the tables, as long as the other segments' free counts stay
  wiped_ordered : (st : State) (t : Tables) (v c : ℕ) → v < G.n → Fit G st.flash → ((j : ℕ) → j ≢ v → at t.free j ≡ at st.tab.free j)
      → Ordered G st → Ordered G (state t (blanked G v c st.flash))
  wiped_ordered st t v c hv F same H g k hg hk m = go (same? g v)
    where
      within : v * G.p + G.p ≤ length st.flash.marks
      within = rw F.marks (part_fits G.p hv)

      go : (g ≡ v) ⊎ (g ≢ v) → k + at t.free g < G.p
      go (inl e) = absurd (m (ap (λ x. at (blanked G v c st.flash).marks (x * G.p + k)) e ∙ wipe_at_same G.p v st.flash.marks within k hk))
      go (inr n) = rw (same g n) (H g k hg hk (λ z. m (wipe_at_other G.p v st.flash.marks within g k n hk ∙ z)))

  -- the page that is found is clear, and so are those above it
  pub found_clear : (st : State) → Fit G st.flash → Ordered G st → (g k : ℕ) → Next G st.tab g k → clear_up G g k st.flash ≡ true
  found_clear st F H g k N =
      ap blank
      (zeros_from (slot G.p g st.flash.marks) k G.p (slot-length G.p g st.flash.marks (rw F.marks (part_fits G.p N.seg)))
      (λ j a b. slot_at G.p g st.flash.marks j 0 b ∙ zero_of j (same? (at st.flash.marks (g * G.p + j)) 0) a b))
      ∙ zeros-blank (G.p - k)
    where
      zero_of : (j : ℕ) → (at st.flash.marks (g * G.p + j) ≡ 0) ⊎ (at st.flash.marks (g * G.p + j) ≢ 0) → k ≤ j → j < G.p
          → at st.flash.marks (g * G.p + j) ≡ 0
      zero_of j (inl e) a b = e
      zero_of j (inr n) a b = absurd (omega (arith, H g j N.seg b n, N.first))

module _ (G : Geometry) (K : Good G) (bad : List ℕ) where
  -- each inner step keeps it
  pub step_ordered : (a b : State) → Counted G a.tab → Fit G a.flash → Inner G bad a b → Ordered G a → Ordered G b
  step_ordered a b S F (spends st g k N b0 m) H j i hj hi e = omega (arith, H j i hj hi e, spend_free≤ G st.tab S g k N j)
  step_ordered a b S F (stores st l off d g k hl hd N b0 m) H j i hj hi e = go (same? (j * G.p + i) (g * G.p + k))
    where
      hk : k < G.p
      hk = omega (arith, N.some_free, N.first)

      t₁ : Tables
      t₁ = spend G g k st.tab

      free : (forget G l t₁).free ≡ t₁.free
      free = (forgot G t₁ (spend_sound G st.tab S g k N) l).free

      go : (j * G.p + i ≡ g * G.p + k) ⊎ (j * G.p + i ≢ g * G.p + k) → i + at (forget G l t₁).free j < G.p
      go (inl q) =
          let x : j ≡ g = place_inj_seg G.p j i g k hi hk q in
          let y : i ≡ k = place_inj_page G.p j i g k hi hk q in
          rw (free, x, y, free_same G st.tab S g k N) (omega (arith, N.some_free, N.first))
      go (inr n) =
          let old : at st.flash.marks (j * G.p + i) ≢ 0 = λ z. e (get_or-set_other st.flash.marks (g * G.p + k) (j * G.p + i) 1 0 n ∙ z) in
          rw free (omega (arith, H j i hj hi old, spend_free≤ G st.tab S g k N j))
  step_ordered a b S F (takes st some) H j i hj hi e = H j i hj hi e
  step_ordered a b S F (clears st v seg bare off m) H j i hj hi e =
      wiped_ordered G st (cleared G v st).st.tab v (raised G v st.flash) seg F (λ x n. get_or-set_other st.tab.free v x G.p 0 n) H j i hj hi e

-- ---- what the device refuses is refused because the fuse is out

copy_only_fuse : (a : Answer) (f : Flash) → OnlyFuse a f → OnlyFuse (copy_answer a) f
copy_only_fuse (Ok m) f h = tt
copy_only_fuse (Err c) f h = kind_copied (λ k. AtProgramming k → f.fuse ≡ 0) (λ _ e. e) c h

module _ (G : Geometry) (K : Good G) (bad : List ℕ) where
  pub write_only_fuse : (st : State) → Counted G st.tab → Fit G st.flash → Ordered G st → (l off : ℕ) (d : List ℕ)
      → OnlyFuse (write_page G bad l off d st).answer (write_page G bad l off d st).st.flash
  unfolding write_page write_at may_program
  write_only_fuse st S F H l off d = go (found G K st.tab S bad)
    where
      at_page : (g k : ℕ) → Next G st.tab g k → (b : Bool) → (clear_up G g k st.flash && not (eqb st.flash.fuse 0)) ≡ b
          → let o = cond b (stored G l (length d) g k (splice off d (old_page G st l)) st) (spent G g k st) in OnlyFuse o.answer o.st.flash
      at_page g k N true e = tt
      at_page g k N false e = λ _. eqb-true _ _ (not-false _ (rw (found_clear G st F H g k N) at e))

      go : Full G K st.tab S bad (find G bad st.tab) ⊎ Free G K st.tab S bad (find G bad st.tab)
          → let o = write_at G (find G bad st.tab) l off d st in OnlyFuse o.answer o.st.flash
      go (inl full) = rw full.is (λ z. absurd z)
      go (inr free) = rw free.is (at_page free.seg _ free.next _ refl)

  module _ (v : ℕ) (seg : v < G.n) where
    drain_only_fuse : (b : ℕ) (st : State) → Counted G st.tab → Fit G st.flash → Ordered G st
        → OnlyFuse (drain G bad b v st).answer (drain G bad b v st).st.flash
    unfolding drain
    drain_only_fuse zero st S F H = tt
    drain_only_fuse (suc b) st S F H = go (eqb (at st.tab.lens v) 0) refl (λ st' S' F' H'. drain_only_fuse b st' S' F' H')
      where
        l : ℕ
        l = last_of G v st.tab

        w : Out
        w = write_page G bad l 0 (whole G st l) st

        c : Out
        c = copy_one G bad v st

        More : Type 0
        More = (st' : State) → Counted G st'.tab → Fit G st'.flash → Ordered G st' → OnlyFuse (drain G bad b v st').answer (drain G bad b v st').st.flash

        next : at st.tab.lens v ≢ 0 → More → (a : Answer) → OnlyFuse a c.st.flash
            → let o = go_on a (out c.st a c.ops) (λ st'. drain G bad b v st') in OnlyFuse o.answer o.st.flash
        next some ih (Err r) h = h
        next some ih (Ok k) h =
            ih c.st (copied G K bad v seg st S F some).sound (copied G K bad v seg st S F some).fit
            (inners_keep G K bad (Ordered G) (step_ordered G K bad) (copy_inners G K bad v seg st S F some) S F H)

        go : (x : Bool) → eqb (at st.tab.lens v) 0 ≡ x → More
            → let o = cond x (finish 0 st) (go_on c.answer c (λ st'. drain G bad b v st')) in OnlyFuse o.answer o.st.flash
        go true e ih = tt
        go false e ih = next (eqb-false _ _ e) ih c.answer (copy_only_fuse w.answer w.st.flash (write_only_fuse st S F H l 0 (whole G st l)))

  module _ (st : State) (S : Counted G st.tab) (F : Fit G st.flash) (H : Ordered G st) where
    pub collect_only_fuse : OnlyFuse (collect G bad st).answer (collect G bad st).st.flash
    unfolding collect collect_of finish_of
    collect_only_fuse = go (eqb st.tab.queued 0) refl
      where
        v : ℕ
        v = victim st.tab

        d : Out
        d = drain G bad G.p v (state (taken st.tab) st.flash)

        ended : (b : Bool) → let o = cond b (cleared G v d.st) (refuse Erase d.st) in OnlyFuse o.answer o.st.flash
        ended true = tt
        ended false = λ z. absurd z

        of : (a : Answer) → OnlyFuse a d.st.flash
            → let o = go_on a (out d.st a d.ops) (λ st'. finish_of G v st') in OnlyFuse o.answer o.st.flash
        of (Err r) h = h
        of (Ok m) h = ended (may_erase G v d.st.flash)

        go : (b : Bool) → eqb st.tab.queued 0 ≡ b
            → let o = cond b (finish 0 st) (go_on d.answer d (λ st'. finish_of G v st')) in OnlyFuse o.answer o.st.flash
        go true e = tt
        go false e =
            let n : st.tab.queued ≢ 0 = eqb-false _ _ e in
            let some : 0 < st.tab.queued = omega arith in
            of d.answer (drain_only_fuse v (victim_seg G st.tab S some) G.p _ (taken_sound G st.tab S some) F H)

  more_only_fuse : (m c : ℕ) (st : State) → Counted G st.tab → Fit G st.flash → Ordered G st
      → OnlyFuse (collect_more G bad m c st).answer (collect_more G bad m c st).st.flash
  unfolding collect_more
  more_only_fuse zero c st S F H = tt
  more_only_fuse (suc m) c st S F H = next o.answer (collect_only_fuse st S F H) (λ st' S' F' H'. more_only_fuse m (suc c) st' S' F' H')
    where
      o : Out
      o = collect G bad st

      C : Kept G st o
      C = collected G K bad st S F

      More : Type 0
      More = (st' : State) → Counted G st'.tab → Fit G st'.flash → Ordered G st'
          → OnlyFuse (collect_more G bad m (suc c) st').answer (collect_more G bad m (suc c) st').st.flash

      pick : (b : Bool) → OnlyFuse (collect_more G bad m (suc c) o.st).answer (collect_more G bad m (suc c) o.st).st.flash
          → let q = cond b (finish c o.st) (collect_more G bad m (suc c) o.st) in OnlyFuse q.answer q.st.flash
      pick true h = tt
      pick false h = h

      next : (a : Answer) → OnlyFuse a o.st.flash → More
          → let q = go_on a (out o.st a o.ops) (λ t. cond (eqb t.tab.queued 0) (finish c t) (collect_more G bad m (suc c) t)) in
          OnlyFuse q.answer q.st.flash
      next (Err r) h ih = h
      next (Ok k) h ih =
          pick (eqb o.st.tab.queued 0)
          (ih o.st C.sound C.fit (inners_keep G K bad (Ordered G) (step_ordered G K bad) (collect_inners G K bad st S F) S F H))

  pub list_only_fuse : (m : ℕ) (st : State) → Counted G st.tab → Fit G st.flash → Ordered G st
      → OnlyFuse (collect_list G bad m st).answer (collect_list G bad m st).st.flash
  unfolding collect_list
  list_only_fuse m st S F H = more_only_fuse m 0 st S F H

  pub threshold_only_fuse : (threshold m : ℕ) (st : State) → Counted G st.tab → Fit G st.flash → Ordered G st
      → OnlyFuse (collect_threshold G bad threshold m st).answer (collect_threshold G bad threshold m st).st.flash
  unfolding collect_threshold
  threshold_only_fuse threshold m st S F H = go (ltb threshold (total st.tab.free))
    where
      go : (b : Bool) → let o = cond b (finish 0 st) (collect_list G bad m st) in OnlyFuse o.answer o.st.flash
      go true = tt
      go false = list_only_fuse m st S F H

-- ---- the calls

abbrev pub state_in : Geometry → Recorder → State
state_in G r = state (tab G r) r.flash

-- what a call leaves: order kept, and only the fuse refused
pub record Orderly (G : Geometry) (r : Recorder) (o : Outcome) : Type 0 where
  pub ordered : Ordered G (state_in G r) → Ordered G (state_in G o.left.unit)
  pub only : Ordered G (state_in G r) → OnlyFuse o.answer o.left.unit.flash

module _ (G : Geometry) (bad : List ℕ) where
  refused_orderly : (c : Cause) → (AtProgramming (kind_of c) → ⊥) → (x : Lent) → Orderly G x.unit (refused c x)
  refused_orderly c n x = record { ordered = λ H. H; only = λ H z. absurd (n z) }

  -- an inner call, put back into what was lent
  back_orderly : (x : Lent) (o : Out) → Counted G o.st.tab → (Ordered G (state_of G x) → Ordered G o.st)
      → (Ordered G (state_of G x) → OnlyFuse o.answer o.st.flash) → Orderly G x.unit (back G x o)
  back_orderly x o S f g = record { ordered = λ H. subst (λ t. Ordered G (state t o.st.flash)) (sym (view-packed S.sized)) (f H); only = g }

  collecting_orderly : (x : Lent) (o : Out) → (Good G → Counted G (tables_of G x) → Fit G x.unit.flash → Kept G (state_of G x) o)
      → ((K : Good G) → Counted G (tables_of G x) → Fit G x.unit.flash → Inners G bad (state_of G x) o.st)
      → (Good G → Counted G (tables_of G x) → Fit G x.unit.flash → Ordered G (state_of G x) → OnlyFuse o.answer o.st.flash)
      → Orderly G x.unit (collecting G bad x o)
  collecting_orderly x o keeps inners only =
      guarded_by (Orderly G x.unit) _ _ _ _ x _ (refused_orderly Wrong (λ z. z) x) (refused_orderly Unsound (λ z. z) x)
      (λ a b _ _.
      let X : Fits G bad x = all_fit G bad _ x a b in
      let K : Good G = X.good in
      let S : Counted G (tables_of G x) = X.counted in
      let F : Fit G x.unit.flash = X.fit in
      back_orderly x o (keeps K S F).sound (λ H. inners_keep G K bad (Ordered G) (step_ordered G K bad) (inners K S F) S F H) (only K S F))

  write_orderly : (sector len : ℕ) (d : List ℕ) (x : Lent) → Orderly G x.unit (write G bad sector len d x)
  unfolding write
  write_orderly sector len d x =
      guarded_by (Orderly G x.unit) _ _ _ _ x _ (refused_orderly Wrong (λ z. z) x) (refused_orderly Unsound (λ z. z) x)
      (λ a b c e.
      let t : (i : ℕ) → _ = each (all_fits G bad (page_scratch G ∷ seen_scratch G ∷ []) x ∷ leb len (length d) ∷ []) a in
      let X : Fits G bad x = all_fit G bad _ x (t 0) b in
      let K : Good G = X.good in
      let S : Counted G (tables_of G x) = X.counted in
      let F : Fit G x.unit.flash = X.fit in
      let l : ℕ = logical_page G sector in
      let off : ℕ = offset G sector in
      let hl : l < G.e = ltb-true _ _ c in
      let hd : off + length (take len d) ≤ G.s = rw (length-take-le len d (leb-true _ _ (t 1))) (leb-true _ _ e) in
      let W : Wrote G (state_of G x) l off (take len d) (write_page G bad l off (take len d) (state_of G x)) = wrote G K bad (state_of G x) S F l off (take len d) hl hd in
      back_orderly x (write_page G bad l off (take len d) (state_of G x)) W.sound
      (λ H. inners_keep G K bad (Ordered G) (step_ordered G K bad) (write_inners G K bad (state_of G x) l off (take len d) S hl hd) S F H)
      (λ H. write_only_fuse G K bad (state_of G x) S F H l off (take len d)))

  read_orderly : (sector len : ℕ) (x : Lent) → Orderly G x.unit (read G sector len x)
  unfolding read
  read_orderly sector len x =
      guarded_by (Orderly G x.unit) _ _ _ _ x _ (refused_orderly Wrong (λ z. z) x) (refused_orderly Unsound (λ z. z) x)
      (λ _ _ _ _.
      unless_by (Orderly G x.unit) _ _ x _ (refused_orderly Unmapped (λ z. z) x) (λ _. record { ordered = λ H. H; only = λ H. tt }))

  encoding_orderly : (x : Lent) → Orderly G x.unit (encoding G x)
  unfolding encoding
  encoding_orderly x =
      guarded_by (Orderly G x.unit) _ _ _ _ x _ (refused_orderly Wrong (λ z. z) x) (refused_orderly Unsound (λ z. z) x)
      (λ _ _ _ _. record { ordered = λ H. H; only = λ H. tt })

  -- formatting: marks are cleared, tables stay
  format_from_lem : (k g : ℕ) (st : State) → k + g ≤ G.n → Fit G st.flash → Ordered G st
      → Ordered G (state st.tab (format_from G k g st).st.flash)
  unfolding format_from
  format_from_lem zero g st h F H = H
  format_from_lem (suc k) g st h F H =
      go (eqb st.flash.fuse 0) (format_from G k (suc g) (state st.tab (blanked G g 0 st.flash)))
      (format_from_lem k (suc g) (state st.tab (blanked G g 0 st.flash)) (omega arith) (blank_fit G st.flash F g 0 (omega arith))
      (wiped_ordered G st st.tab g 0 (omega arith) F (λ j _. refl) H))
    where
      go : (b : Bool) (o : Out) → Ordered G (state st.tab o.st.flash)
          → Ordered G (state st.tab (cond b (finish 0 st) (behind (EraseSeg g 0 ∷ []) o)).st.flash)
      go true o I = H
      go false o I = I

  format_orderly : (x : Lent) → Orderly G x.unit (formatting G x)
  unfolding formatting
  format_orderly x =
      guarded_by (Orderly G x.unit) _ _ _ _ x _ (refused_orderly Wrong (λ z. z) x) (refused_orderly Unsound (λ z. z) x)
      (λ a _ _ _.
      let t : (i : ℕ) → _ = each (good? G ∷ flash_fits G x.unit.flash ∷ []) a in
      let F : Fit G x.unit.flash = flash_test G x.unit.flash (t 1) in
      record {
        ordered = λ H. format_from_lem G.n 0 (state_of G x) (omega arith) F H;
        only = λ H. subst (λ a. OnlyFuse a (format_from G G.n 0 (state_of G x)).st.flash) (sym (formatted G (state_of G x) F).answer) tt;
      })

  pub call_orderly : (c : Call) (r : Recorder) → (Begins c → ⊥) → Orderly G r (run G bad c r)
  unfolding collection list_collection threshold_collection
  call_orderly Format r n = format_orderly (lent r [] [])
  call_orderly Open r n = absurd (n tt)
  call_orderly (Read sector len o s) r n = read_orderly sector len (lent r o s)
  call_orderly (Write sector len d s) r n = write_orderly sector len d (lent r [] s)
  call_orderly (Collect s) r n =
      collecting_orderly (lent r [] s) _ (λ K S F. collected G K bad _ S F) (λ K S F. collect_inners G K bad _ S F) (λ K S F H. collect_only_fuse G K bad _ S F H)
  call_orderly (CollectList m s) r n =
      collecting_orderly (lent r [] s) _ (λ K S F. collected_list G K bad m _ S F) (λ K S F. list_inners G K bad m _ S F)
      (λ K S F H. list_only_fuse G K bad m _ S F H)
  call_orderly (CollectThreshold t m s) r n =
      collecting_orderly (lent r [] s) _ (λ K S F. collected_threshold G K bad t m _ S F) (λ K S F. threshold_inners G K bad t m _ S F)
      (λ K S F H. threshold_only_fuse G K bad t m _ S F H)
  call_orderly (Encode b s) r n = encoding_orderly (lent r b s)
  call_orderly (Restore q b s) r n = absurd (n tt)

  -- ---- in service

  -- a refused opening or restore leaves everything
  stayed_ordered : (x : Lent) (t : Tables) (o : Outcome) → IsRefused o.answer → Stayed x o ⊎ Begun G x.unit t o
      → Ordered G (state_in G x.unit) → Ordered G (state_in G o.left.unit)
  stayed_ordered x t o k (inl s) H = subst (λ y. Ordered G (state_in G y.left.unit)) (sym s.is) H
  stayed_ordered x t o k (inr b) H = absurd (subst IsRefused b.answer k)

  called_ordered : (c : Call) (r : Recorder) → (Begins c → IsRefused (run G bad c r).answer) → Ordered G (state_in G r) → Ordered G (state_in G (after G bad c r))
  called_ordered c r =
      by_kind (λ c. (Begins c → IsRefused (run G bad c r).answer) → Ordered G (state_in G r) → Ordered G (state_in G (after G bad c r)))
      (λ k H. stayed_ordered (lent r [] []) _ _ (k tt) (opened_or G (lent r [] [])) H)
      (λ q b s k H. stayed_ordered (lent r [] s) _ _ (k tt) (restored_or G q b (lent r [] s)) H)
      (λ c n k H. (call_orderly c r n).ordered H)
      c

module _ (G : Geometry) where
  -- an opening and a restore ask the device for nothing
  opening_only_fuse : (x : Lent) → OnlyFuse (opening G x).answer (opening G x).left.unit.flash
  unfolding opening
  opening_only_fuse x = guarded_by (λ o. OnlyFuse o.answer o.left.unit.flash) _ _ _ _ x _ (λ z. absurd z) (λ z. absurd z) (λ _ _ _ _. tt)

  restoring_only_fuse : (q : Queueing) (b : List ℕ) (x : Lent) → OnlyFuse (restoring G q b x).answer (restoring G q b x).left.unit.flash
  unfolding restoring
  restoring_only_fuse q b x =
      guarded_by (λ o. OnlyFuse o.answer o.left.unit.flash) _ _ _ _ x _ (λ z. absurd z) (λ z. absurd z)
      (λ _ _ _ _. unless_by (λ o. OnlyFuse o.answer o.left.unit.flash) _ _ x _ (λ z. absurd z) (λ _. tt))

  pub in_service : {r : Recorder} → InService G r → Ordered G (state_in G r)
  in_service (delivered f) = λ g k hg hk m. absurd (m (get_or-replicate (G.n * G.p) (g * G.p + k) 0 0 (below_part G.p hg hk)))
  in_service (lent_fuse h f) = in_service h
  in_service (called {r} h bad c k) = called_ordered G bad c r k (in_service h)

  -- "no call is ever refused for this": in service a call that is refused at a programming is refused because the fuse is out
  pub never_for_order : {r : Recorder} → InService G r → (bad : List ℕ) (c : Call) → OnlyFuse (run G bad c r).answer (after G bad c r).flash
  never_for_order {r} h bad c =
      by_kind (λ c. OnlyFuse (run G bad c r).answer (after G bad c r).flash) (opening_only_fuse (lent r [] [])) (λ q b s. restoring_only_fuse q b (lent r [] s))
      (λ c n. (call_orderly G bad c r n).only (in_service h))
      c

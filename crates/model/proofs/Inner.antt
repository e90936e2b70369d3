-- What a write or a collection does to tables and flash, inner step by inner step: a page spent, a page stored, a victim taken, a segment erased and reset. What each
-- of these keeps, every write and every collection keeps.
use Prim.Native.Nat.{ℕ, zero, suc, ◌+◌, ◌≤◌, ◌<◌}
use native.Mathlib.Omega.{arith}
use mathlib.Core.Path.{◌≡◌, refl, ◌∙◌, subst}
use mathlib.Core.Bool.{Bool, true, false, cond}
use mathlib.Core.Logic.{◌⊎◌, inl, inr, ◌≢◌}
use mathlib.Core.List.{List, []}
use lib.Dec.{eqb, ltb}
use lib.ListN.{length}
use borrow.Author.Tests.{eqb-false}
use Rattle.model.specs.Lists.{occ, splice, total}
use Rattle.model.specs.Numbers.{Geometry, Good, Answer, Ok, Err, Erase, empty, page_of}
use Rattle.model.specs.Tables.{at, word_of, queue_of}
use Rattle.model.specs.Sound.{Mapped}
use Rattle.model.specs.Device.{State, state, Out, may_program, may_erase, finish, refuse, go_on, raised}
use Rattle.model.specs.PageMap.{find}
use Rattle.model.specs.PageWrite.{whole, old_page, stored, spent, write_at, write_page}
use Rattle.model.specs.PageGc.{victim, taken, cleared, finish_of, last_of, copy_one}
use Rattle.model.specs.PageGc.{drain, collect_of, collect, collect_more, collect_list, collect_threshold}
use Rattle.model.specs.Contract.{Fit}
use Rattle.model.proofs.Working.{Counted}
use Rattle.model.proofs.Slots.{mapped_lt}
use Rattle.model.proofs.Spend.{Next}
use Rattle.model.proofs.Find.{Full, Free, found}
use Rattle.model.proofs.Content.{page_length, blank_fit}
use Rattle.model.proofs.Write.{wrote_stored, wrote_spent, Wrote}
use Rattle.model.proofs.Taken.{taken_sound, victim_flag, victim_full, victim_seg, victim_off}
use Rattle.model.proofs.Reset.{reset_sound}
use Rattle.model.proofs.Collect.{last_in, Emptied, Drained, drained, copied, Kept, collected}

pub data Inner (G : Geometry) (bad : List ℕ) : State → State → Type 0 where
  spends : (st : State) (g k : ℕ) → Next G st.tab g k → at bad g ≡ 0 → may_program G g k st.flash ≡ false → Inner G bad st (spent G g k st).st
  stores : (st : State) (l off : ℕ) (d : List ℕ) (g k : ℕ) → l < G.e → off + length d ≤ G.s → Next G st.tab g k → at bad g ≡ 0
      → may_program G g k st.flash ≡ true → Inner G bad st (stored G l (length d) g k (splice off d (old_page G st l)) st).st
  takes : (st : State) → 0 < st.tab.queued → Inner G bad st (state (taken st.tab) st.flash)
  clears : (st : State) (v : ℕ) → v < G.n → at st.tab.lens v ≡ 0 → occ v (queue_of st.tab) ≡ 0 → may_erase G v st.flash ≡ true
      → Inner G bad st (cleared G v st).st

pub data Inners (G : Geometry) (bad : List ℕ) : State → State → Type 0 where
  none : (st : State) → Inners G bad st st
  then : {a b c : State} → Inner G bad a b → Inners G bad b c → Inners G bad a c

pub append : {G : Geometry} {bad : List ℕ} {a b c : State} → Inners G bad a b → Inners G bad b c → Inners G bad a c
append (none st) js = js
append (then i is) js = then i (append is js)

module _ (G : Geometry) (K : Good G) (bad : List ℕ) where
  -- sound tables and flash of the right size, step by step
  inner_sound : {a b : State} → Inner G bad a b → Counted G a.tab → Fit G a.flash → Counted G b.tab × Fit G b.flash
  inner_sound (spends st g k N b m) S F = ((wrote_spent G K st S F 0 0 [] K.e≥ (omega arith) g k N).sound, F)
  inner_sound (stores st l off d g k hl hd N b m) S F =
      let W : Wrote G st l off d _ = wrote_stored G K st S F l off d hl hd g k N in
      (W.sound, W.fit)
  inner_sound (takes st some) S F = (taken_sound G st.tab S some, F)
  inner_sound (clears st v seg bare off m) S F =
      (reset_sound G st.tab S v seg bare off, blank_fit G st.flash F v (raised G v st.flash) seg)

  -- what every step keeps, a run of steps keeps
  pub inners_keep : (P : State → Type 0)
      → ((a b : State) → Counted G a.tab → Fit G a.flash → Inner G bad a b → P a → P b)
      → {a b : State} → Inners G bad a b → Counted G a.tab → Fit G a.flash → P a → P b
  inners_keep P f (none st) S F p = p
  inners_keep P f (then {a} {b} {c} i is) S F p =
      let h : Counted G b.tab × Fit G b.flash = inner_sound i S F in
      inners_keep P f is h.0 h.1 (f a b S F i p)

  -- a write
  pub write_inners : (st : State) (l off : ℕ) (d : List ℕ) → Counted G st.tab → l < G.e → off + length d ≤ G.s
      → Inners G bad st (write_page G bad l off d st).st
  unfolding write_page write_at
  write_inners st l off d S hl hd = go (found G K st.tab S bad)
    where
      at_page : (g k : ℕ) → Next G st.tab g k → at bad g ≡ 0 → (b : Bool) → may_program G g k st.flash ≡ b
          → Inners G bad st (cond b (stored G l (length d) g k (splice off d (old_page G st l)) st) (spent G g k st)).st
      at_page g k N b0 true e = then (stores st l off d g k hl hd N b0 e) (none _)
      at_page g k N b0 false e = then (spends st g k N b0 e) (none _)

      go : Full G K st.tab S bad (find G bad st.tab) ⊎ Free G K st.tab S bad (find G bad st.tab)
          → Inners G bad st (write_at G (find G bad st.tab) l off d st).st
      go (inl full) = rw full.is (none st)
      go (inr free) = rw free.is (at_page free.seg _ free.next free.good (may_program G free.seg _ st.flash) refl)

  -- a drain: writes of v's last logical page
  module _ (v : ℕ) (seg : v < G.n) where
    pub copy_inners : (st : State) → Counted G st.tab → Fit G st.flash → at st.tab.lens v ≢ 0 → Inners G bad st (copy_one G bad v st).st
    copy_inners st S F some =
        let l : ℕ = last_of G v st.tab in
        let m : Mapped st.tab l = (last_in G v seg st.tab S some).0 in
        let k : page_of G (word_of st.tab l) < G.p = omega (arith, S.page< l m) in
        write_inners st l 0 (whole G st l) S
        (rw S.sized.map at (mapped_lt st.tab.map l empty m))
        (omega (arith, page_length G st.flash F (S.seg< l m) k))

    drain_inners : (b : ℕ) (st : State) → Counted G st.tab → Fit G st.flash → Inners G bad st (drain G bad b v st).st
    unfolding drain
    drain_inners zero st S F = none st
    drain_inners (suc b) st S F = go (eqb (at st.tab.lens v) 0) refl (λ st' S' F'. drain_inners b st' S' F')
      where
        next : at st.tab.lens v ≢ 0 → ((st' : State) → Counted G st'.tab → Fit G st'.flash → Inners G bad st' (drain G bad b v st').st)
            → (a : Answer) → Inners G bad st (go_on a (copy_one G bad v st) (λ st'. drain G bad b v st')).st
        next some ih (Err r) = copy_inners st S F some
        next some ih (Ok k) =
            append (copy_inners st S F some)
            (ih (copy_one G bad v st).st (copied G K bad v seg st S F some).sound (copied G K bad v seg st S F some).fit)

        go : (c : Bool) → eqb (at st.tab.lens v) 0 ≡ c
            → ((st' : State) → Counted G st'.tab → Fit G st'.flash → Inners G bad st' (drain G bad b v st').st)
            → Inners G bad st (cond c (finish 0 st) (go_on (copy_one G bad v st).answer (copy_one G bad v st) (λ st'. drain G bad b v st'))).st
        go true e ih = none st
        go false e ih = next (eqb-false _ _ e) ih (copy_one G bad v st).answer

    finish_inners : (st : State) → at st.tab.lens v ≡ 0 → occ v (queue_of st.tab) ≡ 0 → Inners G bad st (finish_of G v st).st
    unfolding finish_of
    finish_inners st bare off = go (may_erase G v st.flash) refl
      where
        go : (b : Bool) → may_erase G v st.flash ≡ b → Inners G bad st (cond b (cleared G v st) (refuse Erase st)).st
        go true e = then (clears st v seg bare off e) (none _)
        go false e = none st

  -- a collection
  module _ (st : State) (S : Counted G st.tab) (F : Fit G st.flash) where
    pub collect_inners : Inners G bad st (collect G bad st).st
    unfolding collect collect_of
    collect_inners = go (eqb st.tab.queued 0) refl
      where
        v : ℕ
        v = victim st.tab

        st₁ : State
        st₁ = state (taken st.tab) st.flash

        of : 0 < st.tab.queued → (o : Out) → Inners G bad st₁ o.st → Drained G v st₁ o → (a : Answer) → o.answer ≡ a
            → Inners G bad st (go_on a o (λ st'. finish_of G v st')).st
        of some o is D (Err r) e = then (takes st some) is
        of some o is D (Ok m) e =
            then (takes st some)
            (append is
            (finish_inners v (victim_seg G st.tab S some) o.st (subst (Emptied o.st.tab v) e D.emptied)
            (D.busy.queue ∙ victim_off G st.tab S some)))

        go : (b : Bool) → eqb st.tab.queued 0 ≡ b → Inners G bad st (cond b (finish 0 st) (collect_of G bad v st)).st
        go true e = none st
        go false e =
            let n : st.tab.queued ≢ 0 = eqb-false _ _ e in
            let some : 0 < st.tab.queued = omega arith in
            let seg : v < G.n = victim_seg G st.tab S some in
            of some (drain G bad G.p v st₁) (drain_inners v seg G.p st₁ (taken_sound G st.tab S some) F)
            (drained G K bad v seg G.p st₁ (omega (arith, S.lens≤ v, S.valid≤ v)) (taken_sound G st.tab S some) F
            (victim_full G st.tab S some)
            (victim_flag G st.tab S some))
            _
            refl

  collect_more_inners : (m c : ℕ) (st : State) → Counted G st.tab → Fit G st.flash → Inners G bad st (collect_more G bad m c st).st
  unfolding collect_more
  collect_more_inners zero c st S F = none st
  collect_more_inners (suc m) c st S F = go o.answer (λ st' S' F'. collect_more_inners m (suc c) st' S' F')
    where
      o : Out
      o = collect G bad st

      next : (b : Bool) → Inners G bad o.st (collect_more G bad m (suc c) o.st).st
          → Inners G bad o.st (cond b (finish c o.st) (collect_more G bad m (suc c) o.st)).st
      next true is = none o.st
      next false is = is

      go : (a : Answer) → ((st' : State) → Counted G st'.tab → Fit G st'.flash → Inners G bad st' (collect_more G bad m (suc c) st').st)
          → Inners G bad st (go_on a o (λ t. cond (eqb t.tab.queued 0) (finish c t) (collect_more G bad m (suc c) t))).st
      go (Err r) ih = collect_inners st S F
      go (Ok k) ih =
          let C : Kept G st o = collected G K bad st S F in
          append (collect_inners st S F) (next (eqb o.st.tab.queued 0) (ih o.st C.sound C.fit))

  pub list_inners : (m : ℕ) (st : State) → Counted G st.tab → Fit G st.flash → Inners G bad st (collect_list G bad m st).st
  unfolding collect_list
  list_inners m st S F = collect_more_inners m 0 st S F

  pub threshold_inners : (threshold m : ℕ) (st : State) → Counted G st.tab → Fit G st.flash
      → Inners G bad st (collect_threshold G bad threshold m st).st
  unfolding collect_threshold
  threshold_inners threshold m st S F = go (ltb threshold (total st.tab.free))
    where
      go : (b : Bool) → Inners G bad st (cond b (finish 0 st) (collect_list G bad m st)).st
      go true = none st
      go false = list_inners m st S F

-- The ends of a write and of an erase, and the walk over copies, passes and lists: each once, for all that is shown of the inner calls' outcomes.
use Prim.Native.Nat.{ℕ, zero, suc, ◌<◌}
use native.Mathlib.Omega.{arith}
use mathlib.Core.Path.{◌≡◌, refl}
use mathlib.Core.Bool.{Bool, true, false, cond}
use mathlib.Core.List.{List}
use lib.Dec.{eqb, ltb}
use lib.ListN.{length}
use borrow.Author.Tests.{eqb-false}
use Rattle.model.specs.declared.Geometry.{Geometry}
use Rattle.model.specs.declared.Cause.TheVariants.{NoRoom, Erase}
use Rattle.model.specs.PageMap.{Found}
use Rattle.model.specs.PageMap.{Some, spot, None}
use Rattle.model.specs.Lists.{splice, total}
use Rattle.model.specs.Tables.{at}
use Rattle.model.specs.Device.{State, state, Out, finish, refuse, go_on, may_program, may_erase}
use Rattle.model.specs.PageMap.{find}
use Rattle.model.specs.PageWrite.{old_page, stored, spent, write_at, write_page}
use Rattle.model.specs.PageGc.{victim, taken, cleared, finish_of, copy_one, drain, collect_of, collect, collect_more, collect_list, collect_threshold}

module _ (G : Geometry) (bad : List ℕ) where
  -- a write finds no room, or a page that is programmed, or one that the device refuses
  pub write_by : (P : Out → Type 0) (l off : ℕ) (d : List ℕ) (st : State)
      → P (refuse NoRoom st)
      → ((g k : ℕ) → may_program G g k st.flash ≡ true → P (stored G l (length d) g k (splice off d (old_page G st l)) st))
      → ((g k : ℕ) → may_program G g k st.flash ≡ false → P (spent G g k st))
      → P (write_page G bad l off d st)
  unfolding write_page write_at
  write_by P l off d st none done refused = go (find G bad st.tab)
    where
      at_page : (g k : ℕ) (b : Bool) → may_program G g k st.flash ≡ b
          → P (cond b (stored G l (length d) g k (splice off d (old_page G st l)) st) (spent G g k st))
      at_page g k true e = done g k e
      at_page g k false e = refused g k e

      go : (r : Found) → P (write_at G r l off d st)
      go None = none
      go (Some x) = at_page x.segment x.page (may_program G x.segment x.page st.flash) refl

  -- a drained segment is erased and reset, or the device refuses
  pub finish_by : (P : Out → Type 0) (v : ℕ) (st : State) → P (cleared G v st) → P (refuse Erase st) → P (finish_of G v st)
  unfolding finish_of
  finish_by P v st done refused = go (may_erase G v st.flash)
    where
      go : (b : Bool) → P (cond b (cleared G v st) (refuse Erase st))
      go true = done
      go false = refused

  -- What holds of a call that does nothing, of a copy and of an end, does not look at the queue, and goes through from call to call, holds of the collections
  module _ (P : State → Out → Type 0)
      (idle : (c : ℕ) (st : State) → P st (finish c st))
      (copied : (v : ℕ) (st : State) → P st (copy_one G bad v st))
      (took : (st : State) (o : Out) → P (state (taken st.tab) st.flash) o → P st o)
      (goes_on : (st : State) (o : Out) (rest : State → Out) → P st o → P o.st (rest o.st) → P st (go_on o.answer o rest)) where
    pub drain_by : (b v : ℕ) (st : State) → P st (drain G bad b v st)
    unfolding drain
    drain_by zero v st = idle 0 st
    drain_by (suc b) v st = go (eqb (at st.tab.lens v) 0) (λ st'. drain_by b v st')
      where
        go : (c : Bool) → ((st' : State) → P st' (drain G bad b v st'))
            → P st (cond c (finish 0 st) (go_on (copy_one G bad v st).answer (copy_one G bad v st) (λ st'. drain G bad b v st')))
        go true ih = idle 0 st
        go false ih = goes_on st (copy_one G bad v st) _ (copied v st) (ih (copy_one G bad v st).st)

    -- one collection, by the end of its victim
    pub collect_by : (st : State) → (0 < st.tab.queued → (st' : State) → P st' (finish_of G (victim st.tab) st')) → P st (collect G bad st)
    unfolding collect collect_of
    collect_by st ends = go (eqb st.tab.queued 0) refl
      where
        v : ℕ
        v = victim st.tab

        d : Out
        d = drain G bad G.p (victim st.tab) (state (taken st.tab) st.flash)

        go : (b : Bool) → eqb st.tab.queued 0 ≡ b → P st (cond b (finish 0 st) (collect_of G bad (victim st.tab) st))
        go true e = idle 0 st
        go false e =
            let n : st.tab.queued ≡ 0 → ⊥ = eqb-false _ _ e in
            took st _
            (goes_on (state (taken st.tab) st.flash) d (λ st'. finish_of G v st') (drain_by G.p v (state (taken st.tab) st.flash))
            (ends (omega arith) d.st))

    module _ (ends : (v : ℕ) (st : State) → P st (finish_of G v st)) where
      pub more_by : (m c : ℕ) (st : State) → P st (collect_more G bad m c st)
      unfolding collect_more
      more_by zero c st = idle c st
      more_by (suc m) c st =
          goes_on st (collect G bad st) (λ t. cond (eqb t.tab.queued 0) (finish c t) (collect_more G bad m (suc c) t))
          (collect_by st (λ _ st'. ends (victim st.tab) st'))
          (go (eqb (collect G bad st).st.tab.queued 0) (more_by m (suc c) (collect G bad st).st))
        where
          go : (b : Bool) → P (collect G bad st).st (collect_more G bad m (suc c) (collect G bad st).st)
              → P (collect G bad st).st (cond b (finish c (collect G bad st).st) (collect_more G bad m (suc c) (collect G bad st).st))
          go true ih = idle c (collect G bad st).st
          go false ih = ih

      pub threshold_by : (t m : ℕ) (st : State) → P st (collect_threshold G bad t m st)
      unfolding collect_threshold collect_list
      threshold_by t m st = go (ltb t (total st.tab.free))
        where
          go : (b : Bool) → P st (cond b (finish 0 st) (collect_more G bad m 0 st))
          go true = idle 0 st
          go false = more_by m 0 st

-- One turn of each inner definition, for the proofs of code: what a test's outcome makes of it. A contract speaks of `.st` and `.answer`; the
-- operations done are left to the definition.
use Prim.Native.Nat.{ℕ, zero, suc, ◌≤◌, ◌<◌}
use native.Mathlib.Omega.{arith}
use mathlib.Core.Path.{◌≡◌, refl, sym, ap, ◌∙◌, subst}
use mathlib.Core.Bool.{Bool, true, false, cond}
use mathlib.Core.Logic.{◌≢◌}
use mathlib.Core.List.{List, []}
use lib.Dec.{eqb}
use lib.ListN.{length}
use borrow.Author.Tests.{eq-eqb, ne_eqb, lt-ltb, le-ltb}
use Rattle.model.specs.Lists.{splice, total}
use Rattle.model.specs.Numbers.{Geometry, Answer, Ok, Err, Cause, NoRoom, Erase, empty, seg_of}
use Rattle.model.specs.Tables.{Tables, at, word_of}
use Rattle.model.specs.Sound.{Mapped}
use Rattle.model.specs.Device.{State, state, Out, out, may_program, may_erase, finish, refuse, go_on}
use Rattle.model.specs.Contract.{Done}
use Rattle.model.specs.PageMap.{Found, Some, spot, None, find, invalidate, forget}
use Rattle.model.specs.PageWrite.{whole, old_page, stored, spent, write_at, write_page}
use Rattle.model.specs.PageGc.{of_copy, copy_answer, victim, taken, cleared, finish_of, last_of, drain, collect_of, collect, collect_more, collect_list, collect_threshold}
use Rattle.model.proofs.Slots.{whole-splice}
use Rattle.model.proofs.Content.{old_mapped}

-- forgetting
pub forget_none : (G : Geometry) (l : ℕ) (t : Tables) → word_of t l ≡ empty → forget G l t ≡ t
unfolding forget
forget_none G l t e = rw (eq-eqb (word_of t l) empty e)

pub forget_some : (G : Geometry) (l : ℕ) (t : Tables) → Mapped t l → forget G l t ≡ invalidate G l (seg_of G (word_of t l)) t
unfolding forget
forget_some G l t n = rw (ne_eqb (word_of t l) empty n)

module _ (G : Geometry) (bad : List ℕ) where
  -- the inner write
  module _ (l off : ℕ) (d : List ℕ) (st : State) where
    pub write_none : find G bad st.tab ≡ None → write_page G bad l off d st ≡ refuse NoRoom st
    unfolding write_page write_at
    write_none e = rw e

    pub write-stored : (g k : ℕ) → find G bad st.tab ≡ Some (spot g k) → may_program G g k st.flash ≡ true
        → write_page G bad l off d st ≡ stored G l (length d) g k (splice off d (old_page G st l)) st
    unfolding write_page write_at
    write-stored g k e b = rw (e, b)

    pub write-spent : (g k : ℕ) → find G bad st.tab ≡ Some (spot g k) → may_program G g k st.flash ≡ false → write_page G bad l off d st ≡ spent G g k st
    unfolding write_page write_at
    write-spent g k e b = rw (e, b)

  -- A copy reads the page whole and writes it whole. So does a write of no bytes: it answers 0, and leaves the same.
  module _ (v : ℕ) (st : State) (m : Mapped st.tab (last_of G v st.tab)) (some : at st.tab.lens v ≢ 0) where
    abbrev l : ℕ
    l = last_of G v st.tab

    abbrev pub rewrite : Out
    rewrite = write_page G bad l 0 [] st

    same_page : splice 0 (whole G st l) (old_page G st l) ≡ splice 0 [] (old_page G st l)
    unfolding splice
    same_page =
        whole-splice (whole G st l) (old_page G st l) (ap length (sym (old_mapped G st l m))) ∙ sym (old_mapped G st l m)

    -- o is the copy, w the write of no bytes
    record Same (o w : Out) : Type 0 where
      left : o.st ≡ w.st
      done : (k : ℕ) → w.answer ≡ Ok k → (j : ℕ) × (o.answer ≡ Ok j)
      refused : (c : Cause) → w.answer ≡ Err c → o.answer ≡ Err c

    same : Same (write_page G bad l 0 (whole G st l) st) rewrite
    unfolding write_page write_at
    same = go (find G bad st.tab)
      where
        stored_same : (g k : ℕ)
            → Same (stored G l (length (whole G st l)) g k (splice 0 (whole G st l) (old_page G st l)) st)
            (stored G l 0 g k (splice 0 [] (old_page G st l)) st)
        stored_same g k =
            record {
              left = ap (λ page. (stored G l 0 g k page st).st) same_page;
              done = λ _ _. (length (whole G st l), refl);
              refused = λ c e. absurd (let z : ◌≡◌ {A = ℕ} 0 1 = cc in omega arith);
            }

        plain : (o : Out) → Same o o
        plain o = record { left = refl; done = λ k e. (k, e); refused = λ c e. e }

        at_page : (g k : ℕ) (b : Bool)
            → Same (cond b (stored G l (length (whole G st l)) g k (splice 0 (whole G st l) (old_page G st l)) st) (spent G g k st))
            (cond b (stored G l 0 g k (splice 0 [] (old_page G st l)) st) (spent G g k st))
        at_page g k true = stored_same g k
        at_page g k false = plain (spent G g k st)

        go : (r : Found) → Same (write_at G r l 0 (whole G st l) st) (write_at G r l 0 [] st)
        go None = plain (refuse NoRoom st)
        go (Some x) = at_page x.segment x.page (may_program G x.segment x.page st.flash)

    -- draining: a copy, and what its answer makes of the rest
    abbrev copy : Out
    copy = write_page G bad l 0 (whole G st l) st

    abbrev drain_on : ℕ → Answer → Out
    drain_on b a = go_on (copy_answer a) (out copy.st (copy_answer a) copy.ops) (λ st'. drain G bad b v st')

    drain_is : (b : ℕ) → drain G bad (suc b) v st ≡ drain_on b copy.answer
    unfolding drain
    drain_is b = rw (ne_eqb (at st.tab.lens v) 0 some)

    -- a copy that was done
    pub drain_more : (b k : ℕ) (r : Answer) (s : State) → rewrite.answer ≡ Ok k → Done (drain G bad b v rewrite.st) r s
        → Done (drain G bad (suc b) v st) r s
    drain_more b k r s e D =
        let c : (j : ℕ) × (copy.answer ≡ Ok j) = same.done k e in
        subst (λ o. Done o r s) (sym (drain_is b ∙ ap (drain_on b) c.1))
        (record {
          answer = D.answer ∙ ap (λ z. (drain G bad b v z).answer) (sym same.left);
          left = D.left ∙ ap (λ z. (drain G bad b v z).st) (sym same.left);
        })

    -- one that was refused
    pub drain_stops : (b : ℕ) (c : Cause) (r : Answer) (s : State) → rewrite.answer ≡ Err c → r ≡ Err (of_copy c) → s ≡ rewrite.st
        → Done (drain G bad (suc b) v st) r s
    drain_stops b c r s e p q =
        subst (λ o. Done o r s) (sym (drain_is b ∙ ap (drain_on b) (same.refused c e)))
        (record { answer = p; left = q ∙ sym same.left })

  pub drain-empty : (b v : ℕ) (st : State) → at st.tab.lens v ≡ 0 → drain G bad b v st ≡ finish 0 st
  unfolding drain
  drain-empty zero v st e = refl
  drain-empty (suc b) v st e = rw (eq-eqb (at st.tab.lens v) 0 e)

  -- one collection
  pub collect_none : (st : State) → st.tab.queued ≡ 0 → collect G bad st ≡ finish 0 st
  unfolding collect
  collect_none st e = rw (eq-eqb st.tab.queued 0 e)

  module _ (st : State) (some : st.tab.queued ≢ 0) where
    abbrev pub drained : Out
    drained = drain G bad G.p (victim st.tab) (state (taken st.tab) st.flash)

    collect_is : collect G bad st ≡ go_on drained.answer drained (λ st'. finish_of G (victim st.tab) st')
    unfolding collect collect_of
    collect_is = rw (ne_eqb st.tab.queued 0 some)

    -- a copy was refused
    pub collect_stops : (c : Cause) (r : Answer) (s : State) → r ≡ Err c → Done drained r s → Done (collect G bad st) r s
    collect_stops c r s e D =
        subst (λ o. Done o r s) (sym (collect_is ∙ ap (λ a. go_on a drained (λ st'. finish_of G (victim st.tab) st')) (sym D.answer ∙ e)))
        D

    -- all were done: the erase decides
    pub collect_ends : (k : ℕ) (r : Answer) (s s' : State) → Done drained (Ok k) s → Done (finish_of G (victim st.tab) s) r s'
        → Done (collect G bad st) r s'
    collect_ends k r s s' D E =
        subst (λ o. Done o r s') (sym (collect_is ∙ ap (λ a. go_on a drained (λ st'. finish_of G (victim st.tab) st')) (sym D.answer)))
        (record {
          answer = E.answer ∙ ap (λ z. (finish_of G (victim st.tab) z).answer) D.left;
          left = E.left ∙ ap (λ z. (finish_of G (victim st.tab) z).st) D.left;
        })

  -- collections from the list
  module _ (m c : ℕ) (st : State) where
    abbrev pub pass : Out
    pass = collect G bad st

    abbrev rest : State → Out
    rest st' = cond (eqb st'.tab.queued 0) (finish c st') (collect_more G bad m (suc c) st')

    more_is : collect_more G bad (suc m) c st ≡ go_on pass.answer pass rest
    unfolding collect_more
    more_is = refl

    pub list_stops : (e : Cause) (r : Answer) (s : State) → r ≡ Err e → Done pass r s → Done (collect_more G bad (suc m) c st) r s
    list_stops e r s q D = subst (λ o. Done o r s) (sym (more_is ∙ ap (λ a. go_on a pass rest) (sym D.answer ∙ q))) D

    list_goes : (k : ℕ) (r : Answer) (s s' : State) → Done pass (Ok k) s → Done (rest s) r s' → Done (collect_more G bad (suc m) c st) r s'
    list_goes k r s s' D E =
        subst (λ o. Done o r s') (sym (more_is ∙ ap (λ a. go_on a pass rest) (sym D.answer)))
        (record { answer = E.answer ∙ ap (λ z. (rest z).answer) D.left; left = E.left ∙ ap (λ z. (rest z).st) D.left })

    -- the queue is empty: stop before counting
    pub list_ends : (k : ℕ) (s : State) → Done pass (Ok k) s → s.tab.queued ≡ 0 → Done (collect_more G bad (suc m) c st) (Ok c) s
    list_ends k s D e = list_goes k (Ok c) s s D (rw (eq-eqb s.tab.queued 0 e) (record { answer = refl; left = refl }))

    -- else count one, and go on
    pub list_more : (k : ℕ) (r : Answer) (s s' : State) → Done pass (Ok k) s → s.tab.queued ≢ 0 → Done (collect_more G bad m (suc c) s) r s'
        → Done (collect_more G bad (suc m) c st) r s'
    list_more k r s s' D n E = list_goes k r s s' D (rw (ne_eqb s.tab.queued 0 n) E)

  pub list_none : (c : ℕ) (st : State) → Done (collect_more G bad 0 c st) (Ok c) st
  unfolding collect_more
  list_none c st = record { answer = refl; left = refl }

  -- by a threshold
  pub threshold_above : (t m : ℕ) (st : State) → t < total st.tab.free → collect_threshold G bad t m st ≡ finish 0 st
  unfolding collect_threshold
  threshold_above t m st h = rw (lt-ltb t (total st.tab.free) h)

  pub threshold_below : (t m : ℕ) (st : State) → total st.tab.free ≤ t → collect_threshold G bad t m st ≡ collect_more G bad m 0 st
  unfolding collect_threshold collect_list
  threshold_below t m st h = rw (le-ltb t (total st.tab.free) h)

-- the end of a collection
pub finish-done : (G : Geometry) (v : ℕ) (st : State) → may_erase G v st.flash ≡ true → finish_of G v st ≡ cleared G v st
unfolding finish_of
finish-done G v st e = rw e

pub finish-refused : (G : Geometry) (v : ℕ) (st : State) → may_erase G v st.flash ≡ false → finish_of G v st ≡ refuse Erase st
unfolding finish_of
finish-refused G v st e = rw e

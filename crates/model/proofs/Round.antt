-- At the entries: a saved sound state comes back with map, allocation segment and free counts; and what a restore leaves of queue and flags.
use Prim.Native.Nat.{ℕ, ◌<◌}
use mathlib.Core.Path.{◌≡◌, sym, ap, subst, ◌∙◌}
use native.Mathlib.Omega.{arith}
use mathlib.Core.Bool.{true}
use mathlib.Core.Logic.{◌⊎◌, inl, inr}
use lib.Dec.{eqb}
use mathlib.Core.List.{List, [], ◌∷◌}
use lib.ListN.{length, take}
use Rattle.model.specs.Lists.{bit, every, zeros}
use Rattle.model.specs.Numbers.{Geometry, good?, Ok, Err, Reason}
use Rattle.model.specs.Tables.{Tables, at, queue_of, tab_words, pages}
use Rattle.model.specs.Entry.{Recorder, Lent, lent, Outcome, outcome, unless, guarded, clean, tables_fit, restoring}
use Rattle.model.specs.Checkpoint.{Queueing, Empty, Dead, dead?, dead_ones, with_queue, map_of, free_of, alloc_of, reason_of, restored_from, restored_by, sealed}
use Rattle.model.specs.History.{Encode, Restore, run, after}
use Rattle.model.proofs.View.{view-packed}
use Rattle.model.proofs.Working.{Counted}
use Rattle.model.proofs.Restore.{Back}
use Rattle.model.proofs.Requeue.{requeued_alone, requeued-back, restored_queued, restored_ahead, ones_with, ones_back, dead_back, queue_is, flags_are}
use Rattle.model.proofs.Sealed.{comes_back, accepted_sound}
use Rattle.model.proofs.Entry.{tab, Begun, Stayed, or_begun, restored_or, restored_passes}
use Rattle.model.proofs.Frame.{over, with_tables, unless_over, guarded_over}
use Rattle.model.proofs.Cut.{Encoded, encoded, restores}

-- "So a saved sound state comes back with map, allocation segment and free counts": under either choice
pub round_trip : (G : Geometry) (bad : List ℕ) (r₀ : Recorder) (buffer : List ℕ) (scratch : List (List ℕ)) (m : ℕ)
    → (run G bad (Encode buffer scratch) r₀).answer ≡ Ok m
    → (q : Queueing) (r : Recorder) → length r.words ≡ tab_words G → length r.used ≡ pages G
    → let file = take m (run G bad (Encode buffer scratch) r₀).left.buffer in
    Back (tab G r₀) (tab G (after G bad (Restore q file (zeros (pages G) ∷ [])) r))
round_trip G bad r₀ buffer scratch m e q r a b =
    let E : Encoded G (lent r₀ buffer scratch) m (run G bad (Encode buffer scratch) r₀).left.buffer = encoded G (lent r₀ buffer scratch) m e in
    let B : Begun G r (restored_by G q (sealed G (tab G r₀))) _ = restores G bad r₀ E.good E.counted q r a b in
    subst (λ z. Back (tab G r₀) (tab G (after G bad (Restore q z (zeros (pages G) ∷ [])) r))) (sym E.file)
    (subst (λ z. Back (tab G r₀) (tab G z)) (sym B.unit)
    (rw (view-packed B.counted.sized) (requeued-back G q (tab G r₀) _ (comes_back G E.good (tab G r₀) E.counted))))

-- 02, M-109: "Refusals: none new." The choice is not seen in the answer
pub one_answer : (G : Geometry) (q q' : Queueing) (b : List ℕ) (x : Lent) → (restoring G q b x).answer ≡ (restoring G q' b x).answer
unfolding restoring
one_answer G q q' b x = ap (λ (o : Outcome). o.answer) (without-tables q ∙ sym (without-tables q'))
  where
    without-tables : (q : Queueing) → over (with_tables [] []) (restoring G q b x)
        ≡ guarded (every (good? G ∷ tables_fit G x ∷ clean (pages G ∷ []) x.scratch ∷ [])) true true true (with_tables [] [] x)
        (unless (eqb (reason_of G b) 0) (Reason (reason_of G b)) (with_tables [] [] x) (outcome (with_tables [] [] x) (Ok 0) []))
    without-tables q =
        sym (ap (guarded _ true true true (with_tables [] [] x)) (unless_over (with_tables [] []) (eqb (reason_of G b) 0) (Reason (reason_of G b)) x _)
        ∙ guarded_over (with_tables [] []) _ true true true x _)

-- 02, M-109: "01's sentence on what comes back is amended for the queue and flags". Of whatever file
module _ (G : Geometry) (bad b : List ℕ) (s : List (List ℕ)) (r : Recorder) where
  abbrev made : Queueing → Tables
  made q = tab G (after G bad (Restore q b s) r)

  made_is : (q : Queueing) → (run G bad (Restore q b s) r).answer ≡ Ok 0 → made q ≡ restored_by G q b
  made_is q e =
      let B : Begun G r (restored_by G q b) _ = or_begun G (lent r [] s) _ _ (restored_or G q b (lent r [] s)) e in
      ap (tab G) B.unit ∙ view-packed B.counted.sized

  alone : restored_by G Dead b ≡ with_queue (restored_by G Dead b) (restored_from G b)
  alone = requeued_alone G Dead (restored_from G b)

  -- 01's "queue empty, flags clear", by the old choice
  pub none_made : (run G bad (Restore Empty b s) r).answer ≡ Ok 0 → (queue_of (made Empty) ≡ []) × ((g : ℕ) → at (made Empty).flags g ≡ 0)
  none_made e =
      let q : queue_of (restored_from G b) ≡ [] =
      ap (λ k. take k (restored_from G b).queue) (restored_queued G (map_of G b) (free_of G b) (alloc_of G b)) in
      subst (λ t. (queue_of t ≡ []) × ((g : ℕ) → at t.flags g ≡ 0)) (sym (made_is Empty e))
      (q, λ g. restored_ahead G (map_of G b) (free_of G b) (alloc_of G b) g (omega arith))

  module _ (e : (run G bad (Restore Dead b s) r).answer ≡ Ok 0) where
    counted : Counted G (restored_from G b)
    counted =
        accepted_sound G b (restored_passes G Dead b (lent r [] s) e) (or_begun G (lent r [] s) _ _ (restored_or G Dead b (lent r [] s)) e).good

    -- not refused: the queue is the segments of these tables with free count 0 and a list shorter than p, ascending
    pub queue_made : queue_of (made Dead) ≡ dead_ones G G.n 0 (made Dead)
    queue_made =
        ap queue_of (made_is Dead e)
        ∙ queue_is G (map_of G b) (free_of G b) (alloc_of G b) counted
        ∙ sym (ap (dead_ones G G.n 0) (made_is Dead e ∙ alone) ∙ ones_with G G.n 0 (restored_by G Dead b) (restored_from G b))

    -- and just their flags are set
    pub flags_made : (g : ℕ) → g < G.n → at (made Dead).flags g ≡ bit (dead? G g (made Dead))
    flags_made g h =
        ap (λ t. at t.flags g) (made_is Dead e)
        ∙ flags_are G (map_of G b) (free_of G b) (alloc_of G b) counted g h
        ∙ sym (ap (λ t. bit (dead? G g t)) (made_is Dead e ∙ alone))

  -- all else is as the old choice leaves it, finished or refused
  pub else_alike : made Dead ≡ with_queue (made Dead) (made Empty)
  else_alike = go (restored_or G Dead b (lent r [] s)) (restored_or G Empty b (lent r [] s))
    where
      same : (run G bad (Restore Dead b s) r).answer ≡ (run G bad (Restore Empty b s) r).answer
      same = one_answer G Dead Empty b (lent r [] s)

      go : Stayed (lent r [] s) (restoring G Dead b (lent r [] s)) ⊎ Begun G r (restored_by G Dead b) (restoring G Dead b (lent r [] s))
          → Stayed (lent r [] s) (restoring G Empty b (lent r [] s)) ⊎ Begun G r (restored_from G b) (restoring G Empty b (lent r [] s))
          → made Dead ≡ with_queue (made Dead) (made Empty)
      go (inr B) _ =
          made_is Dead B.answer ∙ alone
          ∙ sym (ap (λ t. with_queue t (made Empty)) (made_is Dead B.answer) ∙ ap (with_queue (restored_by G Dead b)) (made_is Empty (sym same ∙ B.answer)))
      go (inl y) (inl y') =
          let d : made Dead ≡ tab G r = ap (λ (o : Outcome). tab G o.left.unit) y.is in
          let e : made Empty ≡ tab G r = ap (λ (o : Outcome). tab G o.left.unit) y'.is in
          d ∙ sym (ap (λ t. with_queue t (made Empty)) d ∙ ap (with_queue (tab G r)) e)
      go (inl y) (inr B) =
          absurd (let z : Err y.cause ≡ Ok 0 = sym (ap (λ (o : Outcome). o.answer) y.is) ∙ same ∙ B.answer in let n : ◌≡◌ {A = ℕ} 0 1 = cc in omega arith)

-- A saved sound state comes back with exactly those segments queued, and flagged, that had free count 0 and a list shorter than p when it was saved: so also a
-- victim that a refused collection took off the queue, if its list is shorter than p
module _ (G : Geometry) (bad : List ℕ) (r₀ : Recorder) (buffer : List ℕ) (scratch : List (List ℕ)) (m : ℕ)
    (e : (run G bad (Encode buffer scratch) r₀).answer ≡ Ok m)
    (r : Recorder) (a : length r.words ≡ tab_words G) (b : length r.used ≡ pages G) where
  abbrev back : Tables
  back = tab G (after G bad (Restore Dead (take m (run G bad (Encode buffer scratch) r₀).left.buffer) (zeros (pages G) ∷ [])) r)

  pub queued_again : (queue_of back ≡ dead_ones G G.n 0 (tab G r₀)) × ((g : ℕ) → g < G.n → at back.flags g ≡ bit (dead? G g (tab G r₀)))
  queued_again =
      let E : Encoded G (lent r₀ buffer scratch) m (run G bad (Encode buffer scratch) r₀).left.buffer = encoded G (lent r₀ buffer scratch) m e in
      let f = sealed G (tab G r₀) in
      let D : Begun G r (restored_by G Dead f) _ = restores G bad r₀ E.good E.counted Dead r a b in
      let t : tab G (after G bad (Restore Dead f (zeros (pages G) ∷ [])) r) ≡ restored_by G Dead f = ap (tab G) D.unit ∙ view-packed D.counted.sized in
      let B : Back (tab G r₀) (restored_by G Dead f) = requeued-back G Dead (tab G r₀) _ (comes_back G E.good (tab G r₀) E.counted) in
      subst
      (λ z. let t = tab G (after G bad (Restore Dead z (zeros (pages G) ∷ [])) r) in
      (queue_of t ≡ dead_ones G G.n 0 (tab G r₀)) × ((g : ℕ) → g < G.n → at t.flags g ≡ bit (dead? G g (tab G r₀))))
      (sym E.file) (
        queue_made G bad f (zeros (pages G) ∷ []) r D.answer
            ∙ ap (dead_ones G G.n 0) t
            ∙ ones_back G (tab G r₀) (restored_by G Dead f) E.counted D.counted B,
        λ g h. flags_made G bad f (zeros (pages G) ∷ []) r D.answer g h
            ∙ ap (λ z. bit (dead? G g z)) t
            ∙ ap bit (dead_back G (tab G r₀) (restored_by G Dead f) E.counted D.counted B g h),
      )

-- The device operations of reads, writes and encodings, and of a collection whose victim was drained, on every input.
use Prim.Native.Nat.{ℕ, zero, suc, ◌≤◌, ◌<◌}
use native.Mathlib.Omega.{arith}
use mathlib.Core.Path.{◌≡◌, refl, sym, ap, subst}
use mathlib.Core.Bool.{Bool, true, false, cond}
use mathlib.Core.Logic.{inl, inr}
use mathlib.Core.List.{List, [], ◌∷◌, ◌++◌}
use lib.Dec.{eqb}
use lib.ListN.{length, take}
use borrow.Author.Tests.{eq-eqb, eqb-true, eqb-false}
use Rattle.model.specs.Lists.{splice}
use Rattle.model.specs.declared.Geometry.{Geometry}
use Rattle.model.specs.Numbers.{Answer}
use Rattle.model.specs.Numbers.{Ok, Err}
use Rattle.model.specs.declared.Cause.TheVariants.{Erase}
use Rattle.model.specs.Tables.{Tables, at}
use Rattle.model.specs.Device.{Op, Program, EraseSeg, State, state, Out, may_erase, finish, refuse, go_on}
use Rattle.model.specs.PageWrite.{old_page, whole, write_page}
use Rattle.model.specs.PageGc.{victim, taken, cleared, finish_of, last_of, copy_one, drain, collect_of, collect}
use Rattle.model.specs.Entry.{Recorder, lent, state_of, write, collection}
use Rattle.model.specs.History.{Call, Format, Open, Read, Write, Collect, CollectList, CollectThreshold, Encode, Restore, run, map_in}
use Rattle.model.specs.History.{Elsewhere, Spares}
use Rattle.model.proofs.Working.{Counted}
use Rattle.model.proofs.Taken.{victim_seg}
use Rattle.model.proofs.Reset.{not_here}
use Rattle.model.proofs.Guard.{guarded_by}
use Rattle.model.proofs.Entry.{Fits, all_fit, read_unit, encoding_unit}
use Rattle.demands.specs.Given.{tab}
use Rattle.demands.specs.Protocol.{Gentle, Drained, Erases}
use Rattle.demands.proofs.Walk.{write_by, finish_by, collect_by}

-- what spares M: one list behind another, and the first operations of a list
module _ (G : Geometry) (M : List ℕ) where
  spares_behind : (a b : List Op) → Spares G M a → Spares G M b → Spares G M (a ++ b)
  spares_behind [] b h k = k
  spares_behind (Program g i page ∷ a) b h k = spares_behind a b h k
  spares_behind (EraseSeg g c ∷ a) b h k = (h.0, spares_behind a b h.1 k)

  pub spares_first : (i : ℕ) (os : List Op) → Spares G M os → Spares G M (take i os)
  spares_first zero os h = tt
  spares_first (suc i) [] h = tt
  spares_first (suc i) (Program g k page ∷ os) h = spares_first i os h
  spares_first (suc i) (EraseSeg g c ∷ os) h = (h.0, spares_first i os h.1)

-- a sound victim without listed pages holds no mapped page
pub drained_elsewhere : (G : Geometry) (t : Tables) → Counted G t → (0 < t.queued → at t.lens (victim t) ≡ 0) → 0 < t.queued → Elsewhere G t.map (victim t)
drained_elsewhere G t S e some l m = not_here G t S (victim t) (victim_seg G t S some) (e some) l m

module _ (G : Geometry) (bad : List ℕ) where
  -- a write does nothing, or programs a page: what holds of both holds of its operations
  module _ (P : List Op → Type 0) (idle : P []) (one : (g k : ℕ) (page : List ℕ) → P (Program g k page ∷ [])) where
    page_by : (l o : ℕ) (d : List ℕ) (st : State) → P (write_page G bad l o d st).ops
    page_by l o d st = write_by G bad (λ y. P y.ops) l o d st idle (λ g k _. one g k (splice o d (old_page G st l))) (λ _ _ _. idle)

    gentle_by : (c : Call) → Gentle c → (r : Recorder) → P (run G bad c r).ops
    unfolding write
    gentle_by (Read sector len o s) n r = subst P (sym (read_unit G sector len (lent r o s)).1) idle
    gentle_by (Write sector len d s) n r = guarded_by (λ y. P y.ops) _ _ _ _ (lent r [] s) _ idle idle (λ _ _ _ _. page_by _ _ _ _)
    gentle_by (Encode b s) n r = subst P (sym (encoding_unit G (lent r b s)).1) idle
    gentle_by Format n r = absurd n
    gentle_by Open n r = absurd n
    gentle_by (Collect s) n r = absurd n
    gentle_by (CollectList m s) n r = absurd n
    gentle_by (CollectThreshold t m s) n r = absurd n
    gentle_by (Restore q b s) n r = absurd n

  -- reads, writes and encodings erase nothing, and do one operation at most
  pub erases_none : (M : List ℕ) (c : Call) (r : Recorder) → Gentle c → Spares G M (run G bad c r).ops
  erases_none M c r n = gentle_by (Spares G M) tt (λ g k page. tt) c n r

  pub works_one : (c : Call) (r : Recorder) → Gentle c → length (run G bad c r).ops ≤ 1
  works_one c r n = gentle_by (λ os. length os ≤ 1) (omega arith) (λ g k page. omega arith) c n r

  -- a collection copies, which erases nothing, and then erases its victim at most
  module _ (M : List ℕ) where
    then_spares : (a : Answer) (o : Out) (rest : State → Out) → Spares G M o.ops → Spares G M (rest o.st).ops → Spares G M (go_on a o rest).ops
    then_spares (Ok m) o rest h k = spares_behind G M o.ops (rest o.st).ops h k
    then_spares (Err c) o rest h k = h

    copy_spares : (v : ℕ) (st : State) → Spares G M (copy_one G bad v st).ops
    copy_spares v st = page_by (Spares G M) tt (λ g k page. tt) (last_of G v st.tab) 0 (whole G st (last_of G v st.tab)) st

    collect_spares : (st : State) → (0 < st.tab.queued → Elsewhere G M (victim st.tab)) → Spares G M (collect G bad st).ops
    collect_spares st e =
        collect_by G bad (λ _ o. Spares G M o.ops) (λ _ _. tt) copy_spares (λ _ _ h. h) (λ _ o rest. then_spares o.answer o rest) st
        (λ some st'. finish_by G bad (λ o. Spares G M o.ops) (victim st.tab) st' (e some, tt) tt)

    -- so it spares what is not in its victim
    pub collection_spares : (r : Recorder) (s : List (List ℕ)) → (0 < (tab G r).queued → Elsewhere G M (victim (tab G r)))
        → Spares G M (run G bad (Collect s) r).ops
    unfolding collection
    collection_spares r s e = guarded_by (λ y. Spares G M y.ops) _ _ _ _ (lent r [] s) _ tt tt (λ _ _ _ _. collect_spares (state_of G (lent r [] s)) e)

  -- a collection whose victim has no listed page copies nothing: refused, it does nothing; else it erases the victim, if there is one
  drain_idle : (b v : ℕ) (st : State) → at st.tab.lens v ≡ 0 → drain G bad b v st ≡ finish 0 st
  unfolding drain
  drain_idle zero v st e = refl
  drain_idle (suc b) v st e = rw (eq-eqb (at st.tab.lens v) 0 e)

  pub collects_only : (r : Recorder) (s : List (List ℕ)) → Drained G r → Erases G r (run G bad (Collect s) r).answer (run G bad (Collect s) r).ops
  unfolding collection collect collect_of finish_of
  collects_only r s e =
      guarded_by (λ y. Erases G r y.answer y.ops) _ _ _ _ (lent r [] s) _ ((λ z. z), refl) ((λ z. z), refl) (λ _ _ _ _. go (eqb (tab G r).queued 0) refl)
    where
      Goal : Out → Type 0
      Goal o = Erases G r o.answer o.ops

      erase : (b : Bool) (t : Tables) → Goal (cond b (cleared G (victim (tab G r)) (state t r.flash)) (refuse Erase (state t r.flash)))
      erase true t = inr refl
      erase false t = ((λ z. z), refl)

      go : (b : Bool) → eqb (tab G r).queued 0 ≡ b → Goal (cond b (finish 0 (state_of G (lent r [] s))) (collect_of G bad (victim (tab G r)) (state_of G (lent r [] s))))
      go true q = inl (eqb-true _ _ q, refl)
      go false q =
          subst (λ o. Goal (go_on o.answer o (λ t. finish_of G (victim (tab G r)) t)))
          (sym (drain_idle G.p (victim (tab G r)) (state (taken (tab G r)) r.flash) (let n : (tab G r).queued ≡ 0 → ⊥ = eqb-false _ _ q in e (omega arith))))
          (erase (may_erase G (victim (tab G r)) r.flash) (taken (tab G r)))

  pub collects_one : (r : Recorder) (s : List (List ℕ)) → Drained G r → length (run G bad (Collect s) r).ops ≤ 1
  collects_one r s e = go (run G bad (Collect s) r).answer (collects_only r s e)
    where
      go : (a : Answer) → Erases G r a (run G bad (Collect s) r).ops → length (run G bad (Collect s) r).ops ≤ 1
      go (Ok m) (inl q) = omega (arith, ap length q.1)
      go (Ok m) (inr q) = omega (arith, ap length q)
      go (Err c) q = omega (arith, ap length q.1)

  -- and that erase spares every page mapped
  pub drained_spares : (r : Recorder) (s : List (List ℕ)) → Drained G r → Spares G (map_in G r) (run G bad (Collect s) r).ops
  unfolding collection
  drained_spares r s e =
      guarded_by (λ y. Spares G (map_in G r) y.ops) _ _ _ _ (lent r [] s) _ tt tt
      (λ a b _ _.
      let X : Fits G bad (lent r [] s) = all_fit G bad _ (lent r [] s) a b in
      collect_spares (map_in G r) (state_of G (lent r [] s)) (drained_elsewhere G (tab G r) X.counted e))

-- 02, M-111, of the functions that run: what a number that came back tells of the free pages. Each premise `PromiseIn N …` is the `ensures` of the C name
-- of a collection or a write, and follows from that of crates/ftl, as in Demands.
use Prim.Native.Nat.{ℕ, ◌+◌, ◌-◌, ◌≤◌, ◌<◌}
use native.Mathlib.Omega.{arith}
use mathlib.Core.Path.{◌≡◌, refl, sym, ap, ◌∙◌, subst}
use mathlib.Core.Bool.{cond}
use mathlib.Core.Logic.{◌⊎◌, inl, inr, ◌≢◌}
use mathlib.Core.List.{List, []}
use lib.Dec.{eqb}
use lib.IntN.{ℤ, pos, negsuc}
use Rattle.model.specs.declared.Geometry.{Geometry}
use Rattle.model.specs.declared.Numbers.{Numbers}
use Rattle.model.specs.declared.Numbers.TheVariants.{Old, New}
use Rattle.model.specs.Numbers.{Answer}
use Rattle.model.specs.Numbers.{Ok, Err}
use Rattle.model.specs.declared.Cause.TheVariants.{NoRoom, CopyNoRoom, CopyDevice}
use Rattle.model.specs.Lists.{total}
use Rattle.model.specs.Numbers.{endless, number}
use Rattle.model.specs.Causes.{for_room, at_device}
use Rattle.model.specs.Tables.{Tables, at}
use Rattle.model.specs.PageGc.{outside, listed_of, victim}
use Rattle.model.specs.Entry.{Recorder, Lent, lent, Outcome, PromiseIn, write, collection}
use Rattle.model.specs.History.{Collect, lit, run, InService}
use Rattle.model.proofs.Gains.{Spends, one_spent, writes, PassGains, idle, gained, stopped, not_erased, if_short, passes}
use Rattle.model.proofs.Gains.{finished, finished_gains, finished_room, refused_for_room, room_used_up}
use Rattle.demands.specs.Given.{Exactly, tab}
use Rattle.demands.specs.When.{When}
use Rattle.demands.proofs.Exactly.{answers_of}
use Rattle.demands.proofs.Signs.{moved_of, unlike, unlike_count}
use Rattle.demands.proofs.Served.{never_refused}
use Rattle.demands.proofs.Told.{full_told}

-- free counts of what a function left
abbrev free_in : Geometry → Lent → List ℕ
free_in G x = (tab G x.unit).free

free_is : {N : Numbers} {o : Outcome} {x : Lent} {z : ℤ} (G : Geometry) → PromiseIn N o x z → free_in G x ≡ free_in G o.left
free_is G P = ap (free_in G) P.left_is

spends_left : {N : Numbers} {o : Outcome} {x : Lent} {z : ℤ} (G : Geometry) {bad : List ℕ} {k : ℕ} {fs : List ℕ} → PromiseIn N o x z
    → Spends bad k fs (free_in G o.left) → Spends bad k fs (free_in G x)
spends_left G {bad} {k} {fs} P h = subst (Spends bad k fs) (sym (free_is G P)) h

-- the number of a copy without room: no count, and not the erase's
room_number : (N : Numbers) → (k : ℕ) × (number N (Err CopyNoRoom) ≡ negsuc k) × (k ≢ 4)
room_number Old = (13, refl, omega arith)
room_number New = (27, refl, omega arith)

module _ (G : Geometry) (bad : List ℕ) (s : List (List ℕ)) where
  module _ (r : Recorder) {x : Lent} where
    module _ {N : Numbers} (some : 0 < (tab G r).queued) (P : PromiseIn N (collection G bad (lent r [] s)) x (pos 0)) where
      done : (run G bad (Collect s) r).answer ≡ Ok 0
      done = moved_of G bad N (Collect s) r 0 P.answer_is

      -- "a finished pass on a victim with v listed pages raises total free pages by exactly p - v"; v is at most p
      pub collect_gains : (total (free_in G x) ≡ total (tab G r).free + (G.p - listed_of (tab G r))) × (listed_of (tab G r) ≤ G.p)
      collect_gains = (ap total (free_is G P) ∙ finished_gains G bad r s some done, (finished G bad r s some done).within)

      -- v of those outside the bad list are spent, and p come to them unless the victim is bad
      pub collect_room : outside bad (free_in G x) + listed_of (tab G r) ≡ outside bad (tab G r).free + cond (eqb (at bad (victim (tab G r))) 0) G.p 0
      collect_room = ap (λ fs. outside bad fs + listed_of (tab G r)) (free_is G P) ∙ finished_room G bad r s some done

    -- -28 only if there are fewer than v of them; they are then all spent, and nothing is gained
    pub full_only : PromiseIn New (collection G bad (lent r [] s)) x (negsuc 27)
        → (outside bad (tab G r).free < listed_of (tab G r)) × (outside bad (free_in G x) ≡ 0)
        × (total (free_in G x) + outside bad (tab G r).free ≡ total (tab G r).free)
    full_only P =
        let e : (run G bad (Collect s) r).answer ≡ Err CopyNoRoom = go ((full_told G bad (Collect s) r P).only refl) in
        let u : Spends bad (outside bad (tab G r).free) (tab G r).free (free_in G x) = spends_left G P (room_used_up G bad r s e) in
        (refused_for_room G bad r s e, omega (arith, u.outside_is), u.total_is)
      where
        go : When G bad (Collect s) r (Err NoRoom) ⊎ When G bad (Collect s) r (Err CopyNoRoom)
            → (run G bad (Collect s) r).answer ≡ Err CopyNoRoom
        go (inl h) = absurd h.1
        go (inr h) = (answers_of G bad (Collect s) r (Err CopyNoRoom)).whenever h

    module _ {N : Numbers} {z : ℤ} where
      -- a number that is not given
      not_given : {o : Outcome} {a : Answer} → PromiseIn N o x z → z ≢ number N a → o.answer ≢ a
      not_given P n e = n (P.answer_is ∙ ap (number N) e)

      -- and whenever there are, if the device refuses no copy: in the new numbers, if the answer is not -121
      pub full_whenever : 0 < (tab G r).queued → PromiseIn N (collection G bad (lent r [] s)) x z
          → z ≢ negsuc 21 → z ≢ negsuc 116 → z ≢ number N (Err CopyDevice)
          → outside bad (tab G r).free < listed_of (tab G r) → z ≡ number N (Err CopyNoRoom)
      full_whenever some P w u n h =
          P.answer_is ∙ ap (number N) (if_short (passes G bad r s (not_given P w) (not_given P u)) some (not_given P n) h)

      -- a write that is refused neither by its tests nor for room spends one of them; so one that is repeated after each 5 comes to an end
      pub write-takes : (sector len : ℕ) (d : List ℕ) → PromiseIn N (write G bad sector len d (lent r [] s)) x z
          → z ≢ negsuc 21 → z ≢ negsuc 116 → z ≢ number N (Err NoRoom)
          → (total (free_in G x) + 1 ≡ total (tab G r).free) × (outside bad (free_in G x) + 1 ≡ outside bad (tab G r).free)
      write-takes sector len d P w u n =
          let o : Spends bad 1 (tab G r).free (free_in G x) =
          spends_left G P (one_spent (writes G bad r s sector len d (not_given P w) (not_given P u)) (not_given P n)) in
          (o.total_is, o.outside_is)

  -- In service with a fuse that never ends the device refuses no copy (M-102): refused for room exactly when there are fewer than v, under either choice
  pub room_exactly : {r : Recorder} → InService G r → 0 < (tab G r).queued
      → {N : Numbers} {x : Lent} {z : ℤ} → PromiseIn N (collection G bad (lent (lit endless r) [] s)) x z → z ≢ negsuc 21 → z ≢ negsuc 116
      → Exactly (z ≡ number N (Err CopyNoRoom)) (outside bad (tab G r).free < listed_of (tab G r))
  room_exactly {r} h some {N} {x} {z} P w u =
      record { only = λ e. only pass never (sym P.answer_is ∙ e); whenever = λ short. P.answer_is ∙ ap (number N) (if_short pass some never short) }
    where
      o : Outcome
      o = run G bad (Collect s) (lit endless r)

      pass : PassGains G bad (tab G r) (tab G o.left.unit) o.answer
      pass = passes G bad (lit endless r) s (not_given (lit endless r) P w) (not_given (lit endless r) P u)

      never : o.answer ≢ Err CopyDevice
      never e = never_refused G bad h (Collect s) CopyDevice e tt

      only : {a : Answer} {t : Tables} → PassGains G bad (tab G r) t a → a ≢ Err CopyDevice → number N a ≡ number N (Err CopyNoRoom)
          → outside bad (tab G r).free < listed_of (tab G r)
      only (idle q _) n e = unlike_count 0 (room_number N).0 (e ∙ (room_number N).1)
      only (gained g) n e = unlike_count 0 (room_number N).0 (e ∙ (room_number N).1)
      only (stopped for_room g) n e = g.0
      only (stopped at_device g) n e = absurd (n refl)
      only (not_erased g) n e = unlike 4 (room_number N).0 (λ q. (room_number N).2 (sym q)) (e ∙ (room_number N).1)

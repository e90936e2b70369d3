-- Sorting the queue and taking its first segment off keeps sound tables sound. The victim is full, flagged, and no more in the queue.
use Prim.Native.Nat.{ℕ, suc, ◌+◌, ◌-◌, ◌≤◌, ◌<◌}
use native.Mathlib.Omega.{arith}
use mathlib.Core.Path.{◌≡◌, refl, sym, ap, ◌∙◌}
use mathlib.Core.List.{List, [], ◌∷◌}
use lib.Dec.{eqb}
use lib.ListN.{length, drop, length-drop, length-append}
use lib.Seq.{take_at, drop_at}
use Rattle.model.specs.Lists.{bit, occ, zeros}
use Rattle.model.specs.Numbers.{Geometry}
use Rattle.model.specs.Tables.{Tables, at, queue_of}
use Rattle.model.specs.PageGc.{sorted, taken, victim}
use Rattle.model.proofs.Working.{Counted}
use Rattle.model.proofs.Counts.{bit_same, occ-cons, occ_sort, length_sort}
use Rattle.model.proofs.Reading.{counted_queue, flag_in}

head_form : (xs : List ℕ) → 0 < length xs → xs ≡ at xs 0 ∷ drop 1 xs
head_form [] h = absurd (omega arith)
head_form (x ∷ xs) h = refl

module _ (G : Geometry) (t : Tables) (S : Counted G t) (some : 0 < t.queued) where
  sorted-length : length (sorted t) ≡ t.queued
  unfolding sorted
  sorted-length = length_sort _ (queue_of t) ∙ (counted_queue G t S).size

  sorted-occ : (j : ℕ) → occ j (sorted t) ≡ occ j (queue_of t)
  unfolding sorted
  sorted-occ j = occ_sort j _ (queue_of t)

  -- the queue is the victim and the rest
  split : (j : ℕ) → bit (eqb j (victim t)) + occ j (drop 1 (sorted t)) ≡ occ j (queue_of t)
  split j =
      sym (occ-cons j (victim t) (drop 1 (sorted t)))
      ∙ ap (occ j) (sym (head_form (sorted t) (rw sorted-length some)))
      ∙ sorted-occ j

  rest_length : length (drop 1 (sorted t)) ≡ t.queued - 1
  rest_length = length-drop 1 (sorted t) ∙ ap (λ m. m - 1) sorted-length

  taken_queue : queue_of (taken t) ≡ drop 1 (sorted t)
  taken_queue = take_at (drop 1 (sorted t)) _ (t.queued - 1) rest_length

  pub victim_flag : at t.flags (victim t) ≡ 1
  victim_flag = omega (arith, split (victim t), bit_same (victim t), S.once (victim t), S.flag≤ (victim t))

  pub victim_full : at t.free (victim t) ≡ 0
  victim_full = S.full (victim t) (omega (arith, victim_flag))

  pub victim_seg : victim t < G.n
  victim_seg = flag_in G t S (victim t) (omega (arith, victim_flag))

  pub victim_off : occ (victim t) (queue_of (taken t)) ≡ 0
  victim_off = rw taken_queue (omega (arith, split (victim t), bit_same (victim t), S.once (victim t), S.flag≤ (victim t)))

  taken_once : (j : ℕ) → occ j (queue_of (taken t)) ≤ at t.flags j
  taken_once j = rw taken_queue (omega (arith, split j, S.once j))

  taken_fits : t.queued - 1 ≤ G.n
  taken_fits = omega (arith, S.queued≤)

  taken-behind : drop (t.queued - 1) (taken t).queue ≡ zeros (G.n - (t.queued - 1))
  taken-behind =
      let e : suc (G.n - t.queued) ≡ G.n - (t.queued - 1) = omega (arith, S.queued≤) in
      rw (drop_at (drop 1 (sorted t)) (0 ∷ drop t.queued t.queue) (t.queued - 1) rest_length, S.behind) (ap zeros e)

  taken-length : length (taken t).queue ≡ G.n
  taken-length =
      let e : length (drop t.queued t.queue) ≡ G.n - t.queued =
      length-drop t.queued t.queue ∙ ap (λ m. m - t.queued) S.sized.queue in
      length-append (drop 1 (sorted t)) (0 ∷ drop t.queued t.queue) ∙ omega (arith, rest_length, S.queued≤)

  -- what else sound tables say is as before
  pub taken_sound : Counted G (taken t)
  taken_sound = search (taken-length, taken_once, taken_fits, taken-behind)

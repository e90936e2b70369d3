-- Putting a full segment whose flag is clear at the queue's front keeps sound tables sound: by counting, the queue has room.
use Prim.Native.Nat.{ℕ, suc, ◌+◌, ◌-◌, ◌≤◌, ◌<◌}
use native.Mathlib.Numerals.{add-one}
use native.Mathlib.Omega.{arith}
use mathlib.Core.Path.{◌≡◌, ap}
use mathlib.Core.List.{List, ◌∷◌}
use lib.ListN.{length, take, drop, set, length-set}
use lib.Seq.{take-take, length-take-le}
use Rattle.model.specs.Lists.{occ, push_front, zeros}
use Rattle.model.specs.Numbers.{Geometry}
use Rattle.model.specs.Tables.{Tables, at, queue_of}
use Rattle.model.specs.PageMap.{enqueue}
use Rattle.model.proofs.Working.{Counted}
use Rattle.model.proofs.Slots.{set_ind, drop-take, take-zeros}
use Rattle.model.proofs.Counts.{bit_same, bit_other, occ-cons}
use Rattle.model.proofs.Reading.{in_flags, counted_queue, queue_in}
pub use Rattle.model.proofs.Counts.{sum_to, count_all, sum_lt}

take_pushed : (c g : ℕ) (q : List ℕ) → c < length q → take (suc c) (push_front g q) ≡ g ∷ take c q
unfolding push_front
take_pushed c g q h = ap (λ r. g ∷ r) (take-take c (length q - 1) q (omega arith))

length_pushed : (g : ℕ) (q : List ℕ) → 0 < length q → length (push_front g q) ≡ length q
unfolding push_front
length_pushed g q h = omega (arith, length-take-le (length q - 1) q (omega arith))

drop_pushed : (c g : ℕ) (q : List ℕ) → drop (suc c) (push_front g q) ≡ take (length q - 1 - c) (drop c q)
unfolding push_front
drop_pushed c g q = drop-take c (length q - 1) q

module _ (G : Geometry) (t : Tables) (S : Counted G t) (g : ℕ) (seg : g < G.n) (none_free : at t.free g ≡ 0) (off : at t.flags g ≡ 0) where
  abbrev t' : Tables
  t' = enqueue G g t

  pub has_room : t.queued < G.n
  has_room =
      let a : sum_to G.n (λ x. occ x (queue_of t)) ≡ length (queue_of t) = count_all G.n (queue_of t) (queue_in G t S) in
      let b : sum_to G.n (λ x. occ x (queue_of t)) < G.n =
      sum_lt G.n (λ x. occ x (queue_of t)) g (λ x. omega (arith, S.once x, S.flag≤ x)) seg (omega (arith, S.once g)) in
      omega (arith, (counted_queue G t S).size)

  pub lt_queue : t.queued < length t.queue
  lt_queue = rw S.sized.queue has_room

  enqueue-length : length t'.queue ≡ length t.queue
  enqueue-length = length_pushed g t.queue (omega (arith, lt_queue))

  pub enqueue_queue : queue_of (enqueue G g t) ≡ g ∷ queue_of t
  enqueue_queue = rw add-one (take_pushed t.queued g t.queue lt_queue)

  pub enqueue_once : (j : ℕ) → occ j (queue_of (enqueue G g t)) ≤ at (enqueue G g t).flags j
  enqueue_once =
      set_ind (λ j x. occ j (queue_of t') ≤ x) t.flags g 1 0 (in_flags S.sized seg)
      (rw (enqueue_queue, occ-cons g g (queue_of t)) (omega (arith, bit_same g, S.once g)))
      (λ j n. rw (enqueue_queue, occ-cons j g (queue_of t)) (omega (arith, bit_other j g n, S.once j)))

  -- the flags with that of g set, and the queue's length one more, wherever g goes in it
  pub flag_set≤ : (j : ℕ) → at (set t.flags g 1) j ≤ 1
  flag_set≤ = set_ind (λ j x. x ≤ 1) t.flags g 1 0 (in_flags S.sized seg) (omega arith) (λ j _. S.flag≤ j)

  pub flag_set_full : (j : ℕ) → 0 < at (set t.flags g 1) j → at t.free j ≡ 0
  flag_set_full =
      set_ind (λ j x. 0 < x → at t.free j ≡ 0) t.flags g 1 0 (in_flags S.sized seg) (λ _. none_free) (λ j _. S.full j)

  pub one_more_fits : t.queued + 1 ≤ G.n
  one_more_fits = omega (arith, has_room)

  enqueue-behind : drop (t.queued + 1) t'.queue ≡ zeros (G.n - (t.queued + 1))
  enqueue-behind =
      let e : length t.queue - 1 - t.queued ≡ G.n - suc t.queued = omega (arith, S.sized.queue) in
      rw (add-one, drop_pushed t.queued g t.queue, e, S.behind) (take-zeros (G.n - suc t.queued) (G.n - t.queued) (omega arith))

  -- what else sound tables say is as before
  pub enqueue_sound : Counted G (enqueue G g t)
  enqueue_sound =
      search (length-set, enqueue-length, enqueue_once, flag_set≤, flag_set_full, one_more_fits, enqueue-behind)

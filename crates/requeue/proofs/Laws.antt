-- One turn of the walk that queues, and its end; and that it reads no marks. Assumes nothing.
use Prim.Native.Nat.{ℕ, zero, suc, ◌+◌, ◌-◌, ◌≤◌, ◌<◌}
use native.Mathlib.Numerals.{add-one}
use native.Mathlib.Omega.{arith}
use mathlib.Core.Path.{◌≡◌, refl, sym, ap, ◌∙◌}
use mathlib.Core.Bool.{Bool, true, false, cond}
use mathlib.Core.List.{List}
use Rattle.model.specs.declared.Geometry.{Geometry}
use Rattle.model.specs.Tables.{Tables, set_used}
use Rattle.model.specs.Checkpoint.{dead?, queue_last, queue_dead}

-- Before the turn of segment g: no more are queued than segments have been, and what is left of the walk gives the whole.
pub record Walked (G : Geometry) (start : Tables) (g : ℕ) (t : Tables) : Type 0 where
  pub room : t.queued ≤ g
  pub rest : queue_dead G (G.n - g) g t ≡ queue_dead G G.n 0 start

module _ (G : Geometry) (start : Tables) (g : ℕ) (t : Tables) (W : Walked G start g t) where
  turn : g < G.n → queue_dead G (G.n - g) g t ≡ queue_dead G (G.n - (g + 1)) (g + 1) (cond (dead? G g t) (queue_last G g t) t)
  unfolding queue_dead
  turn h =
      let one : G.n - g ≡ suc (G.n - (g + 1)) = omega arith in
      rw (one, add-one g)

  pub walk_queued : g < G.n → dead? G g t ≡ true → Walked G start (g + 1) (queue_last G g t)
  walk_queued h e = record { room = omega (arith, W.room); rest = rw e at (sym (turn h)) ∙ W.rest }

  pub walk_passed : g < G.n → dead? G g t ≡ false → Walked G start (g + 1) t
  walk_passed h e = record { room = omega (arith, W.room); rest = rw e at (sym (turn h)) ∙ W.rest }

  pub walk_end : G.n ≤ g → t ≡ queue_dead G G.n 0 start
  unfolding queue_dead
  walk_end h = let none : G.n - g ≡ 0 = omega arith in sym (ap (λ k. queue_dead G k g t) none) ∙ W.rest

-- the marks are not read, and stay
module _ (G : Geometry) (u : List ℕ) where
  aside_turn : (k g : ℕ) (t : Tables) → ((x : Tables) → set_used u (queue_dead G k (suc g) x) ≡ queue_dead G k (suc g) (set_used u x)) → (b : Bool)
      → set_used u (queue_dead G k (suc g) (cond b (queue_last G g t) t)) ≡ queue_dead G k (suc g) (cond b (queue_last G g (set_used u t)) (set_used u t))
  aside_turn k g t h true = h (queue_last G g t)
  aside_turn k g t h false = h t

  pub queue_aside : (k g : ℕ) (t : Tables) → set_used u (queue_dead G k g t) ≡ queue_dead G k g (set_used u t)
  unfolding queue_dead
  queue_aside zero g t = refl
  queue_aside (suc k) g t = aside_turn k g t (queue_aside k (suc g)) (dead? G g t)

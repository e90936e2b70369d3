-- The working form of sound tables: the same as `Sound`, with "exactly, each once" said by counting, so that sort, removal and append are
-- one-line laws. Past a table's end `at` gives 0, and the map the empty word, so most fields need no bound on their index.
-- proofs/Official.antt shows that the two forms are one. That a step keeps them is shown by naming the fields that change (proofs/Spend.antt
-- and so on): `search` takes the others from the tables before.
use Prim.Native.Nat.{ℕ, ◌+◌, ◌*◌, ◌-◌, ◌≤◌, ◌<◌}
use mathlib.Core.Path.{◌≡◌}
use lib.ListN.{drop}
use Rattle.model.specs.Lists.{slot, occ, zeros}
use Rattle.model.specs.Numbers.{Geometry, seg_of, page_of}
use Rattle.model.specs.Tables.{Tables, at, word_of, queue_of, list_of}
pub use Rattle.model.specs.Tables.{Sized}
use Rattle.model.specs.Sound.{Mapped, names}

-- sound tables of the right sizes
pub record Counted (G : Geometry) (t : Tables) : Type 0 where
  pub sized : Sized G t
  pub free≤ : (g : ℕ) → at t.free g ≤ G.p
  pub marked : (g k : ℕ) → g < G.n → k + at t.free g < G.p → at t.used (g * G.p + k) ≡ 1
  pub clear : (g k : ℕ) → g < G.n → k < G.p → G.p ≤ k + at t.free g → at t.used (g * G.p + k) ≡ 0
  pub lens≤ : (g : ℕ) → at t.lens g ≤ at t.valid g
  pub valid≤ : (g : ℕ) → at t.valid g + at t.free g ≤ G.p
  pub seg< : (l : ℕ) → Mapped t l → seg_of G (word_of t l) < G.n
  pub page< : (l : ℕ) → Mapped t l → page_of G (word_of t l) + at t.free (seg_of G (word_of t l)) < G.p
  pub apart : (l m : ℕ) → Mapped t l → word_of t l ≡ word_of t m → l ≡ m
  pub listed : (l g : ℕ) → g < G.n → occ l (list_of G t g) ≡ names G (word_of t l) g
  pub tails : (g : ℕ) → g < G.n → drop (at t.lens g) (slot G.p g t.lists) ≡ zeros (G.p - at t.lens g)
  pub once : (g : ℕ) → occ g (queue_of t) ≤ at t.flags g
  pub flag≤ : (g : ℕ) → at t.flags g ≤ 1
  pub full : (g : ℕ) → 0 < at t.flags g → at t.free g ≡ 0
  pub queued≤ : t.queued ≤ G.n
  pub behind : drop t.queued t.queue ≡ zeros (G.n - t.queued)
  pub alloc< : t.alloc < G.n

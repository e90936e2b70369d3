-- A place taken out of a slot: what a drop comes to. And the queue's free places.
use Rattle.std.specs.Prelude.{ℕ, suc, ◌-◌, ◌<◌, ◌≡◌, List, [], ◌∷◌, ◌++◌, take, drop}
use Rattle.model.specs.Lists.{zeros}
use Rattle.model.specs.declared.Geometry.{Geometry}
use Rattle.model.specs.Tables.{Tables}

-- place i taken out, a zero behind
abbrev pub close_up : ℕ → List ℕ → List ℕ
close_up i xs = take i xs ++ (drop (suc i) xs ++ (0 ∷ []))

-- the queue has a free place, and its free places hold zeros
pub record Room (G : Geometry) (t : Tables) : Type 0 where
  pub some : t.queued < G.n
  pub blank : drop t.queued t.queue ≡ zeros (G.n - t.queued)

-- what a search for a page looks at, of the tables t: the free counts and the allocation segment
pub record Looked (t : Tables) (free : List ℕ) (alloc : ℕ) : Type 0 where
  pub free_is : t.free ≡ free
  pub alloc_is : t.alloc ≡ alloc

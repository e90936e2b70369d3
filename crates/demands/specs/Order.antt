-- What the sort of the queue and the walk over the segments give, said of their results alone.
use Rattle.std.specs.Prelude.{ℕ, ◌+◌, ◌*◌, ◌%◌, ◌≤◌, ◌<◌, ◌≡◌, cond, ◌⊎◌, ◌≢◌, List, [], ◌∷◌, eqb, length}
use Rattle.model.specs.declared.Geometry.{Geometry}
use Rattle.model.specs.Lists.{occ}
use Rattle.model.specs.Tables.{Tables, at}

-- ---- "the queue is stably sorted by valid count and the first taken; the rest stays in sorted order"

-- the elements of a list whose key is k, in their order
unfoldable pub alike : (ℕ → ℕ) → ℕ → List ℕ → List ℕ
alike key k [] = []
alike key k (x ∷ xs) = cond (eqb (key x) k) (x ∷ alike key k xs) (alike key k xs)

-- from front to back keys do not fall
abbrev pub Rising : (ℕ → ℕ) → List ℕ → Type 0
Rising key ys = (i j : ℕ) → i ≤ j → j < length ys → key (at ys i) ≤ key (at ys j)

-- ys is xs stably sorted: keys do not fall; each element as often; those of one key in the same order
pub record StablySorted (key : ℕ → ℕ) (xs ys : List ℕ) : Type 0 where
  pub rising : Rising key ys
  pub same : (x : ℕ) → occ x ys ≡ occ x xs
  pub stable : (k : ℕ) → alike key k ys ≡ alike key k xs

-- ---- "from the allocation segment g, look at (g+i) mod n for i = 0 to n-1, passing bad segments and those with free count 0. The walk over segments
-- stops at the first page that is clear"

-- the segment that step i looks at
abbrev pub looked : Geometry → Tables → ℕ → ℕ
looked G t i = (t.alloc + i) % G.n

-- bad, or without a free page
abbrev pub PassedOver : List ℕ → Tables → ℕ → Type 0
PassedOver bad t g = (at bad g ≢ 0) ⊎ (at t.free g ≡ 0)

-- The walk stops at page k of segment g: at some step it looks at g, each earlier one's segment is passed, g is not, and k is g's first clear page
pub record FoundAt (G : Geometry) (bad : List ℕ) (t : Tables) (g k : ℕ) : Type 0 where
  pub step : ℕ
  pub within : step < G.n
  pub segment : g ≡ looked G t step
  pub passed : (i : ℕ) → i < step → PassedOver bad t (looked G t i)
  pub good : at bad g ≡ 0
  pub some : 0 < at t.free g
  pub page : k < G.p
  pub clear : at t.used (g * G.p + k) ≡ 0
  pub first : (j : ℕ) → j < k → at t.used (g * G.p + j) ≢ 0

-- the walk stops nowhere
abbrev pub AllPassed : Geometry → List ℕ → Tables → Type 0
AllPassed G bad t = (g : ℕ) → g < G.n → PassedOver bad t g

-- What the steps of the soundness test say: of plain lists and numbers, and then of the tables.
use Rattle.std.specs.Prelude.{ℕ, suc, ◌+◌, ◌-◌, ◌*◌, ◌^◌, ◌≤◌, ◌<◌, ◌≡◌, Bool, true, false, List, [], ◌∷◌, length, take, eqb}
use Rattle.model.specs.Lists.{slot, total}
use Rattle.model.specs.declared.Geometry.{Geometry}
use Rattle.model.specs.Numbers.{empty}
use Rattle.model.specs.Tables.{Tables, at, queue_of}

-- every element is v
abbrev pub Every : ℕ → List ℕ → Type 0
Every v xs = (k : ℕ) → k < length xs → at xs k ≡ v

-- how many elements are not v
abbrev pub miss : Bool → ℕ → ℕ
miss true k = k
miss false k = suc k

unfoldable pub unlike : ℕ → List ℕ → ℕ
unlike v [] = 0
unlike v (x ∷ xs) = miss (eqb x v) (unlike v xs)

-- a segment's counts and its flag
pub record Numbers (p free valid len flag : ℕ) : Type 0 where
  pub room : free ≤ p
  pub most : valid ≤ p - free
  pub least : len ≤ valid
  pub bit : flag ≤ 1
  pub full : flag ≡ 1 → free ≡ 0

-- a segment's use marks: the first u are 1, the others 0
pub record Marks (used : List ℕ) (u : ℕ) : Type 0 where
  pub ones : (k : ℕ) → k < u → at used k ≡ 1
  pub none : (k : ℕ) → u ≤ k → k < length used → at used k ≡ 0

-- the entries of a list: logical pages whose addresses are among the u from `first` up, and no two have one address
pub record Entries (list map : List ℕ) (first u : ℕ) : Type 0 where
  pub within : (i : ℕ) → i < length list → at list i < length map
  pub above : (i : ℕ) → i < length list → first ≤ at map (at list i)
  pub below : (i : ℕ) → i < length list → at map (at list i) < first + u
  pub apart : (i j : ℕ) → i < length list → j < length list → at map (at list i) ≡ at map (at list j) → i ≡ j

-- a segment's list slots: `len` entries, and zeros behind
pub record Slots (list : List ℕ) (len : ℕ) (map : List ℕ) (first u : ℕ) : Type 0 where
  pub past : (i : ℕ) → len ≤ i → i < length list → at list i ≡ 0
  pub entries : Entries (take len list) map first u

-- a segment of p pages, whose addresses are those from `first` up
pub record Right (p free valid len flag : ℕ) (used list map : List ℕ) (first : ℕ) : Type 0 where
  pub numbers : Numbers p free valid len flag
  pub marks : Marks used (p - free)
  pub slots : Slots list len map first (p - free)

-- the queued segments: they have free count 0 and their flag set, and no two are the same
pub record Queue (queue free flags : List ℕ) : Type 0 where
  pub within : (i : ℕ) → i < length queue → at queue i < length free
  pub full : (i : ℕ) → i < length queue → at free (at queue i) ≡ 0
  pub flagged : (i : ℕ) → i < length queue → at flags (at queue i) ≡ 1
  pub apart : (i j : ℕ) → i < length queue → j < length queue → at queue i ≡ at queue j → i ≡ j

-- segment g of the tables
abbrev pub Segment : Geometry → Tables → ℕ → Type 0
Segment G t g =
    Right G.p (at t.free g) (at t.valid g) (at t.lens g) (at t.flags g) (slot G.p g t.used) (slot G.p g t.lists) t.map (g * 2 ^ G.w)

-- the allocation segment, and the queue
pub record Heads (G : Geometry) (t : Tables) : Type 0 where
  pub alloc : t.alloc < G.n
  pub fits : t.queued ≤ G.n
  pub behind : (i : ℕ) → t.queued ≤ i → i < G.n → at t.queue i ≡ 0
  pub queue : Queue (queue_of t) t.free t.flags

-- the lists have as many entries as there are mapped pages
abbrev pub Balanced : Tables → Type 0
Balanced t = total t.lens ≡ unlike empty t.map

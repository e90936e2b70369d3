-- A unit over several calls: formatted and opened, what a read shows, and what the device's own marks guard.
use Rattle.std.specs.Prelude.{ℕ, zero, suc, ◌≡◌, ◌≢◌, List, take}
use Rattle.model.specs.declared.Geometry.{Geometry}
use Rattle.model.specs.Numbers.{Answer}
use Rattle.model.specs.Numbers.{Ok}
use Rattle.model.specs.Numbers.{flat}
use Rattle.model.specs.Tables.{at, word_of, packed}
use Rattle.model.specs.Sound.{Mapped}
use Rattle.model.specs.Device.{Flash, State, burn, formatted_flash}
use Rattle.model.specs.Checkpoint.{fresh}
use Rattle.model.specs.Entry.{Recorder, recorder, Outcome}
use Rattle.model.specs.declared.Queueing.{Queueing}
use Rattle.model.specs.History.{Call, Format, Open, Read, Write, Collect, CollectList, CollectThreshold, Encode, Restore}
use Rattle.model.specs.History.{lit, run, after, ops_of, map_in, IsRefused, Spares, Cut}
use Rattle.demands.specs.Given.{state_in}

-- what k operations leave of a fuse
unfoldable pub burnt : ℕ → ℕ → ℕ
burnt zero f = f
burnt (suc k) f = burnt k (burn f)

-- "Formatted flash .. is flash just formatted with no erase skipped."
pub record Formats (G : Geometry) (r : Recorder) (o : Outcome) : Type 0 where
  pub answer : o.answer ≡ Ok 0
  pub unit : o.left.unit ≡ recorder r.words r.used (formatted_flash G (burnt G.n r.flash.fuse))

-- "Fresh: opened from zeroed tables."
pub record Opens (G : Geometry) (f : Flash) (o : Outcome) : Type 0 where
  pub answer : o.answer ≡ Ok 0
  pub unit : o.left.unit ≡ recorder (packed (fresh G)) (fresh G).used f

-- what the caller of a read sees is the same: the answer, the buffer, the scratch
pub record Shows (o o' : Outcome) : Type 0 where
  pub answer : o.answer ≡ o'.answer
  pub buffer : o.left.buffer ≡ o'.left.buffer
  pub scratch : o.left.scratch ≡ o'.left.scratch

-- a collection of any kind
abbrev pub Collects : Call → Type 0
Collects (Collect s) = Unit {0}
Collects (CollectList m s) = Unit {0}
Collects (CollectThreshold t m s) = Unit {0}
Collects Format = ⊥
Collects Open = ⊥
Collects (Read sector len o s) = ⊥
Collects (Write sector len d s) = ⊥
Collects (Encode b s) = ⊥
Collects (Restore q b s) = ⊥

-- each mapped page is marked as programmed
abbrev pub MarkedAll : Geometry → State → Type 0
MarkedAll G st = (l : ℕ) → Mapped st.tab l → at st.flash.marks (flat G (word_of st.tab l)) ≢ 0

abbrev pub MarkedIn : Geometry → Recorder → Type 0
MarkedIn G r = MarkedAll G (state_in G r)

-- a formatting or a restore was refused, or the call is another one
abbrev pub Ordinary : Call → Answer → Type 0
Ordinary Format a = IsRefused a
Ordinary (Restore q b s) a = IsRefused a
Ordinary Open a = Unit {0}
Ordinary (Read sector len o s) a = Unit {0}
Ordinary (Write sector len d s) a = Unit {0}
Ordinary (Collect s) a = Unit {0}
Ordinary (CollectList m s) a = Unit {0}
Ordinary (CollectThreshold t m s) a = Unit {0}
Ordinary (Encode b s) a = Unit {0}

-- What may come of r₀, with fewer premises than `Since`: public calls of every kind and answer, openings and restores of other files too, over tables that are lost,
-- swapped or edited at any time; any fuse; cuts at any operation. Only the erases begun spare the segments of pages mapped at r₀.
pub data Ever (G : Geometry) (bad : List ℕ) (r₀ : Recorder) : Recorder → Type 0 where
  start : Ever G bad r₀ r₀
  tables_lost : {r : Recorder} → Ever G bad r₀ r → (w u : List ℕ) → Ever G bad r₀ (recorder w u r.flash)
  lent_fuse : {r : Recorder} → Ever G bad r₀ r → (f : ℕ) → Ever G bad r₀ (lit f r)
  called : {r : Recorder} → Ever G bad r₀ r → (c : Call) → Spares G (map_in G r₀) (run G bad c r).ops → Ever G bad r₀ (after G bad c r)
  cut : {r : Recorder} → Ever G bad r₀ r → (c : Call) (i : ℕ) (f : Flash) → Spares G (map_in G r₀) (take (suc i) (ops_of G bad c r))
      → Cut G i (ops_of G bad c r) r.flash f → (w u : List ℕ) → Ever G bad r₀ (recorder w u f)

-- A unit from an accepted opening on, with any fuse, regained by restores of its own checkpoints, if no erase was begun in their mapped segments since.
-- Left out are an accepted formatting, which erases under the tables, and every other accepted restore
pub data FromOpening (G : Geometry) (bad : List ℕ) : Recorder → Type 0 where
  opens : (r : Recorder) → (run G bad Open r).answer ≡ Ok 0 → FromOpening G bad (after G bad Open r)
  calls : {r : Recorder} → FromOpening G bad r → (c : Call) → Ordinary c (run G bad c r).answer → FromOpening G bad (after G bad c r)
  lends_fuse : {r : Recorder} → FromOpening G bad r → (f : ℕ) → FromOpening G bad (lit f r)
  regains : {r₀ r : Recorder} → FromOpening G bad r₀ → (buffer : List ℕ) (scratch : List (List ℕ)) (n : ℕ)
      → (run G bad (Encode buffer scratch) r₀).answer ≡ Ok n
      → Ever G bad r₀ r → (q : Queueing) (s : List (List ℕ))
      → (run G bad (Restore q (take n (run G bad (Encode buffer scratch) r₀).left.buffer) s) r).answer ≡ Ok 0
      → FromOpening G bad (after G bad (Restore q (take n (run G bad (Encode buffer scratch) r₀).left.buffer) s) r)

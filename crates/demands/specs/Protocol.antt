-- docs/USING.md, "When a checkpoint's guarantee ends": the order of calls that a unit keeps to.
use Rattle.std.specs.Prelude.{ℕ, ◌+◌, ◌≤◌, ◌<◌, ◌≡◌, ◌⊎◌, ◌≢◌, List, [], ◌∷◌, length, take}
use Rattle.model.specs.declared.Geometry.{Geometry}
use Rattle.model.specs.Numbers.{Answer}
use Rattle.model.specs.Numbers.{Ok, Err}
use Rattle.model.specs.Numbers.{logical_page}
use Rattle.model.specs.Causes.{kind_of, ByCopy}
use Rattle.model.specs.Tables.{Tables, at}
use Rattle.model.specs.Device.{Flash, Op, EraseSeg, raised}
use Rattle.model.specs.PageGc.{victim, last_of}
use Rattle.model.specs.Entry.{Recorder, recorder}
use Rattle.model.specs.declared.Queueing.{Queueing}
use Rattle.model.specs.History.{Call, Format, Open, Read, Write, Collect, CollectList, CollectThreshold, Encode, Restore, lit, run, after, ops_of, content_of, map_in}
use Rattle.model.specs.History.{Elsewhere, Cut}
use Rattle.demands.specs.Given.{tab}

-- reads, writes and encodings
abbrev pub Gentle : Call → Type 0
Gentle (Read sector len o s) = Unit {0}
Gentle (Write sector len d s) = Unit {0}
Gentle (Encode b s) = Unit {0}
Gentle Format = ⊥
Gentle Open = ⊥
Gentle (Collect s) = ⊥
Gentle (CollectList m s) = ⊥
Gentle (CollectThreshold t m s) = ⊥
Gentle (Restore q b s) = ⊥

-- the segment that the next collection takes, if there is one, has no listed page
abbrev pub Drained : Geometry → Recorder → Type 0
Drained G r = 0 < (tab G r).queued → at (tab G r).lens (victim (tab G r)) ≡ 0

-- the victim erased and nothing else; nothing where there is none, or where the collection is refused, which is not by a copy
abbrev pub Erases : Geometry → Recorder → Answer → List Op → Type 0
Erases G r (Ok m) ops = (((tab G r).queued ≡ 0) × (ops ≡ [])) ⊎ (ops ≡ EraseSeg (victim (tab G r)) (raised G (victim (tab G r)) r.flash) ∷ [])
Erases G r (Err c) ops = (ByCopy (kind_of c) → ⊥) × (ops ≡ [])

-- the file is what an encoding of r₀ that was not refused wrote
pub record Saved (G : Geometry) (bad : List ℕ) (r₀ : Recorder) (file : List ℕ) : Type 0 where
  pub buffer : List ℕ
  pub scratch : List (List ℕ)
  pub size : ℕ
  pub accepted : (run G bad (Encode buffer scratch) r₀).answer ≡ Ok size
  pub is : take size (run G bad (Encode buffer scratch) r₀).left.buffer ≡ file

-- The calls that the protocol allows behind a checkpoint with the map M, over tables t: reads, writes (those that drain too) and encodings; a
-- collection whose victim, if there is one, holds no page that M names.
abbrev pub Allows : Geometry → (M : List ℕ) → Tables → Call → Type 0
Allows G M t (Read sector len o s) = Unit {0}
Allows G M t (Write sector len d s) = Unit {0}
Allows G M t (Encode b s) = Unit {0}
Allows G M t (Collect s) = 0 < t.queued → Elsewhere G M (victim t)
Allows G M t Format = ⊥
Allows G M t Open = ⊥
Allows G M t (CollectList m s) = ⊥
Allows G M t (CollectThreshold k m s) = ⊥
Allows G M t (Restore q b s) = ⊥

-- the unit is r, and r₀ was encoded
abbrev pub Next : Geometry → (r₀ r : Recorder) → Call → Type 0
Next G r₀ r c = Allows G (map_in G r₀) (tab G r) c

-- r is reached from r₀, whose checkpoint is stored, by the protocol: allowed calls, whatever they answer, with any fuse; and where the power went at a
-- device operation of one, or behind the last, and everything but the flash was lost, the file restored.
pub data Careful (G : Geometry) (bad : List ℕ) (r₀ : Recorder) (file : List ℕ) : Recorder → Type 0 where
  saved : Careful G bad r₀ file r₀
  lends_fuse : {r : Recorder} → Careful G bad r₀ file r → (f : ℕ) → Careful G bad r₀ file (lit f r)
  calls : {r : Recorder} → Careful G bad r₀ file r → (c : Call) → Next G r₀ r c → Careful G bad r₀ file (after G bad c r)
  regains : {r : Recorder} → Careful G bad r₀ file r → (c : Call) → Next G r₀ r c → (i : ℕ) (f : Flash) → Cut G i (ops_of G bad c r) r.flash f
      → (w u : List ℕ) (q : Queueing) (s : List (List ℕ)) → (run G bad (Restore q file s) (recorder w u f)).answer ≡ Ok 0
      → Careful G bad r₀ file (after G bad (Restore q file s) (recorder w u f))

-- v is the first of those in xs whose key is least
pub record First (key : ℕ → ℕ) (xs : List ℕ) (v : ℕ) : Type 0 where
  pub place : ℕ
  pub within : place < length xs
  pub is : at xs place ≡ v
  pub least : (j : ℕ) → j < length xs → key v ≤ key (at xs j)
  pub earlier : (j : ℕ) → j < place → key v < key (at xs j)

-- what k accepted writes leave: the same victim, its list k shorter, and every logical page's content
pub record Shortened (G : Geometry) (k : ℕ) (r r' : Recorder) : Type 0 where
  pub same : victim (tab G r') ≡ victim (tab G r)
  pub waits : (tab G r').queued ≡ (tab G r).queued
  pub fewer : at (tab G r').lens (victim (tab G r)) + k ≡ at (tab G r).lens (victim (tab G r))
  pub contents : (j : ℕ) → content_of G r' j ≡ content_of G r j

-- 1 for a write that is accepted, 0 for one that is refused
abbrev pub accepts : Answer → ℕ
accepts (Ok m) = 1
accepts (Err c) = 0

-- Step 2, one write: while the victim has listed pages, no bytes to the last of them
pub record DrainsNext (G : Geometry) (sector : ℕ) (r : Recorder) : Type 0 where
  pub more : at (tab G r).lens (victim (tab G r)) ≢ 0
  pub last : logical_page G sector ≡ last_of G (victim (tab G r)) (tab G r)

-- Step 2: r' comes of r by such writes with any fuse, k of them accepted
pub data Drains (G : Geometry) (bad : List ℕ) : ℕ → Recorder → Recorder → Type 0 where
  none : {r : Recorder} → Drains G bad 0 r r
  with_fuse : {k : ℕ} {r r' : Recorder} (f : ℕ) → Drains G bad k (lit f r) r' → Drains G bad k r r'
  writes : {k : ℕ} {r r' : Recorder} → (sector : ℕ) (d : List ℕ) (s : List (List ℕ)) → DrainsNext G sector r
      → Drains G bad k (after G bad (Write sector 0 d s) r) r'
      → Drains G bad (accepts (run G bad (Write sector 0 d s) r).answer + k) r r'

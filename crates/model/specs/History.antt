-- Histories: the public calls one after another, power cuts, and which states they reach.
use Rattle.std.specs.Prelude.{ℕ, zero, suc, ◌+◌, ◌*◌, ◌<◌, ◌≡◌, ◌≢◌, ◌⊎◌, List, [], ◌∷◌, length, get_or, set, take}
use Rattle.model.specs.Lists.{on_slot, zeros}
use Rattle.model.specs.Numbers.{Geometry, Answer, Ok, Err, empty, endless, seg_of}
use Rattle.model.specs.Causes.{Kind, in_tests, in_read, in_write, in_copy, in_erase, in_file, kind_of, AtDevice}
use Rattle.model.specs.Tables.{view, packed, pages}
use Rattle.model.specs.Device.{Flash, flash, formatted_flash, Op, Program, EraseSeg, state, perform}
use Rattle.model.specs.PageWrite.{Content, content}
use Rattle.model.specs.Checkpoint.{Queueing, fresh}
use Rattle.model.specs.Entry.{Recorder, recorder, lent, Outcome, formatting, opening, read, write, collection, list_collection, threshold_collection, encoding, restoring}

-- a public call: what is handed to it beside the recorder, its own buffer and scratch included
pub data Call : Type 0 where
  Format : Call
  Open : Call
  Read : (sector len : ℕ) (out : List ℕ) (scratch : List (List ℕ)) → Call
  Write : (sector len : ℕ) (d : List ℕ) (scratch : List (List ℕ)) → Call
  Collect : (scratch : List (List ℕ)) → Call
  CollectList : (m : ℕ) (scratch : List (List ℕ)) → Call
  CollectThreshold : (threshold m : ℕ) (scratch : List (List ℕ)) → Call
  Encode : (buffer : List ℕ) (scratch : List (List ℕ)) → Call
  Restore : (q : Queueing) (b : List ℕ) (scratch : List (List ℕ)) → Call

-- the recorder with another fuse lent
abbrev pub lit : ℕ → Recorder → Recorder
lit f r = recorder r.words r.used (flash r.flash.bytes r.flash.marks r.flash.counts f)

module _ (G : Geometry) (bad : List ℕ) where
  abbrev pub run : Call → Recorder → Outcome
  run Format r = formatting G (lent r [] [])
  run Open r = opening G (lent r [] [])
  run (Read sector len o s) r = read G sector len (lent r o s)
  run (Write sector len d s) r = write G bad sector len d (lent r [] s)
  run (Collect s) r = collection G bad (lent r [] s)
  run (CollectList m s) r = list_collection G bad m (lent r [] s)
  run (CollectThreshold t m s) r = threshold_collection G bad t m (lent r [] s)
  run (Encode b s) r = encoding G (lent r b s)
  run (Restore q b s) r = restoring G q b (lent r [] s)

  -- the recorder after a call
  abbrev pub after : Call → Recorder → Recorder
  after c r = (run c r).left.unit

  -- "The definitions list a call's operations under an endless fuse."
  abbrev pub ops_of : Call → Recorder → List Op
  ops_of c r = (run c (lit endless r)).ops

-- what logical page l of a recorder holds
abbrev pub content_of : Geometry → Recorder → ℕ → Content
content_of G r l = content G (state (view G r.words r.used) r.flash) l

abbrev pub map_in : Geometry → Recorder → List ℕ
map_in G r = (view G r.words r.used).map

-- ---- "any state reached by public calls"

-- an opening or a restore makes tables of whatever was lent; then come calls, with any fuse
pub data Reached (G : Geometry) (bad : List ℕ) : Recorder → Type 0 where
  by_opening : (r : Recorder) → (run G bad Open r).answer ≡ Ok 0 → Reached G bad (after G bad Open r)
  by_restoring : (r : Recorder) (q : Queueing) (b : List ℕ) (s : List (List ℕ)) → (run G bad (Restore q b s) r).answer ≡ Ok 0
      → Reached G bad (after G bad (Restore q b s) r)
  called : {r : Recorder} → Reached G bad r → (c : Call) → Reached G bad (after G bad c r)
  lent_fuse : {r : Recorder} → Reached G bad r → (f : ℕ) → Reached G bad (lit f r)

-- ---- in service: 02, M-102, "from formatted flash and fresh tables, with no further opening or restore"

-- an opening and a restore begin anew; no other call does
abbrev pub Begins : Call → Type 0
Begins Open = Unit {0}
Begins (Restore q b s) = Unit {0}
Begins Format = ⊥
Begins (Read sector len o s) = ⊥
Begins (Write sector len d s) = ⊥
Begins (Collect s) = ⊥
Begins (CollectList m s) = ⊥
Begins (CollectThreshold t m s) = ⊥
Begins (Encode b s) = ⊥

abbrev pub IsRefused : Answer → Type 0
IsRefused (Ok m) = ⊥
IsRefused (Err c) = Unit {0}

-- any fuse and bad list may be lent to each call; a refused opening or restore changes nothing, and is none; formatting may come again, whole or cut short
pub data InService (G : Geometry) : Recorder → Type 0 where
  delivered : (f : ℕ) → InService G (recorder (packed (fresh G)) (fresh G).used (formatted_flash G f))
  lent_fuse : {r : Recorder} → InService G r → (f : ℕ) → InService G (lit f r)
  called : {r : Recorder} → InService G r → (bad : List ℕ) (c : Call) → (Begins c → IsRefused (run G bad c r).answer) → InService G (after G bad c r)

-- "refused for this": a programming was refused, a write's or a copy's
abbrev pub AtProgramming : Kind → Type 0
AtProgramming (in_write f) = AtDevice f
AtProgramming (in_copy f) = AtDevice f
AtProgramming in_tests = ⊥
AtProgramming in_read = ⊥
AtProgramming in_erase = ⊥
AtProgramming (in_file r) = ⊥

-- if so, then because the fuse is out: of an answer, and the flash that is left
abbrev pub OnlyFuse : Answer → Flash → Type 0
OnlyFuse (Ok m) f = Unit {0}
OnlyFuse (Err c) f = AtProgramming (kind_of c) → f.fuse ≡ 0

-- ---- power cuts

-- "a page being programmed is then marked with unknown bytes, a segment being erased unknown"
abbrev pub Torn : Geometry → Op → Flash → Flash → Type 0
Torn G (Program g k page) f f' =
    (b : List ℕ) × (m : ℕ) × (length b ≡ G.s) × (0 < m)
    × (f' ≡ flash (on_slot G.s (g * G.p + k) (λ _. b) f.bytes) (set f.marks (g * G.p + k) m) f.counts f.fuse)
Torn G (EraseSeg g count) f f' =
    (b : List ℕ) × (m : List ℕ) × (c : ℕ) × (length b ≡ G.p * G.s) × (length m ≡ G.p)
    × (f' ≡ flash (on_slot (G.p * G.s) g (λ _. b) f.bytes) (on_slot G.p g (λ _. m) f.marks) (set f.counts g c) f.fuse)

-- "a cut there leaves that flash with the next listed one, if any, torn": the flash f after the first i of the operations
abbrev pub Cut : Geometry → ℕ → List Op → Flash → Flash → Type 0
Cut G i [] f f' = f' ≡ f
Cut G zero (o ∷ os) f f' = Torn G o f f'
Cut G (suc i) (o ∷ os) f f' = Cut G i os (perform G o f) f'

-- ---- since a checkpoint

-- segment g holds no page that a word of the map M names; no operation erases one that does
abbrev pub Elsewhere : Geometry → List ℕ → ℕ → Type 0
Elsewhere G M g = (l : ℕ) → get_or M l empty ≢ empty → seg_of G (get_or M l empty) ≢ g

abbrev pub Spares : Geometry → List ℕ → List Op → Type 0
Spares G M [] = Unit {0}
Spares G M (Program g k page ∷ os) = Spares G M os
Spares G M (EraseSeg g c ∷ os) = Elsewhere G M g × Spares G M os

-- "no opening, no restore of another" than the file: a refused one changes nothing, and is none
pub record Keeps (file : List ℕ) (c : Call) (a : Answer) : Type 0 where
  pub no_opening : c ≡ Open → IsRefused a
  pub no_other : (q : Queueing) (b : List ℕ) (s : List (List ℕ)) → c ≡ Restore q b s → (b ≡ file) ⊎ IsRefused a

-- running, or the power is gone and with it what the tables held
pub data Phase : Type 0 where
  running : Phase
  lost : Phase

-- While the power is gone the words and use marks may hold anything, even the words of other sound tables. So before the file is restored no call
-- may be made that does a device operation (`ops` are those of the call), but formatting, which has no tables lent.
abbrev pub Allowed : Phase → Call → List Op → Type 0
Allowed running c ops = Unit {0}
Allowed lost c ops = (c ≡ Format) ⊎ (ops ≡ [])

-- The recorders r that can come of r₀, where the checkpoint `file` was taken, under demand 3's premises: any fuse may be lent; no call is an
-- opening or a restore of another file; the erases begun spare the segments of pages mapped then; the power may go between calls, or at any
-- device operation of a call, as often as it likes; and while it is gone calls are made as `Allowed` says.
pub data Since (G : Geometry) (bad : List ℕ) (r₀ : Recorder) (file : List ℕ) : Phase → Recorder → Type 0 where
  checkpoint : Since G bad r₀ file running r₀
  lent_fuse : {p : Phase} {r : Recorder} → Since G bad r₀ file p r → (f : ℕ) → Since G bad r₀ file p (lit f r)
  called : {p : Phase} {r : Recorder} → Since G bad r₀ file p r → (c : Call) → Allowed p c (run G bad c r).ops
      → Keeps file c (run G bad c r).answer
      → Spares G (map_in G r₀) (run G bad c r).ops
      → Since G bad r₀ file p (after G bad c r)
  off : {p : Phase} {r : Recorder} → Since G bad r₀ file p r → (w u : List ℕ) → Since G bad r₀ file lost (recorder w u r.flash)
  cut : {p : Phase} {r : Recorder} → Since G bad r₀ file p r → (c : Call) → Allowed p c (ops_of G bad c r) → (i : ℕ) (f : Flash)
      → Spares G (map_in G r₀) (take (suc i) (ops_of G bad c r))
      → Cut G i (ops_of G bad c r) r.flash f
      → (w u : List ℕ) → Since G bad r₀ file lost (recorder w u f)
  regained : {r : Recorder} → Since G bad r₀ file lost r → (q : Queueing) (s : List (List ℕ))
      → (run G bad (Restore q file s) r).answer ≡ Ok 0
      → Since G bad r₀ file running (after G bad (Restore q file s) r)

-- "restoring it over the flash as it stands gives each logical page exactly what it held when the checkpoint was taken, nothing included"
pub record GivesBack (G : Geometry) (bad : List ℕ) (r₀ : Recorder) (file : List ℕ) (q : Queueing) (r : Recorder) : Type 0 where
  pub answer : (run G bad (Restore q file (zeros (pages G) ∷ [])) r).answer ≡ Ok 0
  pub contents : (l : ℕ) → content_of G (after G bad (Restore q file (zeros (pages G) ∷ [])) r) l ≡ content_of G r₀ l

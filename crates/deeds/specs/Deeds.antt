-- Document 01, "Trace program": what a record does, and the line that it gives.
use Rattle.std.specs.Prelude.{ℕ, ◌≡◌, ◌<◌, ◌≤◌, Option, Some, None, List, [], ◌∷◌, length, take, drop}
use Rattle.model.specs.declared.Geometry.{Geometry}
use Rattle.model.specs.Lists.{zeros, splice}
use Rattle.model.specs.Numbers.{Answer, Ok, Err, number}
use Rattle.model.specs.declared.Numbers.TheVariants.{Old}
use Rattle.model.specs.Tables.{pages}
use Rattle.model.specs.Entry.{Recorder, Outcome, page_scratch, seen_scratch}
use Rattle.model.specs.History as call
use Rattle.records.specs.declared.Record.{Record}
use Rattle.records.specs.declared.Record.TheVariants.{Write, Read, Collect, CollectList, Checkpoint, Restore}
use Rattle.lines.specs.Text.{line, answer_line, hex}
use Rattle.deeds.specs.declared.Told.{Told}

-- what is kept from record to record: the recorder, the buffer that a read fills, and that of the last checkpoint with the checkpoint's length
pub record Kept : Type 0 where
  pub unit : Recorder
  pub out : List ℕ
  pub file : List ℕ
  pub stored : ℕ

abbrev pub kept : Recorder → (out file : List ℕ) → ℕ → Kept
kept u o f k = record { unit = u; out = o; file = f; stored = k }

-- "a read gives its bytes in lower hex"
abbrev pub read_line : Answer → List ℕ → List ℕ
read_line (Ok m) out = line 114 (hex (take m out))
read_line (Err c) out = answer_line 114 (number Old (Err c))

-- "`w`, `r`, `g`, `l`, `c` or `s`, a space and the answer"
abbrev pub line_of : Record → Answer → List ℕ → List ℕ
line_of (Write sector len at) a out = answer_line 119 (number Old a)
line_of (Read sector len) a out = read_line a out
line_of Collect a out = answer_line 103 (number Old a)
line_of (CollectList m) a out = answer_line 108 (number Old a)
line_of Checkpoint a out = answer_line 99 (number Old a)
line_of (Restore q) a out = answer_line 115 (number Old a)

-- "the last checkpoint, which is empty at first": what an encoding gives that is not refused
abbrev pub encoded : Answer → ℕ → ℕ
encoded (Ok m) stored = m
encoded (Err c) stored = stored

abbrev pub stored_of : Record → Answer → ℕ → ℕ
stored_of (Write sector len at) a stored = stored
stored_of (Read sector len) a stored = stored
stored_of Collect a stored = stored
stored_of (CollectList m) a stored = stored
stored_of Checkpoint a stored = encoded a stored
stored_of (Restore q) a stored = stored

-- the buffers after a call that left b
abbrev pub out_of : Record → List ℕ → List ℕ → List ℕ
out_of (Write sector len at) b out = out
out_of (Read sector len) b out = b
out_of Collect b out = out
out_of (CollectList m) b out = out
out_of Checkpoint b out = out
out_of (Restore q) b out = out

abbrev pub file_of : Record → List ℕ → List ℕ → List ℕ
file_of (Write sector len at) b file = file
file_of (Read sector len) b file = file
file_of Collect b file = file
file_of (CollectList m) b file = file
file_of Checkpoint b file = b
file_of (Restore q) b file = file

module _ (G : Geometry) (bad xs : List ℕ) where
  -- the public call of a record, with clean scratch
  abbrev pub call_of : Kept → Record → call.Call
  call_of k (Write sector len at) = call.Write sector len (take len (drop at xs)) (zeros (page_scratch G) ∷ zeros (seen_scratch G) ∷ [])
  call_of k (Read sector len) = call.Read sector len k.out (zeros (seen_scratch G) ∷ [])
  call_of k Collect = call.Collect (zeros (page_scratch G) ∷ zeros (seen_scratch G) ∷ zeros G.n ∷ [])
  call_of k (CollectList m) = call.CollectList m (zeros (page_scratch G) ∷ zeros (seen_scratch G) ∷ zeros G.n ∷ [])
  call_of k Checkpoint = call.Encode k.file (zeros (seen_scratch G) ∷ [])
  call_of k (Restore q) = call.Restore q (take k.stored k.file) (zeros (pages G) ∷ [])

  abbrev pub done : Kept → Record → Outcome
  done k r = call.run G bad (call_of k r) k.unit

  abbrev pub answer_to : Kept → Record → Answer
  answer_to k r = (done k r).answer

  -- what is kept after it, and its line
  abbrev pub kept_after : Kept → Record → Kept
  kept_after k r =
      let o = done k r in
      kept o.left.unit (out_of r o.left.buffer k.out) (file_of r o.left.buffer k.file) (stored_of r (answer_to k r) k.stored)

  abbrev pub line_after : Kept → Record → List ℕ
  line_after k r = line_of r (answer_to k r) (kept_after k r).out

-- a record was done: what is kept in k' and the answer a are the definition's
pub record Performed (G : Geometry) (bad xs : List ℕ) (k : Kept) (e : Record) (k' : Kept) (a : Answer) : Type 0 where
  pub kept_is : k' ≡ kept_after G bad xs k e
  pub answer_is : a ≡ answer_to G bad xs k e

abbrev pub told : (next length : ℕ) → Told
told n l = record { next = n; length = l }

-- what a turn tells lies behind the place at which it began, and its line within the buffer l
abbrev pub Ahead : ℕ → (l : List ℕ) → Option Told → Type 0
Ahead at l None = Unit {0}
Ahead at l (Some t) = (at < t.next) × (t.length ≤ length l)

-- one turn of the trace: the record found is done and its line laid in front of what stood in the buffer l; a malformed one changes nothing
abbrev pub Turned : (G : Geometry) (bad xs : List ℕ) → Kept → Option (Record × ℕ) → (l : List ℕ) → Kept → (l' : List ℕ) → Option Told → Type 0
Turned G bad xs k None l k' l' t = (t ≡ None) × (k' ≡ k) × (l' ≡ l)
Turned G bad xs k (Some (e, next)) l k' l' t =
    (t ≡ Some (told next (length (line_after G bad xs k e))))
    × (k' ≡ kept_after G bad xs k e)
    × (l' ≡ splice 0 (line_after G bad xs k e) l)

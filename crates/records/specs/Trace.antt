-- Document 01, "Trace program": what the bytes of a trace say.
use Rattle.std.specs.Prelude.{ℕ, zero, suc, ◌+◌, ◌*◌, ◌≤◌, Bool, true, cond, ◌&&◌, Option, Some, None, Result, Ok, Err, List, ltb, leb, eqb, length, set}
use Rattle.model.specs.declared.Geometry.{Geometry}
use Rattle.model.specs.Numbers.{good?, geometry}
use Rattle.model.specs.Tables.{pages}
use Rattle.model.specs.declared.Queueing.TheVariants.{Empty, Dead}
use Rattle.numbers.specs.Groups.{number}
pub use Rattle.numbers.specs.Groups.{after}
pub use Rattle.records.specs.declared.HeaderError.{HeaderError}
pub use Rattle.records.specs.declared.HeaderError.TheVariants.{Form, Values}
pub use Rattle.records.specs.declared.Record.{Record}
pub use Rattle.records.specs.declared.Record.TheVariants.{Write, Read, Collect, CollectList, Checkpoint, Restore}

-- "n·p above 1,024, s above 512, n·p·s above 32,768 … or a bad geometry"
abbrev pub small? : Geometry → Bool
small? G = good? G && (leb (pages G) 1024 && (leb G.s 512 && leb (pages G * G.s) 32768))

-- "the header's form, then its values"; "a bad segment >= n"
abbrev pub valued : Geometry → Option (ℕ × Bool) → Result (Geometry × ℕ) HeaderError
valued G None = Err Form
valued G (Some (first, inside)) = cond (inside && small? G) (Ok (G, first)) (Err Values)

module _ (xs : List ℕ) where
  -- "count of bad segments, their numbers": k of them from a place, each marked, and whether each is below n
  unfoldable pub marking : ℕ → ℕ → ℕ → Bool → List ℕ → Option (ℕ × Bool) × List ℕ
  marking n zero at inside bad = (Some (at, inside), bad)
  marking n (suc k) at inside bad =
      after (number xs at) (None, bad) λ g next. marking n k next (inside && ltb g n) (set bad g 1)

  -- the seven numbers that a header begins with: the geometry, the count of bad segments, and the place after it
  unfoldable pub front : Option (Geometry × ℕ × ℕ)
  front =
      after (number xs 0) None λ n a.
      after (number xs a) None λ p b.
      after (number xs b) None λ s c.
      after (number xs c) None λ w d.
      after (number xs d) None λ e f.
      after (number xs f) None λ limit g.
      after (number xs g) None λ count h.
      Some (geometry n p s w e limit, count, h)

  -- what stands behind those: the bad segments are marked, and then the values are tested
  abbrev pub marked : List ℕ → Option (Geometry × ℕ × ℕ) → Result (Geometry × ℕ) HeaderError × List ℕ
  marked bad None = (Err Form, bad)
  marked bad (Some (G, count, h)) = let m = marking G.n count h true bad in (valued G m.0, m.1)

  -- "Header: n, p, s, w, e, erase limit, count of bad segments, their numbers."
  unfoldable pub header : List ℕ → Result (Geometry × ℕ) HeaderError × List ℕ
  header bad = marked bad front

  -- "0 write (sector, length, bytes)": the bytes stand in the trace, from the place after the length
  unfoldable pub write_record : ℕ → Option (Record × ℕ)
  write_record at =
      after (number xs at) None λ sector a.
      after (number xs a) None λ len b.
      cond (leb (b + len) (length xs)) (Some (Write sector len b, b + len)) None

  -- "1 read (sector, length)"
  unfoldable pub read_record : ℕ → Option (Record × ℕ)
  read_record at =
      after (number xs at) None λ sector a.
      after (number xs a) None λ len b.
      Some (Read sector len, b)

  -- "3 collect from list (m)"
  unfoldable pub list_record : ℕ → Option (Record × ℕ)
  list_record at = after (number xs at) None λ m a. Some (CollectList m, a)

  -- "0 write …; 1 read …; 2 collect; 3 collect from list (m); 4 checkpoint; 5 restore"; 02, M-109: record 5 asks for the old empty queue by name, "a new
  -- record 6 (also `s`) uses the new default"; any other number is "an unknown record"
  unfoldable pub record_of : ℕ → ℕ → Option (Record × ℕ)
  record_of kind at =
      cond (eqb kind 0) (write_record at)
      (cond (eqb kind 1) (read_record at)
      (cond (eqb kind 2) (Some (Collect, at))
      (cond (eqb kind 3) (list_record at)
      (cond (eqb kind 4) (Some (Checkpoint, at))
      (cond (eqb kind 5) (Some (Restore Empty, at))
      (cond (eqb kind 6) (Some (Restore Dead, at)) None))))))

  -- the record at a place
  abbrev pub next_record : ℕ → Option (Record × ℕ)
  next_record at = after (number xs at) None record_of

-- the bytes of a write stand in the trace
abbrev pub Within : List ℕ → Record → Type 0
Within xs (Write sector len at) = at + len ≤ length xs
Within xs (Read sector len) = Unit {0}
Within xs Collect = Unit {0}
Within xs (CollectList m) = Unit {0}
Within xs Checkpoint = Unit {0}
Within xs (Restore q) = Unit {0}

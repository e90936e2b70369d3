-- The public entries. Each is a function of all that it is lent, on every input: geometry, bad list, lengths and contents may be anything.
-- "Lent" names what an entry is lent beside the geometry; the rest of what it is given here it neither tests nor changes.
use Rattle.std.specs.Prelude.{ℕ, ◌+◌, ◌*◌, ◌≡◌, Bool, true, false, not, cond, ◌&&◌, List, [], ◌∷◌, ltb, leb, eqb, length, take, drop, ℤ}
use Rattle.model.specs.Lists.{every, blank, splice}
use Rattle.model.specs.Numbers.{Geometry, Numbers, Old, Answer, Ok, Err, Cause, Wrong, Unsound, Unmapped, Reason, empty, good?, logical_page, offset, number}
use Rattle.model.specs.Tables.{Tables, word_of, tab_words, pages, view, packed}
use Rattle.model.specs.Sound.{soundb}
use Rattle.model.specs.Device.{Flash, flash, Op, State, state, Out, format_from}
use Rattle.model.specs.PageWrite.{whole, write_page}
use Rattle.model.specs.PageGc.{collect, collect_list, collect_threshold}
use Rattle.model.specs.Checkpoint.{Queueing, opened, sealed, file_size, reason_of, restored_by}

-- what a unit keeps from call to call: the words and use marks of its tables, and its flash
pub record Recorder : Type 0 where
  pub words : List ℕ
  pub used : List ℕ
  pub flash : Flash

abbrev pub recorder : (words used : List ℕ) → Flash → Recorder
recorder w u f = record { words = w; used = u; flash = f }

-- all that an entry may change: the recorder, the buffer that a read or an encoding fills, and the scratch, in the entry's order
pub record Lent : Type 0 where
  pub unit : Recorder
  pub buffer : List ℕ
  pub scratch : List (List ℕ)

abbrev pub lent : Recorder → List ℕ → List (List ℕ) → Lent
lent r b s = record { unit = r; buffer = b; scratch = s }

-- what a call leaves of it, its answer, and the device operations that it did
pub record Outcome : Type 0 where
  pub left : Lent
  pub answer : Answer
  pub ops : List Op

abbrev pub outcome : Lent → Answer → List Op → Outcome
outcome x a os = record { left = x; answer = a; ops = os }

-- what an entry promises: it leaves what it was lent, and answers, as the outcome o says
pub record Answered (o : Outcome) (left : Lent) (a : Answer) : Type 0 where
  pub left_is : left ≡ o.left
  pub answer_is : a ≡ o.answer

-- and what its C name promises: the same, the answer told in the numbers that were chosen
pub record PromiseIn (N : Numbers) (o : Outcome) (left : Lent) (r : ℤ) : Type 0 where
  pub left_is : left ≡ o.left
  pub answer_is : r ≡ number N o.answer

-- in 01's numbers
abbrev pub Promise : Outcome → Lent → ℤ → Type 0
Promise = PromiseIn Old

-- what stands for a part that an entry is not lent
abbrev pub no_flash : Flash
no_flash = flash [] [] [] 0

-- "nothing changed"
abbrev pub refused : Cause → Lent → Outcome
refused c x = outcome x (Err c) []

-- the call o where the test passes, else refused
unfoldable pub unless : Bool → Cause → Lent → Outcome → Outcome
unless b c x o = cond b o (refused c x)

-- "Order: geometry and sizes, soundness, logical page, page overrun, then the rest."
unfoldable pub guarded : (sizes sound page overrun : Bool) → Lent → Outcome → Outcome
guarded sizes sound page overrun x o =
    unless sizes Wrong x (unless sound Unsound x (unless page Wrong x (unless overrun Wrong x o)))

-- "Lent scratch not all zero is a wrong lent size and stays as it was; zero scratch is handed back zero." So scratch is never changed.
unfoldable pub clean : List ℕ → List (List ℕ) → Bool
clean [] [] = true
clean [] (x ∷ xs) = false
clean (k ∷ ks) [] = false
clean (k ∷ ks) (x ∷ xs) = (eqb (length x) k && blank x) && clean ks xs

module _ (G : Geometry) where
  abbrev pub tables_of : Lent → Tables
  tables_of x = view G x.unit.words x.unit.used

  abbrev pub state_of : Lent → State
  state_of x = state (tables_of x) x.unit.flash

  -- an inner call's outcome, put back into what was lent
  abbrev pub back : Lent → Out → Outcome
  back x o =
      outcome (lent (recorder (packed o.st.tab) o.st.tab.used o.st.flash) x.buffer x.scratch) o.answer o.ops

  -- sizes: the tables', the flash's, and those of the scratch
  abbrev pub tables_fit : Lent → Bool
  tables_fit x = eqb (length x.unit.words) (tab_words G) && eqb (length x.unit.used) (pages G)

  abbrev pub flash_fits : Flash → Bool
  flash_fits f =
      eqb (length f.bytes) (pages G * G.s) && (eqb (length f.marks) (pages G) && eqb (length f.counts) G.n)

  abbrev pub page_scratch : ℕ
  page_scratch = G.s

  abbrev pub seen_scratch : ℕ
  seen_scratch = G.n + G.p

  -- Lent: the flash. "[Formatting] tests geometry and sizes only"
  unfoldable pub formatting : Lent → Outcome
  formatting x =
      let o = format_from G G.n 0 (state_of x) in
      guarded (every (good? G ∷ flash_fits x.unit.flash ∷ [])) true true true x
      (outcome (lent (recorder x.unit.words x.unit.used o.st.flash) x.buffer x.scratch) o.answer o.ops)

  -- Lent: words, use marks. "Opening and restoring test sizes, not soundness."
  unfoldable pub opening : Lent → Outcome
  opening x =
      let t = opened G (tables_of x).alloc in
      guarded (every (good? G ∷ tables_fit x ∷ [])) true true true x
      (outcome (lent (recorder (packed t) t.used x.unit.flash) x.buffer x.scratch) (Ok 0) [])

  -- Lent: words, use marks, the flash's bytes, the buffer; scratch: seen.
  -- "bytes at the offset of the mapped page"; "bytes of a read's buffer beyond the length stay"
  unfoldable pub read : ℕ → ℕ → Lent → Outcome
  read sector len x =
      let l = logical_page G sector in
      let shown = take len (drop (offset G sector) (whole G (state_of x) l)) in
      guarded
      (every
      (good? G
      ∷ tables_fit x
      ∷ eqb (length x.unit.flash.bytes) (pages G * G.s)
      ∷ leb len (length x.buffer)
      ∷ clean (seen_scratch ∷ []) x.scratch
      ∷ []))
      (soundb G (tables_of x))
      (ltb l G.e)
      (leb (offset G sector + len) G.s)
      x
      (unless (not (eqb (word_of (tables_of x) l) empty)) Unmapped x
      (outcome (lent x.unit (splice 0 shown x.buffer) x.scratch) (Ok len) []))

  -- Lent: words, use marks, the buffer; scratch: seen. The buffer's need is fixed by the geometry, so "checkpoint buffer too short" is a size.
  -- "Length 44 + 4e + 4n; encoding answers it; a longer buffer's bytes beyond stay."
  unfoldable pub encoding : Lent → Outcome
  encoding x =
      guarded
      (every (good? G ∷ tables_fit x ∷ leb (file_size G) (length x.buffer) ∷ clean (seen_scratch ∷ []) x.scratch ∷ []))
      (soundb G (tables_of x))
      true
      true
      x
      (outcome (lent x.unit (splice 0 (sealed G (tables_of x)) x.buffer) x.scratch) (Ok (file_size G)) [])

  -- Lent: the file b, words, use marks; scratch: taken marks.
  -- "Lent tables of wrong size get 22 first." "Any reason leaves tables and flash unchanged." "success answers 0"
  -- 02, M-109: the queue by the choice q; "Refusals: none new."
  unfoldable pub restoring : Queueing → List ℕ → Lent → Outcome
  restoring q b x =
      let t = restored_by G q b in
      let r = reason_of G b in
      guarded (every (good? G ∷ tables_fit x ∷ clean (pages G ∷ []) x.scratch ∷ [])) true true true x
      (unless (eqb r 0) (Reason r) x
      (outcome (lent (recorder (packed t) t.used x.unit.flash) x.buffer x.scratch) (Ok 0) []))

  module _ (bad : List ℕ) where
    -- what write and the collections test first
    abbrev pub all_fits : List ℕ → Lent → Bool
    all_fits scratch x =
        every (good? G ∷ tables_fit x ∷ flash_fits x.unit.flash ∷ eqb (length bad) G.n ∷ clean scratch x.scratch ∷ [])

    -- Lent: bad list, data d, words, use marks, the flash; scratch: page, seen. "A data buffer shorter than the length is a wrong lent size"
    unfoldable pub write : ℕ → ℕ → List ℕ → Lent → Outcome
    write sector len d x =
        guarded
        (every (all_fits (page_scratch ∷ seen_scratch ∷ []) x ∷ leb len (length d) ∷ []))
        (soundb G (tables_of x))
        (ltb (logical_page G sector) G.e)
        (leb (offset G sector + len) G.s)
        x
        (back x (write_page G bad (logical_page G sector) (offset G sector) (take len d) (state_of x)))

    -- the collections. Lent: bad list, words, use marks, the flash; scratch: page, seen, order
    abbrev pub collecting : Lent → Out → Outcome
    collecting x o = guarded (all_fits (page_scratch ∷ seen_scratch ∷ G.n ∷ []) x) (soundb G (tables_of x)) true true x (back x o)

    unfoldable pub collection : Lent → Outcome
    collection x = collecting x (collect G bad (state_of x))

    unfoldable pub list_collection : ℕ → Lent → Outcome
    list_collection m x = collecting x (collect_list G bad m (state_of x))

    unfoldable pub threshold_collection : ℕ → ℕ → Lent → Outcome
    threshold_collection threshold m x = collecting x (collect_threshold G bad threshold m (state_of x))

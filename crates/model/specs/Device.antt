-- Document 01, "Flash model", with 02's order of programming: what the device does, its fuse, and the operations that a call does.
use Rattle.std.specs.Prelude.{ℕ, zero, suc, ◌+◌, ◌*◌, ◌-◌, Bool, not, cond, ◌&&◌, List, [], ◌∷◌, ◌++◌, ltb, eqb, set, drop, replicate}
use Rattle.model.specs.Lists.{slot, on_slot, blank}
use Rattle.model.specs.Numbers.{Geometry, Answer, Ok, Err, Cause, endless, flat}
use Rattle.model.specs.Tables.{Tables, at}

-- "Each page has s bytes and a programmed mark; each segment has an erase count." "The lent device carries a fuse"
pub record Flash : Type 0 where
  pub bytes : List ℕ
  pub marks : List ℕ
  pub counts : List ℕ
  pub fuse : ℕ

abbrev pub flash : (bytes marks counts : List ℕ) (fuse : ℕ) → Flash
flash b m c f = record { bytes = b; marks = m; counts = c; fuse = f }

-- "Each one done .. lowers any other fuse by one"
unfoldable pub burn : ℕ → ℕ
burn f = cond (eqb f endless) f (f - 1)

-- a device operation that is done: page k of segment g programmed with these bytes; segment g erased, its count then c
-- (one more than before by a collection, 0 by formatting)
pub data Op : Type 0 where
  Program : (g k : ℕ) (page : List ℕ) → Op
  EraseSeg : (g c : ℕ) → Op

module _ (G : Geometry) where
  -- the bytes at an address
  abbrev pub page_at : Flash → ℕ → List ℕ
  page_at f a = slot G.s (flat G a) f.bytes

  -- segment g with every byte 255 and every mark clear, and this erase count
  -- "An erased page reads as 255 in every byte."
  abbrev pub blanked : ℕ → ℕ → Flash → Flash
  blanked g count f =
      flash
      (on_slot (G.p * G.s) g (λ _. replicate (G.p * G.s) 255) f.bytes)
      (on_slot G.p g (λ _. replicate G.p 0) f.marks)
      (set f.counts g count)
      (burn f.fuse)

  -- "Programming a page whose mark is set is refused .. ; otherwise its bytes and mark are set." "A nonzero programmed mark counts as set."
  -- 02, M-102: "a page may be programmed only if no higher page of its segment has been since the erase", "tested with the programmed mark": so
  -- the marks of page k and of all higher pages of segment g are clear
  abbrev pub clear_up : ℕ → ℕ → Flash → Bool
  clear_up g k f = blank (drop k (slot G.p g f.marks))

  -- "at 0 a programming or an erase is refused"
  unfoldable pub may_program : ℕ → ℕ → Flash → Bool
  may_program g k f = clear_up g k f && not (eqb f.fuse 0)

  abbrev pub programmed : ℕ → ℕ → List ℕ → Flash → Flash
  programmed g k page f =
      flash (on_slot G.s (g * G.p + k) (λ _. page) f.bytes) (set f.marks (g * G.p + k) 1) f.counts (burn f.fuse)

  -- "Erasing a segment whose count has reached the limit is refused .. ; otherwise its pages become erased and the count rises by one."
  unfoldable pub may_erase : ℕ → Flash → Bool
  may_erase g f = ltb (at f.counts g) G.limit && not (eqb f.fuse 0)

  abbrev pub raised : ℕ → Flash → ℕ
  raised g f = at f.counts g + 1

  abbrev pub erased : ℕ → Flash → Flash
  erased g f = blanked g (raised g f) f

  -- an operation done, and a list of them, first to last
  abbrev pub perform : Op → Flash → Flash
  perform (Program g k page) f = programmed g k page f
  perform (EraseSeg g c) f = blanked g c f

  abbrev pub perform_all : List Op → Flash → Flash
  perform_all [] f = f
  perform_all (o ∷ os) f = perform_all os (perform o f)

-- tables and flash, and what a call makes of them: its answer, and the device operations that it did, in order
pub record State : Type 0 where
  pub tab : Tables
  pub flash : Flash

abbrev pub state : Tables → Flash → State
state t f = record { tab = t; flash = f }

pub record Out : Type 0 where
  pub st : State
  pub answer : Answer
  pub ops : List Op

abbrev pub out : State → Answer → List Op → Out
out st a os = record { st = st; answer = a; ops = os }

-- "A refused operation changes nothing." Done with answer m, no operation.
abbrev pub refuse : Cause → State → Out
refuse c st = out st (Err c) []

abbrev pub finish : ℕ → State → Out
finish m st = out st (Ok m) []

-- o, with operations that were done before it
abbrev pub behind : List Op → Out → Out
behind os o = out o.st o.answer (os ++ o.ops)

-- o, and if it was no refusal, f from where it ended
abbrev pub go_on : Answer → Out → (State → Out) → Out
go_on (Ok m) o f = behind o.ops (f o.st)
go_on (Err c) o f = o

abbrev pub and_then : Out → (State → Out) → Out
and_then o f = go_on o.answer o f

module _ (G : Geometry) where
  -- formatting k segments from g up
  -- "Formatting erases every segment, whatever its count, sets counts to 0 and answers 0"
  -- "formatting's erases from segment 0 up too .. and formatting skips what is left and still answers 0"
  unfoldable pub format_from : ℕ → ℕ → State → Out
  format_from zero g st = finish 0 st
  format_from (suc k) g st =
      let rest = behind (EraseSeg g 0 ∷ []) (format_from k (suc g) (state st.tab (blanked G g 0 st.flash))) in
      cond (eqb st.flash.fuse 0) (finish 0 st) rest

  -- "Formatted flash, here and in 02, is flash just formatted with no erase skipped.": with the fuse f left
  abbrev pub formatted_flash : ℕ → Flash
  formatted_flash f = flash (replicate (G.n * G.p * G.s) 255) (replicate (G.n * G.p) 0) (replicate G.n 0) f

-- 01's table, its second column, "Given exactly when"; and the sign of an answer's number.
use Rattle.std.specs.Prelude.{ℕ, suc, ◌+◌, ◌*◌, ◌≤◌, ◌<◌, ◌≡◌, Bool, true, false, ◌⊎◌, ◌≢◌, List, [], ◌++◌, pos, negsuc}
use Rattle.model.specs.declared.Geometry.{Geometry}
use Rattle.model.specs.declared.Numbers.{Numbers}
use Rattle.model.specs.Numbers.{Answer}
use Rattle.model.specs.Numbers.{Ok, Err}
use Rattle.model.specs.declared.Cause.{Cause}
use Rattle.model.specs.declared.Cause.TheVariants.{Wrong, Unsound, Unmapped, NoRoom, Device, CopyNoRoom, CopyDevice, Erase, Reason}
use Rattle.model.specs.PageMap.{Some, spot}
use Rattle.model.specs.Lists.{total}
use Rattle.model.specs.Numbers.{empty, refusal, number, logical_page}
use Rattle.model.specs.Causes.{for_room, at_device, Kind, in_tests, in_read, in_write, in_copy, in_erase, in_file, kind_of}
use Rattle.model.specs.Tables.{Tables, at, word_of}
use Rattle.model.specs.Sound.{Mapped}
use Rattle.model.specs.Device.{Flash, Op, State, state, may_program, may_erase}
use Rattle.model.specs.PageMap.{find}
use Rattle.model.specs.PageGc.{victim, taken, copy_one, collect}
use Rattle.model.specs.Checkpoint.{file_size, reason_of}
use Rattle.model.specs.Entry.{Recorder}
use Rattle.model.specs.History.{Call, Format, Open, Read, Write, Collect, CollectList, CollectThreshold, Encode, Restore}
use Rattle.demands.specs.Given.{tab, state_in, SizesRight, TablesSound, Within, Passed}

-- ---- a write

-- 14, 28 in the new numbers: "no segment outside the bad list has free count above 0"
abbrev pub NoneFree : Geometry → List ℕ → Tables → Type 0
NoneFree G bad t = (g : ℕ) → g < G.n → at bad g ≡ 0 → at t.free g ≡ 0

-- the page found, and whether the device programs it
abbrev pub Finds : Geometry → List ℕ → State → Bool → Type 0
Finds G bad st programs = (g : ℕ) × (k : ℕ) × (find G bad st.tab ≡ Some (spot g k)) × (may_program G g k st.flash ≡ programs)

-- 5: "Programming a page whose mark is set is refused"; 02, M-102: "only if no higher page of its segment has been since the erase". The page or a higher
-- one of its segment is marked
abbrev pub MarkedFrom : Geometry → ℕ → ℕ → Flash → Type 0
MarkedFrom G g k f = (j : ℕ) × (k ≤ j) × (j < G.p) × (at f.marks (g * G.p + j) ≢ 0)

-- ---- one collection

-- k finished copies, each of the last logical page of v's list
pub data Copies (G : Geometry) (bad : List ℕ) (v : ℕ) : ℕ → State → State → Type 0 where
  none : {st : State} → Copies G bad v 0 st st
  copy : {k m : ℕ} {st st' : State} → at st.tab.lens v ≢ 0 → (copy_one G bad v st).answer ≡ Ok m → Copies G bad v k (copy_one G bad v st).st st'
      → Copies G bad v (suc k) st st'

-- 02, M-101: "whether a copy failed for room (28) or at the device (121)"
abbrev pub CopyWhy : Geometry → List ℕ → State → Kind → Type 0
CopyWhy G bad st (in_copy for_room) = NoneFree G bad st.tab
CopyWhy G bad st (in_copy at_device) = Finds G bad st false
CopyWhy G bad st in_tests = ⊥
CopyWhy G bad st in_read = ⊥
CopyWhy G bad st (in_write f) = ⊥
CopyWhy G bad st in_erase = ⊥
CopyWhy G bad st (in_file r) = ⊥

-- 14, 28 or 121 in the new numbers: "a copy gets 14 or 5". So many copies are finished, and the next fails
-- for what c says
pub record CopyFails (G : Geometry) (bad : List ℕ) (st : State) (c : Cause) : Type 0 where
  pub some : st.tab.queued ≢ 0
  pub done : ℕ
  pub here : State
  pub copies : Copies G bad (victim st.tab) done (state (taken st.tab) st.flash) here
  pub more : at here.tab.lens (victim st.tab) ≢ 0
  pub why : CopyWhy G bad here (kind_of c)

-- all are copied; then 5: "the erase is refused", or it is done
pub record AllCopied (G : Geometry) (bad : List ℕ) (st : State) (erases : Bool) : Type 0 where
  pub some : st.tab.queued ≢ 0
  pub done : ℕ
  pub here : State
  pub copies : Copies G bad (victim st.tab) done (state (taken st.tab) st.flash) here
  pub emptied : at here.tab.lens (victim st.tab) ≡ 0
  pub erase : may_erase G (victim st.tab) here.flash ≡ erases

-- "an empty queue answers 0"; else 0 where all is copied and the device allows the erase
abbrev pub PassWhen : Geometry → List ℕ → State → Answer → Type 0
PassWhen G bad st (Ok m) = (m ≡ 0) × ((st.tab.queued ≡ 0) ⊎ AllCopied G bad st true)
PassWhen G bad st (Err CopyNoRoom) = CopyFails G bad st CopyNoRoom
PassWhen G bad st (Err CopyDevice) = CopyFails G bad st CopyDevice
PassWhen G bad st (Err Erase) = AllCopied G bad st false
PassWhen G bad st (Err Wrong) = ⊥
PassWhen G bad st (Err Unsound) = ⊥
PassWhen G bad st (Err Unmapped) = ⊥
PassWhen G bad st (Err NoRoom) = ⊥
PassWhen G bad st (Err Device) = ⊥
PassWhen G bad st (Err (Reason r)) = ⊥

-- ---- collections from the list

-- k finished passes, each with the queue not empty behind it, and the operations that they did
pub data Passes (G : Geometry) (bad : List ℕ) : ℕ → State → State → List Op → Type 0 where
  start : {st : State} → Passes G bad 0 st st []
  pass : {k m : ℕ} {st st' : State} {ops : List Op} → (collect G bad st).answer ≡ Ok m → (collect G bad st).st.tab.queued ≢ 0
      → Passes G bad k (collect G bad st).st st' ops → Passes G bad (suc k) st st' ((collect G bad st).ops ++ ops)

-- "if the queue is empty, stop before counting": the next pass is not refused, and behind it the queue is empty
pub record LastPass (G : Geometry) (bad : List ℕ) (here : State) : Type 0 where
  pub answer : PassWhen G bad here (Ok 0)
  pub queue_empty : (collect G bad here).st.tab.queued ≡ 0

-- x passes are counted: m of them; or fewer, and the next, which is not counted, ends with the queue empty
pub record Counts (G : Geometry) (bad : List ℕ) (m : ℕ) (st : State) (x : ℕ) : Type 0 where
  pub here : State
  pub ops : List Op
  pub passes : Passes G bad x st here ops
  pub end : (x ≡ m) ⊎ ((x < m) × LastPass G bad here)

-- "on a refusal answer that": fewer than m are finished, and the next is refused with c
pub record PassFails (G : Geometry) (bad : List ℕ) (m : ℕ) (st : State) (c : Cause) : Type 0 where
  pub count : ℕ
  pub here : State
  pub ops : List Op
  pub passes : Passes G bad count st here ops
  pub fewer : count < m
  pub refused : PassWhen G bad here (Err c)

abbrev pub ListWhen : Geometry → List ℕ → ℕ → State → Answer → Type 0
ListWhen G bad m st (Ok x) = Counts G bad m st x
ListWhen G bad m st (Err c) = PassFails G bad m st c

-- "total free (all segments) above it runs nothing and answers 0"
abbrev pub ThresholdWhen : Geometry → List ℕ → ℕ → ℕ → State → Answer → Type 0
ThresholdWhen G bad t m st a = ((t < total st.tab.free) × (a ≡ Ok 0)) ⊎ ((total st.tab.free ≤ t) × ListWhen G bad m st a)

-- ---- every call

-- exactly when a call whose tests all passed gives the answer a
abbrev pub DeedWhen : Geometry → List ℕ → Call → Recorder → Answer → Type 0
DeedWhen G bad Format r a = a ≡ Ok 0
DeedWhen G bad Open r a = a ≡ Ok 0
DeedWhen G bad (Read sector len o s) r a =
    (Mapped (tab G r) (logical_page G sector) × (a ≡ Ok len)) ⊎ ((word_of (tab G r) (logical_page G sector) ≡ empty) × (a ≡ Err Unmapped))
DeedWhen G bad (Write sector len d s) r a =
    (NoneFree G bad (tab G r) × (a ≡ Err NoRoom))
    ⊎ ((Finds G bad (state_in G r) false × (a ≡ Err Device)) ⊎ (Finds G bad (state_in G r) true × (a ≡ Ok len)))
DeedWhen G bad (Collect s) r a = PassWhen G bad (state_in G r) a
DeedWhen G bad (CollectList m s) r a = ListWhen G bad m (state_in G r) a
DeedWhen G bad (CollectThreshold t m s) r a = ThresholdWhen G bad t m (state_in G r) a
DeedWhen G bad (Encode b s) r a = a ≡ Ok (file_size G)
DeedWhen G bad (Restore q b s) r a = ((reason_of G b ≡ 0) × (a ≡ Ok 0)) ⊎ ((reason_of G b ≢ 0) × (a ≡ Err (Reason (reason_of G b))))

-- 22: "geometry or a lent size is wrong; logical page >= e; offset + length > s; checkpoint buffer too short", in 01's order: logical
-- page and overrun behind soundness, the checkpoint's buffer among the sizes
abbrev pub WrongWhen : Geometry → List ℕ → Call → Recorder → Type 0
WrongWhen G bad c r = (SizesRight G bad c r → ⊥) ⊎ (SizesRight G bad c r × TablesSound G c r × (Within G c → ⊥))

-- 117: "tables are not sound"
abbrev pub UnsoundWhen : Geometry → List ℕ → Call → Recorder → Type 0
UnsoundWhen G bad c r = SizesRight G bad c r × (TablesSound G c r → ⊥)

-- all of it in one
abbrev pub When : Geometry → List ℕ → Call → Recorder → Answer → Type 0
When G bad c r (Err Wrong) = WrongWhen G bad c r
When G bad c r (Err Unsound) = UnsoundWhen G bad c r
When G bad c r (Ok m) = Passed G bad c r × DeedWhen G bad c r (Ok m)
When G bad c r (Err Unmapped) = Passed G bad c r × DeedWhen G bad c r (Err Unmapped)
When G bad c r (Err NoRoom) = Passed G bad c r × DeedWhen G bad c r (Err NoRoom)
When G bad c r (Err Device) = Passed G bad c r × DeedWhen G bad c r (Err Device)
When G bad c r (Err CopyNoRoom) = Passed G bad c r × DeedWhen G bad c r (Err CopyNoRoom)
When G bad c r (Err CopyDevice) = Passed G bad c r × DeedWhen G bad c r (Err CopyDevice)
When G bad c r (Err Erase) = Passed G bad c r × DeedWhen G bad c r (Err Erase)
When G bad c r (Err (Reason k)) = Passed G bad c r × DeedWhen G bad c r (Err (Reason k))

-- ---- signs

-- "bytes moved, or a refusal number negated": the number is 0 or above
pub record IsCount (a : Answer) : Type 0 where
  pub moved : ℕ
  pub answer : a ≡ Ok moved
  pub number_is : (N : Numbers) → number N a ≡ pos moved

-- or below 0 (`negsuc below` is -(below + 1))
pub record IsRefusal (N : Numbers) (a : Answer) : Type 0 where
  pub cause : Cause
  pub below : ℕ
  pub answer : a ≡ Err cause
  pub refusal_is : refusal N cause ≡ suc below
  pub number_is : number N a ≡ negsuc below

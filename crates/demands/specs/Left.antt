-- 01's table, its third column, "Left behind": what each refusal leaves.
use Rattle.std.specs.Prelude.{ℕ, ◌+◌, ◌*◌, ◌-◌, ◌≤◌, ◌<◌, ◌≡◌, true, false, ◌⊎◌, ◌≢◌, List, [], ◌∷◌, ◌++◌, length, set, take, drop}
use Rattle.model.specs.declared.Geometry.{Geometry}
use Rattle.model.specs.Numbers.{Answer}
use Rattle.model.specs.Numbers.{Ok, Err}
use Rattle.model.specs.declared.Cause.{Cause}
use Rattle.model.specs.declared.Cause.TheVariants.{Wrong, Unsound, Unmapped, NoRoom, Device, CopyNoRoom, CopyDevice, Erase, Reason}
use Rattle.model.specs.PageMap.{Some, spot}
use Rattle.model.specs.Lists.{occ, total}
use Rattle.model.specs.Causes.{for_room, at_device, Kind, in_tests, in_read, in_write, in_copy, in_erase, in_file, kind_of}
use Rattle.model.specs.Tables.{at, queue_of, list_of}
use Rattle.model.specs.Device.{Op, Program, EraseSeg, State, state, may_program, may_erase, raised, erased, perform_all}
use Rattle.model.specs.PageMap.{find}
use Rattle.model.specs.PageWrite.{content}
use Rattle.model.specs.PageGc.{sorted, victim, taken, reset, unflag, copy_one}
use Rattle.model.specs.Entry.{Recorder, Outcome}
use Rattle.model.specs.History.{Call, Format, Open, Read, Write, Collect, CollectList, CollectThreshold, Encode, Restore}
use Rattle.demands.specs.Given.{state_in, lent_to, TablesFit}
use Rattle.demands.specs.When.{NoneFree, Copies, Passes}

-- the rows with "nothing changed": 22, 117, 61, a write's 14 (28 in the new numbers), a restore's reasons
abbrev pub Quiet : Kind → Type 0
Quiet in_tests = Unit {0}
Quiet in_read = Unit {0}
Quiet (in_write for_room) = Unit {0}
Quiet (in_write at_device) = ⊥
Quiet (in_copy f) = ⊥
Quiet in_erase = ⊥
Quiet (in_file r) = Unit {0}

-- ---- 5 (write): "the page found is spent: used, free -1, valid +1, allocation segment set; map, lists, queue, flash unchanged"

pub record Spent (G : Geometry) (bad : List ℕ) (st st' : State) : Type 0 where
  -- the page found, the first free one of a segment that is not bad; the device refuses it
  pub seg : ℕ
  pub page : ℕ
  pub found : find G bad st.tab ≡ Some (spot seg page)
  pub segment : seg < G.n
  pub first : page + at st.tab.free seg ≡ G.p
  pub good : at bad seg ≡ 0
  pub refused : may_program G seg page st.flash ≡ false
  -- spent
  pub used : st'.tab.used ≡ set st.tab.used (seg * G.p + page) 1
  pub free : st'.tab.free ≡ set st.tab.free seg (at st.tab.free seg - 1)
  pub valid : st'.tab.valid ≡ set st.tab.valid seg (at st.tab.valid seg + 1)
  pub alloc : st'.tab.alloc ≡ seg
  -- unchanged
  pub map : st'.tab.map ≡ st.tab.map
  pub lists : st'.tab.lists ≡ st.tab.lists
  pub lens : st'.tab.lens ≡ st.tab.lens
  pub queue : st'.tab.queue ≡ st.tab.queue
  pub queued : st'.tab.queued ≡ st.tab.queued
  pub flags : st'.tab.flags ≡ st.tab.flags
  pub flash : st'.flash ≡ st.flash

-- ---- 14 (28 or 121 in the new numbers) and 5 (collection)

-- a copy that found no room: nothing changed by it
pub record NotFound (G : Geometry) (bad : List ℕ) (st st' : State) : Type 0 where
  pub none : NoneFree G bad st.tab
  pub same : st' ≡ st

-- programmings only
abbrev pub Programs : List Op → Type 0
Programs [] = Unit {0}
Programs (Program g k page ∷ os) = Programs os
Programs (EraseSeg g c ∷ os) = ⊥

-- "finished copies .. stand". What k of them out of segment v leave: no content changed, the flash changed by k programmings alone, v's list without
-- its last k, v full, and the queue and every flag as they were
pub record Stand (G : Geometry) (v k : ℕ) (st st' : State) (ops : List Op) : Type 0 where
  pub contents : (l : ℕ) → content G st' l ≡ content G st l
  pub performs : st'.flash ≡ perform_all G ops st.flash
  pub programs : Programs ops
  pub many : length ops ≡ k
  pub fewer : at st'.tab.lens v + k ≡ at st.tab.lens v
  pub listed : list_of G st'.tab v ≡ take (at st'.tab.lens v) (list_of G st.tab v)
  pub full : at st'.tab.free v ≡ 0
  pub queue : st'.tab.queue ≡ st.tab.queue
  pub queued : st'.tab.queued ≡ st.tab.queued
  pub flags : st'.tab.flags ≡ st.tab.flags

-- "a copy gets 14 or 5 .. a copy's 5 spends its page": what the refused copy does to the state `here` that the finished ones left
abbrev pub CopyEnds : Geometry → List ℕ → State → State → Cause → Type 0
CopyEnds G bad here st' CopyNoRoom = NotFound G bad here st'
CopyEnds G bad here st' CopyDevice = Spent G bad here st'
CopyEnds G bad here st' Wrong = ⊥
CopyEnds G bad here st' Unsound = ⊥
CopyEnds G bad here st' Unmapped = ⊥
CopyEnds G bad here st' NoRoom = ⊥
CopyEnds G bad here st' Device = ⊥
CopyEnds G bad here st' Erase = ⊥
CopyEnds G bad here st' (Reason r) = ⊥

-- "victim off the queue, flag set, the rest sorted", and no other flag changed
pub record Off (st st' : State) : Type 0 where
  pub some : 0 < st.tab.queued
  pub rest : queue_of st'.tab ≡ drop 1 (sorted st.tab)
  pub off : occ (victim st.tab) (queue_of st'.tab) ≡ 0
  pub flag : at st'.tab.flags (victim st.tab) ≡ 1
  pub flags : st'.tab.flags ≡ st.tab.flags

-- no content changed, and the flash changed by the listed operations alone
pub record ContentKept (G : Geometry) (st st' : State) (ops : List Op) : Type 0 where
  pub contents : (l : ℕ) → content G st' l ≡ content G st l
  pub performs : st'.flash ≡ perform_all G ops st.flash

-- 14, 28 or 121 in the new numbers: "finished copies .. stand; victim off the queue, flag set, the rest sorted; a copy's 5 spends its page"
pub record CopyRefused (G : Geometry) (bad : List ℕ) (c : Cause) (st st' : State) (ops : List Op) : Type 0 where
  pub done : ℕ
  pub here : State
  pub copies : Copies G bad (victim st.tab) done (state (taken st.tab) st.flash) here
  pub stand : Stand G (victim st.tab) done (state (taken st.tab) st.flash) here ops
  pub more : at here.tab.lens (victim st.tab) ≢ 0
  pub refused : (copy_one G bad (victim st.tab) here).answer ≡ Err c
  pub last : CopyEnds G bad here st' c
  pub victim_off : Off st st'
  pub kept : ContentKept G st st' ops

-- 5: "all copied ..; victim off the queue, flag set, not reset; the rest sorted"
pub record EraseRefused (G : Geometry) (bad : List ℕ) (st st' : State) (ops : List Op) : Type 0 where
  pub copies : Copies G bad (victim st.tab) (at st.tab.lens (victim st.tab)) (state (taken st.tab) st.flash) st'
  pub stand : Stand G (victim st.tab) (at st.tab.lens (victim st.tab)) (state (taken st.tab) st.flash) st' ops
  pub emptied : at st'.tab.lens (victim st.tab) ≡ 0
  pub refused : may_erase G (victim st.tab) st'.flash ≡ false
  pub not_reset : (k : ℕ) → k < G.p → at st'.tab.used (victim st.tab * G.p + k) ≡ 1
  pub victim_off : Off st st'
  pub kept : ContentKept G st st' ops

-- 0: all copied, then "erase, reset the record, clear the flag": free p, valid 0, no list, no use mark; the rest of the queue sorted
pub record Finished (G : Geometry) (bad : List ℕ) (st st' : State) (ops : List Op) : Type 0 where
  pub here : State
  pub copied : List Op
  pub some : 0 < st.tab.queued
  pub copies : Copies G bad (victim st.tab) (at st.tab.lens (victim st.tab)) (state (taken st.tab) st.flash) here
  pub stand : Stand G (victim st.tab) (at st.tab.lens (victim st.tab)) (state (taken st.tab) st.flash) here copied
  pub erase : may_erase G (victim st.tab) here.flash ≡ true
  pub ops_are : ops ≡ copied ++ (EraseSeg (victim st.tab) (raised G (victim st.tab) here.flash) ∷ [])
  pub flash : st'.flash ≡ erased G (victim st.tab) here.flash
  pub tables : st'.tab ≡ unflag G (victim st.tab) (reset G (victim st.tab) here.tab)
  pub rest : queue_of st'.tab ≡ drop 1 (sorted st.tab)
  pub kept : ContentKept G st st' ops

-- how one collection ends, by its answer
abbrev pub PassEnds : Geometry → List ℕ → State → State → List Op → Answer → Type 0
PassEnds G bad st st' ops (Ok m) = ((st.tab.queued ≡ 0) × (st' ≡ st) × (ops ≡ [])) ⊎ Finished G bad st st' ops
PassEnds G bad st st' ops (Err CopyNoRoom) = CopyRefused G bad CopyNoRoom st st' ops
PassEnds G bad st st' ops (Err CopyDevice) = CopyRefused G bad CopyDevice st st' ops
PassEnds G bad st st' ops (Err Erase) = EraseRefused G bad st st' ops
PassEnds G bad st st' ops (Err Wrong) = ⊥
PassEnds G bad st st' ops (Err Unsound) = ⊥
PassEnds G bad st st' ops (Err Unmapped) = ⊥
PassEnds G bad st st' ops (Err NoRoom) = ⊥
PassEnds G bad st st' ops (Err Device) = ⊥
PassEnds G bad st st' ops (Err (Reason r)) = ⊥

-- "earlier passes stand": fewer than m are finished, and then comes the pass that was refused with k
pub record Earlier (G : Geometry) (bad : List ℕ) (m : ℕ) (k : Cause) (st st' : State) (ops : List Op) : Type 0 where
  pub count : ℕ
  pub fewer : count < m
  pub here : State
  pub before : List Op
  pub behind : List Op
  pub passes : Passes G bad count st here before
  pub ops_are : ops ≡ before ++ behind
  pub last : PassEnds G bad here st' behind (Err k)
  pub kept : ContentKept G st st' ops

-- ---- every call

-- what a write leaves whose refusal is not one of "nothing changed"
abbrev pub WriteLeft : Geometry → List ℕ → Cause → State → State → List Op → Type 0
WriteLeft G bad Device st st' ops = Spent G bad st st' × (ops ≡ [])
WriteLeft G bad Wrong st st' ops = ⊥
WriteLeft G bad Unsound st st' ops = ⊥
WriteLeft G bad Unmapped st st' ops = ⊥
WriteLeft G bad NoRoom st st' ops = ⊥
WriteLeft G bad CopyNoRoom st st' ops = ⊥
WriteLeft G bad CopyDevice st st' ops = ⊥
WriteLeft G bad Erase st st' ops = ⊥
WriteLeft G bad (Reason r) st st' ops = ⊥

-- and each call: only a write and the collections have such refusals
abbrev pub Row : Geometry → List ℕ → Call → Cause → State → State → List Op → Type 0
Row G bad (Write sector len d s) k st st' ops = WriteLeft G bad k st st' ops
Row G bad (Collect s) k st st' ops = PassEnds G bad st st' ops (Err k)
Row G bad (CollectList m s) k st st' ops = Earlier G bad m k st st' ops
Row G bad (CollectThreshold t m s) k st st' ops = (total st.tab.free ≤ t) × Earlier G bad m k st st' ops
Row G bad Format k st st' ops = ⊥
Row G bad Open k st st' ops = ⊥
Row G bad (Read sector len o s) k st st' ops = ⊥
Row G bad (Encode b s) k st st' ops = ⊥
Row G bad (Restore q b s) k st st' ops = ⊥

-- what a call c on the recorder r that was refused with k leaves
pub record Leaves (G : Geometry) (bad : List ℕ) (c : Call) (r : Recorder) (k : Cause) (o : Outcome) : Type 0 where
  -- "nothing changed", and no device operation was done
  pub unchanged : Quiet (kind_of k) → (o.left ≡ lent_to c r) × (o.ops ≡ [])
  -- or what the row says, in tables of their size
  pub row : (Quiet (kind_of k) → ⊥) → Row G bad c k (state_in G r) (state_in G o.left.unit) o.ops × TablesFit G o.left.unit
  -- and always
  pub buffer : o.left.buffer ≡ (lent_to c r).buffer
  pub scratch : o.left.scratch ≡ (lent_to c r).scratch

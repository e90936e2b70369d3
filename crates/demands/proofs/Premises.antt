-- The premises of Leaves, Signs, Seen, Fresh, Marked, Kept, PowerOn, Served, Told, Queued and Gained can be met: two units of device A and A3, by computation. Exactly
-- asks nothing.
use Prim.Native.Nat.{ℕ, ◌+◌, ◌-◌, ◌≤◌, ◌<◌}
use native.Mathlib.Omega.{arith}
use mathlib.Core.Path.{◌≡◌, refl}
use mathlib.Core.Logic.{◌≢◌}
use mathlib.Core.List.{List, [], ◌∷◌, ◌++◌}
use lib.IntN.{pos, negsuc}
use lib.ListN.{take, replicate}
use Rattle.crc32.specs.Crc32.{plus, add, among, powers, low, remainder, bits_of, bits, digit, number as value_of, dividend, crc32}
use Rattle.model.specs.declared.Geometry.{Geometry}
use Rattle.model.specs.declared.Numbers.TheVariants.{Old, New}
use Rattle.model.specs.Numbers.{Ok, Err}
use Rattle.model.specs.declared.Cause.TheVariants.{Wrong, Unmapped, NoRoom, Device, CopyNoRoom, CopyDevice, Erase, Reason}
use Rattle.model.specs.Lists.{without, push_front, insert_by, sort_by, splice, total, occ, all, every, blank, up_to, bit, zeros}
use Rattle.model.specs.Numbers.{good?, endless, number}
use Rattle.model.specs.Tables.{at, queue_of, view, packed}
use Rattle.model.specs.Sound.{names, soundb}
use Rattle.model.specs.Device.{Flash, flash, burn, may_program, may_erase, format_from, formatted_flash}
use Rattle.model.specs.PageMap.{clear_from, find_from, find, invalidate, forget}
use Rattle.model.specs.PageWrite.{old_page, write_at, write_page}
use Rattle.model.specs.PageGc.{sorted, listed_of, outside, finish_of, drain, collect_of, collect, collect_more, collect_list, collect_threshold}
use Rattle.model.specs.Checkpoint.{fresh, used_by, word, long, words, word_at, long_at, words_at, head, file, reason_of, welcome, settle_all, restored, queue_dead, dead?, dead_ones}
use Rattle.model.specs.Entry.{Recorder, recorder, unless, guarded, clean, formatting, opening, read, write, collection, list_collection, threshold_collection, encoding, restoring}
use Rattle.model.specs.declared.Queueing.{Queueing}
use Rattle.model.specs.declared.Queueing.TheVariants.{Empty, Dead}
use Rattle.model.specs.History.{Call, Format, Open, Read, Write, Collect, CollectList, CollectThreshold, Encode, Restore, run, after, lit}
use Rattle.model.specs.History.{lost, Since, GivesBack, InService}
use Rattle.model.specs.History as history
use Rattle.model.proofs.Guard.{good_test}
use Rattle.model.proofs.Entry.{tab}
use Rattle.model.proofs.Witness as witness
use Rattle.demands.specs.Given.{Exactly}
use Rattle.demands.specs.Left.{Leaves}
use Rattle.demands.specs.Unit.{burnt, MarkedIn, Shows, Ever, start, cut, FromOpening, opens, calls, regains}
use Rattle.demands.proofs.Leaves.{leaves}
use Rattle.demands.proofs.Signs.{reasons}
use Rattle.demands.proofs.Fresh.{started}
use Rattle.demands.proofs.Seen.{read-after-write, read-behind-collection}
use Rattle.demands.proofs.Kept.{unit_restores}
use Rattle.demands.proofs.Served.{serves, refused_by_the_fuse}
use Rattle.demands.proofs.Told.{told_by_the_fuse}
use Rattle.demands.proofs.Signs as signs
use Rattle.demands.proofs.Gained.{collect_gains, full_only, full_whenever, write-takes, room_exactly}
use Rattle.demands.proofs.Queued.{saved_queued}
use Rattle.demands.proofs.PowerOn.{powered_read, powered_encode, powered_restore}

abbrev A : Geometry
A = record { n = 2; p = 2; s = 4; w = 1; e = 3; limit = 5 }

abbrev bad : List ℕ
bad = zeros 2

abbrev put : ℕ → ℕ → Call
put l x = Write l 4 (replicate 4 x) (zeros 4 ∷ zeros 4 ∷ [])

abbrev gc : List (List ℕ)
gc = zeros 4 ∷ zeros 4 ∷ zeros 2 ∷ []

-- flash that holds anything, tables of zeros: formatted, opened, whole pages 0, 1, 0 written
abbrev any : Recorder
any = recorder (zeros 19) (zeros 4) (flash (replicate 16 7) (replicate 4 9) (replicate 2 8) endless)

abbrev unit : Recorder
unit = after A bad (put 0 3) (after A bad (put 4 2) (after A bad (put 0 1) (after A bad Open (after A bad Format any))))

-- with page 2 written too there is no room
abbrev full : Recorder
full = after A bad (put 8 4) unit

-- its checkpoint; then a write of page 2 torn, and all tables lost; then regained
abbrev saving : Call
saving = Encode (zeros 64) (zeros 4 ∷ [])

abbrev kept : List ℕ
kept = take 64 (run A bad saving unit).left.buffer

abbrev torn : Flash
torn = flash (replicate 4 1 ++ replicate 4 2 ++ replicate 4 3 ++ replicate 4 9) (1 ∷ 1 ∷ 1 ∷ 7 ∷ []) (0 ∷ 0 ∷ []) endless

abbrev dark : Recorder
dark = recorder (zeros 19) (zeros 4) torn

abbrev again : Recorder
again = after A bad (Restore Empty kept (zeros 4 ∷ [])) dark

-- every refusal that leaves something: a write with no fuse; a collection with no fuse, and with fuse 1, whose copy is done and whose erase is refused;
-- one without room; the same from the list and by a threshold. And one of each that leaves nothing changed
pub record Rows : Type 0 where
  spent : Leaves A bad (put 0 5) (lit 0 unit) Device (run A bad (put 0 5) (lit 0 unit))
  copy : Leaves A bad (Collect gc) (lit 0 unit) CopyDevice (run A bad (Collect gc) (lit 0 unit))
  erase : Leaves A bad (Collect gc) (lit 1 unit) Erase (run A bad (Collect gc) (lit 1 unit))
  room : Leaves A bad (Collect gc) full CopyNoRoom (run A bad (Collect gc) full)
  list : Leaves A bad (CollectList 3 gc) full CopyNoRoom (run A bad (CollectList 3 gc) full)
  threshold : Leaves A bad (CollectThreshold 9 3 gc) (lit 1 unit) Erase (run A bad (CollectThreshold 9 3 gc) (lit 1 unit))
  wrong : Leaves A bad (put 12 5) unit Wrong (run A bad (put 12 5) unit)
  none : Leaves A bad (put 0 5) full NoRoom (run A bad (put 0 5) full)
  unmapped : Leaves A bad (Read 8 4 (zeros 4) (zeros 4 ∷ [])) unit Unmapped (run A bad (Read 8 4 (zeros 4) (zeros 4 ∷ [])) unit)
  reason : Leaves A bad (Restore Empty [] (zeros 4 ∷ [])) unit (Reason 1) (run A bad (Restore Empty [] (zeros 4 ∷ [])) unit)
  reason_in : (1 ≤ 1) × (1 ≤ 9)

rows : Rows
unfolding
    without push_front insert_by sort_by splice total occ all every blank up_to good? view packed names soundb burn may_program may_erase format_from
    clear_from find_from find invalidate forget old_page write_at write_page sorted finish_of drain collect_of collect collect_more collect_list
    collect_threshold used_by reason_of unless guarded clean formatting opening read write collection list_collection threshold_collection restoring
rows =
    record {
      spent = leaves A bad (put 0 5) (lit 0 unit) Device refl;
      copy = leaves A bad (Collect gc) (lit 0 unit) CopyDevice refl;
      erase = leaves A bad (Collect gc) (lit 1 unit) Erase refl;
      room = leaves A bad (Collect gc) full CopyNoRoom refl;
      list = leaves A bad (CollectList 3 gc) full CopyNoRoom refl;
      threshold = leaves A bad (CollectThreshold 9 3 gc) (lit 1 unit) Erase refl;
      wrong = leaves A bad (put 12 5) unit Wrong refl;
      none = leaves A bad (put 0 5) full NoRoom refl;
      unmapped = leaves A bad (Read 8 4 (zeros 4) (zeros 4 ∷ [])) unit Unmapped refl;
      reason = leaves A bad (Restore Empty [] (zeros 4 ∷ [])) unit (Reason 1) refl;
      reason_in = reasons A bad (Restore Empty [] (zeros 4 ∷ [])) unit 1 refl;
    }

-- formatted, opened, worked, its power cut, regained by its own checkpoint; and a checkpoint of that unit gives everything back
pub record Regained : Type 0 where
  begun : after A bad Open (after A bad Format any) ≡ recorder (packed (fresh A)) (fresh A).used (formatted_flash A (burnt 2 endless))
  opened : FromOpening A bad unit
  ever : Ever A bad unit dark
  regained : FromOpening A bad again
  back : (q : Queueing) → GivesBack A bad again (take 64 (run A bad saving again).left.buffer) q again

regained : Regained
unfolding
    without push_front insert_by sort_by splice total occ all every blank up_to good? view packed names soundb burn may_program may_erase format_from
    clear_from find_from find invalidate forget old_page write_at write_page used_by word long words word_at long_at words_at head file reason_of welcome settle_all
    restored unless guarded clean formatting opening write encoding restoring plus add among powers low remainder bits_of bits digit value_of dividend
    crc32
regained =
    let o : FromOpening A bad unit = calls (calls (calls (opens (after A bad Format any) refl) (put 0 1) tt) (put 4 2) tt) (put 0 3) tt in
    let v : Ever A bad unit dark = cut start (put 8 4) 0 torn tt (replicate 4 9, 7, refl, omega arith, refl) (zeros 19) (zeros 4) in
    let a : FromOpening A bad again = regains o (zeros 64) (zeros 4 ∷ []) 64 refl v Empty (zeros 4 ∷ []) refl in
    record {
      begun = started A (good_test A refl) bad (replicate 16 7) (replicate 4 9) (replicate 2 8) endless refl refl refl (omega arith);
      opened = o;
      ever = v;
      regained = a;
      back = unit_restores A bad again a (zeros 64) (zeros 4 ∷ []) 64 refl start refl refl;
    }

-- its checkpoint restored with `Dead`: segment 0, full, one of its two pages mapped, is queued; of the functions that run the same
pub record Requeued : Type 0 where
  queue : queue_of (tab A (after A bad (Restore Dead kept (zeros 4 ∷ [])) dark)) ≡ 0 ∷ []
  dead : dead_ones A 2 0 (tab A unit) ≡ 0 ∷ []
  saved : (queue_of (tab A (after A bad (Restore Dead kept (zeros 4 ∷ [])) dark)) ≡ dead_ones A 2 0 (tab A unit))
      × ((g : ℕ) → g < 2 → at (tab A (after A bad (Restore Dead kept (zeros 4 ∷ [])) dark)).flags g ≡ bit (dead? A g (tab A unit)))

requeued : Requeued
unfolding
    without push_front insert_by sort_by splice total occ all every blank up_to good? view packed names soundb burn may_program may_erase format_from
    clear_from find_from find invalidate forget old_page write_at write_page used_by word long words word_at long_at words_at head file reason_of welcome settle_all
    restored queue_dead dead_ones unless guarded clean formatting opening write encoding restoring plus add among powers low remainder bits_of bits digit value_of
    dividend crc32
requeued =
    let r : Recorder = after A bad (Restore Dead kept (zeros 4 ∷ [])) dark in
    record {
      queue = refl;
      dead = refl;
      saved =
          saved_queued A unit.words unit.used (zeros 64) (run A bad saving unit).left.buffer (zeros 4 ∷ []) (zeros 4 ∷ []) 64
          (record { left_is = refl; answer_is = refl })
          (zeros 19) (zeros 4) refl refl r.words r.used (zeros 4 ∷ []) (pos 0)
          (record { left_is = refl; answer_is = refl });
    }

-- what a read shows: behind a write, and the same before and behind a collection that moved the page
pub record Seen : Type 0 where
  written : ((run A bad (Read 1 2 (zeros 4) (zeros 4 ∷ [])) (after A bad (Write 1 2 (5 ∷ 6 ∷ []) (zeros 4 ∷ zeros 4 ∷ [])) unit)).answer ≡ Ok 2)
      × (take 2 (run A bad (Read 1 2 (zeros 4) (zeros 4 ∷ [])) (after A bad (Write 1 2 (5 ∷ 6 ∷ []) (zeros 4 ∷ zeros 4 ∷ [])) unit)).left.buffer ≡ 5 ∷ 6 ∷ [])
  moved : Shows (run A bad (Read 4 4 (zeros 4) (zeros 4 ∷ [])) (after A bad (Collect gc) unit)) (run A bad (Read 4 4 (zeros 4) (zeros 4 ∷ [])) unit)

seen : Seen
unfolding
    without push_front insert_by sort_by splice total occ all every blank up_to good? view packed names soundb burn may_program may_erase format_from
    clear_from find_from find invalidate forget old_page write_at write_page sorted finish_of drain collect_of collect used_by unless guarded clean
    formatting opening write collection
seen =
    record {
      written = read-after-write A bad 1 2 2 (5 ∷ 6 ∷ []) (zeros 4 ∷ zeros 4 ∷ []) unit refl (zeros 4) (zeros 4 ∷ []) (omega arith) refl;
      moved = read-behind-collection A bad unit 4 4 (zeros 4) (zeros 4 ∷ []) (Collect gc) tt;
    }

-- at power on, before the file is restored
pub record Dark : Type 0 where
  reads : Since witness.A3 witness.bad witness.r₀ witness.kept lost (after witness.A3 witness.bad (Read 0 4 (zeros 4) (zeros 5 ∷ [])) witness.dark)
  encodes : Since witness.A3 witness.bad witness.r₀ witness.kept lost (after witness.A3 witness.bad (Encode (zeros 68) (zeros 5 ∷ [])) witness.dark)
  restores : Since witness.A3 witness.bad witness.r₀ witness.kept lost (after witness.A3 witness.bad (Restore Empty [] (zeros 6 ∷ [])) witness.dark)

dark_calls : Dark
unfolding every good? blank reason_of unless guarded clean restoring
dark_calls =
    let h = (witness.story).first in
    record {
      reads = powered_read h 0 4 (zeros 4) (zeros 5 ∷ []);
      encodes = powered_encode h (zeros 68) (zeros 5 ∷ []);
      restores = powered_restore h Empty [] (zeros 6 ∷ []) tt;
    }

-- in service: pages written, a collection, a restore that is refused, a formatting cut short; then a segment goes bad. Where no fuse is left a write
-- is refused, and a collection is told 121
abbrev late : Recorder
late = lit endless (after A bad Format (lit 1 (after A bad (Restore Empty [] (zeros 4 ∷ [])) (after A bad (Collect gc) unit))))

pub record Serving : Type 0 where
  serving : InService A late
  moved : (run A (0 ∷ 1 ∷ []) (put 8 4) late).answer ≡ Ok 4
  spent : (run A bad (put 8 4) (lit 0 late)).answer ≡ Err Device
  by_the_fuse : (after A bad (put 8 4) (lit 0 late)).flash.fuse ≡ 0
  told : (after A bad (Collect gc) (lit 0 unit)).flash.fuse ≡ 0

unit_serves : InService A unit
unfolding good? every
unit_serves =
    let i : InService A (after A bad Open (after A bad Format any)) =
    serves A (good_test A refl) bad (replicate 16 7) (replicate 4 9) (replicate 2 8) endless refl refl refl (omega arith) in
    history.called (history.called (history.called i bad (put 0 1) (λ z. absurd z)) bad (put 4 2) (λ z. absurd z)) bad (put 0 3) (λ z. absurd z)

served : Serving
unfolding
    without push_front insert_by sort_by splice total occ all every blank up_to good? view packed names soundb burn may_program may_erase format_from
    clear_from find_from find invalidate forget old_page write_at write_page sorted finish_of drain collect_of collect used_by reason_of unless guarded clean
    formatting opening write collection restoring
served =
    let u : InService A unit = unit_serves in
    let r : InService A (after A bad (Restore Empty [] (zeros 4 ∷ [])) (after A bad (Collect gc) unit)) =
    history.called (history.called u bad (Collect gc) (λ z. absurd z)) bad (Restore Empty [] (zeros 4 ∷ [])) (λ _. tt) in
    let l : InService A late = history.lent_fuse (history.called (history.lent_fuse r 1) bad Format (λ z. absurd z)) endless in
    record {
      serving = l;
      moved = refl;
      spent = refl;
      by_the_fuse = refused_by_the_fuse A bad (history.lent_fuse l 0) 8 4 (replicate 4 4) (zeros 4 ∷ zeros 4 ∷ []) {N = Old} (record { left_is = refl; answer_is = refl });
      told = told_by_the_fuse A bad (history.lent_fuse u 0) (Collect gc) (record { left_is = refl; answer_is = refl });
    }

-- the unit's victim has one listed page: its collection finishes and gains one. With page 2 written too, which spends a page, there is no room, and it is refused
pub record Gainful : Type 0 where
  finishes : total (tab A (after A bad (Collect gc) unit)).free ≡ 1 + (2 - 1)
  spends : total (tab A full).free + 1 ≡ 1
  short : outside bad (tab A full).free < 1
  exactly : Exactly (negsuc 27 ≡ number New (Err CopyNoRoom)) (outside bad (tab A full).free < listed_of (tab A full))
  whenever : negsuc 27 ≡ number New (Err CopyNoRoom)

gainful : Gainful
unfolding
    without push_front insert_by sort_by splice total occ all every blank up_to good? view packed names soundb burn may_program may_erase format_from
    clear_from find_from find invalidate forget old_page write_at write_page sorted outside finish_of drain collect_of collect used_by unless guarded clean
    formatting opening write collection
gainful =
    let f : InService A full = history.called unit_serves bad (put 8 4) (λ z. absurd z) in
    let some : 0 < (tab A unit).queued = omega arith in
    let w : negsuc 27 ≢ negsuc 21 = signs.unlike 27 21 (omega arith) in
    let u : negsuc 27 ≢ negsuc 116 = signs.unlike 27 116 (omega arith) in
    record {
      finishes = (collect_gains A bad gc unit {N = Old} some (record { left_is = refl; answer_is = refl })).0;
      spends =
          (write-takes A bad (zeros 4 ∷ zeros 4 ∷ []) unit {N = New} 8 4 (replicate 4 4) (record { left_is = refl; answer_is = refl })
          (signs.unlike_count 4 21)
          (signs.unlike_count 4 116)
          (signs.unlike_count 4 27)
          ).0;
      short = (full_only A bad gc full (record { left_is = refl; answer_is = refl })).0;
      exactly = room_exactly A bad gc f some {N = New} (record { left_is = refl; answer_is = refl }) w u;
      whenever =
          full_whenever A bad gc full {N = New} some (record { left_is = refl; answer_is = refl }) w u (signs.unlike 27 120 (omega arith)) (omega arith);
    }

-- why an accepted formatting is left out of `Ordinary`: it erases under the tables
format_breaks : MarkedIn A (after A bad Format unit) → ⊥
unfolding
    without push_front insert_by sort_by splice total occ all every blank up_to good? view packed names soundb burn may_program may_erase format_from
    clear_from find_from find invalidate forget old_page write_at write_page used_by unless guarded clean formatting opening write
format_breaks h = h 0 (λ e. absurd (let z : ◌≡◌ {A = ℕ} 2 0xFFFFFFFF = e in omega arith)) refl

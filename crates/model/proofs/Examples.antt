-- The marked examples of document 01, its trace, its limits, what its traps would get wrong, and 02's M-102 and M-109: a table; one for M-101's numbers; one for
-- M-111's sums. Each row's calls are run through the public entries, and an equation, by computation, says what every call of every row answers and all that
-- is left behind.
use Prim.Native.Nat.{ℕ, ◌+◌, ◌*◌, ◌-◌, ◌%◌}
use mathlib.Core.Path.{◌≡◌, refl}
use mathlib.Core.List.{List, [], ◌∷◌, ◌++◌, map}
use lib.IntN.{ℤ, pos, negsuc}
use lib.ListN.{get_or, set, length, take, replicate}
use Rattle.crc32.specs.Crc32.{plus, add, among, powers, low, remainder, bits_of, bits, digit, number as value_of, dividend, crc32}
use Rattle.model.specs.Lists.{without, push_front, insert_by, sort_by, splice, total, occ, all, every, blank, up_to, zeros}
use Rattle.model.specs.Numbers.{Geometry, geometry, Numbers, Old, New, number, good?, endless}
use Rattle.model.specs.Tables.{Tables, tables, tab_words, pages, view, packed}
use Rattle.model.specs.Sound.{names, soundb}
use Rattle.model.specs.Device.{Flash, flash, burn, may_program, may_erase, format_from}
use Rattle.model.specs.PageMap.{clear_from, find_from, find, invalidate, forget}
use Rattle.model.specs.PageWrite.{old_page, write_at, write_page}
use Rattle.model.specs.PageGc.{sorted, listed_of, outside, finish_of, drain, collect_of, collect, collect_more, collect_list, collect_threshold}
use Rattle.model.specs.Checkpoint.{used_by, word, long, words, word_at, long_at, words_at, head, file, reason_of, welcome, settle_all, restored, queue_dead, Empty, Dead}
use Rattle.model.specs.Entry.{Recorder, recorder, no_flash, unless, guarded, clean, formatting, opening, read, encoding, restoring, write}
use Rattle.model.specs.Entry.{collection, list_collection, threshold_collection}
use Rattle.model.specs.History.{Call, Format, Open, Read, Write, Collect, CollectList, CollectThreshold, Encode, Restore, run}

-- ---- rows

-- what is seen of a call: its answer, and the buffer that it was lent to fill (empty where it is lent none)
record Reply : Type 0 where
  answer : ℤ
  buffer : List ℕ

-- what is seen of a row: the replies, first to last, and at the end all words, all use marks, and the flash with its fuse
record Seen : Type 0 where
  replies : List Reply
  left : Recorder

-- a device and its bad list, the memory lent to it at first, the calls, and what is to be seen
record Row : Type 0 where
  device : Geometry
  bad : List ℕ
  start : Recorder
  calls : List (Geometry → Call)
  is : Seen

abbrev see : Numbers → Geometry → List ℕ → List (Geometry → Call) → Recorder → Seen
see N G bad [] r = record { replies = []; left = r }
see N G bad (c ∷ cs) r =
    let o = run G bad (c G) r in
    let rest = see N G bad cs o.left.unit in
    record { replies = record { answer = number N o.answer; buffer = o.left.buffer } ∷ rest.replies; left = rest.left }

seen : Numbers → Row → Seen
unfolding
    without push_front insert_by sort_by splice total occ all every blank up_to good? view packed names soundb burn may_program may_erase format_from
    clear_from find_from find invalidate forget old_page write_at write_page sorted finish_of drain collect_of collect collect_more collect_list
    collect_threshold used_by word long words word_at long_at words_at head file reason_of welcome settle_all restored queue_dead unless guarded clean formatting
    opening read encoding restoring write collection list_collection threshold_collection plus add among powers low remainder bits_of
    bits digit value_of dividend crc32
seen N r = see N r.device r.bad r.calls r.start

-- ---- what rows are written with

abbrev two : ℕ → ℕ → List ℕ
two a b = a ∷ b ∷ []

abbrev three : ℕ → ℕ → ℕ → List ℕ
three a b c = a ∷ b ∷ c ∷ []

abbrev four : ℕ → ℕ → ℕ → ℕ → List ℕ
four a b c d = a ∷ b ∷ c ∷ d ∷ []

abbrev six : ℕ → ℕ → ℕ → ℕ → ℕ → ℕ → List ℕ
six a b c d e f = a ∷ b ∷ c ∷ d ∷ e ∷ f ∷ []

-- each number four times: pages of four bytes
abbrev fill : List ℕ → List ℕ
fill [] = []
fill (x ∷ xs) = four x x x x ++ fill xs

-- an empty map word
abbrev none : ℕ
none = 0xFFFFFFFF

-- replies: a count; a refusal number; a count, or a refusal number, and what is in the buffer
abbrev moved : ℕ → Reply
moved m = record { answer = pos m; buffer = [] }

abbrev refused : ℕ → Reply
refused c = record { answer = negsuc (c - 1); buffer = [] }

abbrev shows : ℕ → List ℕ → Reply
shows m b = record { answer = pos m; buffer = b }

abbrev keeps : ℕ → List ℕ → Reply
keeps c b = record { answer = negsuc (c - 1); buffer = b }

-- The calls, each with scratch of the right sizes: len bytes of d put at a sector, all of d, a whole page of bytes x; bytes got into a buffer, or
-- into zeros; the three collections; a checkpoint into a buffer, or into 66 bytes of 9; a restore.
abbrev put_of : ℕ → ℕ → List ℕ → Geometry → Call
put_of len sector d G = Write sector len d (zeros G.s ∷ zeros (G.n + G.p) ∷ [])

abbrev put : ℕ → List ℕ → Geometry → Call
put sector d G = put_of (length d) sector d G

abbrev page : ℕ → ℕ → Geometry → Call
page l x G = put (l * G.s) (replicate G.s x) G

abbrev get_into : List ℕ → ℕ → ℕ → Geometry → Call
get_into b sector len G = Read sector len b (zeros (G.n + G.p) ∷ [])

abbrev get : ℕ → ℕ → Geometry → Call
get sector len G = get_into (zeros len) sector len G

abbrev scratch : Geometry → List (List ℕ)
scratch G = zeros G.s ∷ zeros (G.n + G.p) ∷ zeros G.n ∷ []

abbrev gc : Geometry → Call
gc G = Collect (scratch G)

abbrev gc_list : ℕ → Geometry → Call
gc_list m G = CollectList m (scratch G)

abbrev gc_below : ℕ → ℕ → Geometry → Call
gc_below threshold m G = CollectThreshold threshold m (scratch G)

abbrev save_into : List ℕ → Geometry → Call
save_into b G = Encode b (zeros (G.n + G.p) ∷ [])

abbrev save : Geometry → Call
save G = save_into (replicate 66 9) G

abbrev load : (Geometry → List ℕ) → Geometry → Call
load b G = Restore Empty (b G) (zeros (pages G) ∷ [])

abbrev load_dead : (Geometry → List ℕ) → Geometry → Call
load_dead b G = Restore Dead (b G) (zeros (pages G) ∷ [])

abbrev formats : Geometry → Call
formats G = Format

abbrev opens : Geometry → Call
opens G = Open

-- the file of this allocation segment, map and free counts; the same with its CRC spoiled; that of a fresh device
abbrev saved : ℕ → List ℕ → List ℕ → Geometry → List ℕ
saved alloc entries free G = file G alloc (entries ++ free)

abbrev spoiled : ℕ → List ℕ → List ℕ → Geometry → List ℕ
spoiled alloc entries free G = let b = saved alloc entries free G in set b 40 ((get_or b 40 0 + 1) % 256)

abbrev blank-file : Geometry → List ℕ
blank-file G = saved 0 (replicate G.e none) (replicate G.n G.p) G

-- "Device A: n 2, p 2, s 4, w 1, e 3, erase limit 5", with others of n, p, w and the limit, and of e too
abbrev like : (n p w e limit : ℕ) → Geometry
like n p w e limit = geometry n p 4 w e limit

abbrev like_A : (n p w limit : ℕ) → Geometry
like_A n p w limit = like n p w 3 limit

abbrev A : Geometry
A = like_A 2 2 1 5

abbrev A3 : Geometry
A3 = like_A 3 2 1 5

-- devices whose p is below 2^w, with two segments and with three
abbrev B : Geometry
B = like 2 3 2 4 5

abbrev B3 : Geometry
B3 = like 3 3 2 4 5

-- memory that holds these tables and this flash; memory all zero, with an endless fuse; zeroed tables, and erased flash with these marks and fuse
abbrev mem : Tables → Flash → Recorder
mem t f = recorder (packed t) t.used f

abbrev zeroed : Geometry → Recorder
zeroed G =
    recorder
    (zeros (tab_words G))
    (zeros (pages G))
    (flash (zeros (pages G * G.s)) (zeros (pages G)) (zeros G.n) endless)

abbrev over : Geometry → List ℕ → ℕ → Recorder
over G marks fuse = recorder (zeros (tab_words G)) (zeros (pages G)) (flash (replicate (pages G * G.s) 255) marks (zeros G.n) fuse)

-- a row; one of a device "fresh on formatted flash"; one with this bad list
abbrev row : Geometry → Recorder → List (Geometry → Call) → List Reply → Recorder → Row
row G r cs rs end = record { device = G; bad = zeros G.n; start = r; calls = cs; is = record { replies = rs; left = end } }

abbrev new : Geometry → List (Geometry → Call) → List Reply → Recorder → Row
new G cs rs end = row G (zeroed G) (formats ∷ opens ∷ cs) (moved 0 ∷ moved 0 ∷ rs) end

abbrev with_bad : List ℕ → Row → Row
with_bad b r = record { device = r.device; bad = b; start = r.start; calls = r.calls; is = r.is }

-- opening from zeroed tables of the right sizes, where the geometry is right and where it is wrong; no flash is lent
abbrev admits : Geometry → Row
admits G =
    row G (recorder (zeros (tab_words G)) (zeros (pages G)) no_flash)
    (opens ∷ [])
    (moved 0 ∷ [])
    (mem
    (tables (replicate G.e none) (replicate G.n G.p) (zeros G.n) (zeros (pages G)) (zeros (pages G)) (zeros G.n) (zeros G.n) (zeros G.n) 0 0)
    no_flash)

abbrev bars : Geometry → Row
bars G =
    let r = recorder (zeros (tab_words G)) (zeros (pages G)) no_flash in
    row G r (opens ∷ []) (refused 22 ∷ []) r

-- ---- memory that more than one row shows
-- Tables are written as map, free counts, valid counts, use marks, lists, their lengths, queue, flags, allocation segment, length of the queue;
-- flash as bytes, marks, erase counts, fuse.

-- device A fresh
untouched : Recorder
untouched =
    mem
    (tables (three none none none) (two 2 2) (two 0 0) (four 0 0 0 0) (four 0 0 0 0) (two 0 0) (two 0 0) (two 0 0) 0 0)
    (flash (fill (four 255 255 255 255)) (four 0 0 0 0) (two 0 0) endless)

-- and with its logical page 0 written, all bytes 1
started : Recorder
started =
    mem
    (tables (three 0 none none) (two 1 2) (two 1 0) (four 1 0 0 0) (four 0 0 0 0) (two 1 0) (two 0 0) (two 0 0) 0 0)
    (flash (fill (four 1 255 255 255)) (four 1 0 0 0) (two 0 0) endless)

-- E4: page 1 at address 1; segment 0 off the queue, its flag set
full : Recorder
full =
    mem
    (tables (three 3 1 2) (two 0 0) (two 1 2) (four 1 1 1 1) (four 1 0 2 0) (two 1 2) (two 0 0) (two 1 0) 1 0)
    (flash (fill (four 1 2 3 4)) (four 1 1 1 1) (two 0 0) endless)

-- E7, by these calls: the queue is 2, 1, and their valid counts are 1, 1; then with segment 2 collected; then with segment 1 as well
queueing : List (Geometry → Call)
queueing = page 0 1 ∷ page 1 2 ∷ page 2 3 ∷ page 0 4 ∷ gc ∷ page 2 5 ∷ page 1 6 ∷ []

queueing_replies : List Reply
queueing_replies = moved 4 ∷ moved 4 ∷ moved 4 ∷ moved 4 ∷ moved 0 ∷ moved 4 ∷ moved 4 ∷ []

both : Recorder
both =
    mem
    (tables (three 3 0 5) (three 1 0 0) (three 1 1 1) (six 1 0 1 1 1 1) (six 1 0 0 0 2 0) (three 1 1 1) (three 2 1 0) (three 0 1 1) 0 2)
    (flash (fill (six 6 255 3 4 2 5)) (six 1 0 1 1 1 1) (three 1 0 0) endless)

one : Recorder
one =
    mem
    (tables (three 3 0 1) (three 0 0 2) (three 2 1 0) (six 1 1 1 1 0 0) (six 1 2 0 0 0 0) (three 2 1 0) (three 1 0 0) (three 0 1 0) 0 1)
    (flash (fill (six 6 5 3 4 255 255)) (six 1 1 1 1 0 0) (three 1 0 1) endless)

neither : Recorder
neither =
    mem
    (tables (three 4 0 1) (three 0 2 1) (three 2 0 1) (six 1 1 0 0 1 0) (six 1 2 0 0 0 0) (three 2 0 1) (three 0 0 0) (three 0 0 0) 2 0)
    (flash (fill (six 6 5 255 255 4 255)) (six 1 1 0 0 1 0) (three 1 1 1) endless)

-- device A with no sense in its tables, and flash that was never formatted, with counts 3 and 4
litter : ℕ → Tables
litter alloc = tables (three 9 9 9) (two 9 9) (two 9 9) (four 9 9 9 9) (four 9 9 9 9) (two 9 9) (two 9 9) (two 9 9) alloc 9

worn : ℕ → Flash
worn fuse = flash (fill (four 7 7 7 7)) (four 1 1 1 1) (two 3 4) fuse

-- ---- the table

table : List Row
unfolding untouched started full queueing queueing_replies both one neither litter worn
table =
    -- formatted and opened
    new A [] [] untouched
    -- E1 length 0 at sector 0: answers 0; logical page 0 at address 0, four zero bytes
    ∷ new A
    (put 0 [] ∷ [])
    (moved 0 ∷ [])
    (mem
    (tables (three 0 none none) (two 1 2) (two 1 0) (four 1 0 0 0) (four 0 0 0 0) (two 1 0) (two 0 0) (two 0 0) 0 0)
    (flash (fill (four 0 255 255 255)) (four 1 0 0 0) (two 0 0) endless))
    -- E2 sector 1 length 3 accepted; length 4 gets 22
    ∷ new A
    (put 1 (three 7 7 7) ∷ [])
    (moved 3 ∷ [])
    (mem
    (tables (three 0 none none) (two 1 2) (two 1 0) (four 1 0 0 0) (four 0 0 0 0) (two 1 0) (two 0 0) (two 0 0) 0 0)
    (flash (four 0 7 7 7 ++ fill (three 255 255 255)) (four 1 0 0 0) (two 0 0) endless))
    ∷ new A (put 1 (four 7 7 7 7) ∷ []) (refused 22 ∷ []) untouched
    -- E3 sector 11 length 1 accepted; sector 12 gets 22
    ∷ new A
    (put 11 (9 ∷ []) ∷ [])
    (moved 1 ∷ [])
    (mem
    (tables (three none none 0) (two 1 2) (two 1 0) (four 1 0 0 0) (four 2 0 0 0) (two 1 0) (two 0 0) (two 0 0) 0 0)
    (flash (four 0 0 0 9 ++ fill (three 255 255 255)) (four 1 0 0 0) (two 0 0) endless))
    ∷ new A (put 12 (9 ∷ []) ∷ []) (refused 22 ∷ []) untouched
    -- E4 whole pages 0, 1, 2, 0 written, then collect: 14; page 1 still at address 1
    ∷ new A
    (page 0 1 ∷ page 1 2 ∷ page 2 3 ∷ page 0 4 ∷ gc ∷ [])
    (moved 4 ∷ moved 4 ∷ moved 4 ∷ moved 4 ∷ refused 14 ∷ [])
    full
    -- E5 collect again: 0, nothing changed
    ∷ new A
    (page 0 1 ∷ page 1 2 ∷ page 2 3 ∷ page 0 4 ∷ gc ∷ gc ∷ [])
    (moved 4 ∷ moved 4 ∷ moved 4 ∷ moved 4 ∷ refused 14 ∷ moved 0 ∷ [])
    full
    -- E6 p 3, w 2 instead; pages 0, 0, 1: segment 0 is full with a dead page, its first, and not queued
    ∷ new (like_A 2 3 2 5)
    (page 0 1 ∷ page 0 2 ∷ page 1 3 ∷ [])
    (moved 4 ∷ moved 4 ∷ moved 4 ∷ [])
    (mem
    (tables (three 1 2 none) (two 0 3) (two 2 0) (six 1 1 1 0 0 0) (six 0 1 0 0 0 0) (two 2 0) (two 0 0) (two 0 0) 0 0)
    (flash (fill (six 1 2 3 255 255 255)) (six 1 1 1 0 0 0) (two 0 0) endless))
    -- E7 n 3 instead; queue 2, 1 with equal valid counts: victim 2
    ∷ new A3 queueing queueing_replies both
    ∷ new A3 (queueing ++ (gc ∷ [])) (queueing_replies ++ (moved 0 ∷ [])) one
    -- from the list: no pass; one, counted; two, of which the one that drains the queue is not counted
    ∷ new A3 (queueing ++ (gc_list 0 ∷ [])) (queueing_replies ++ (moved 0 ∷ [])) both
    ∷ new A3 (queueing ++ (gc_list 1 ∷ [])) (queueing_replies ++ (moved 1 ∷ [])) one
    ∷ new A3 (queueing ++ (gc_list 2 ∷ [])) (queueing_replies ++ (moved 1 ∷ [])) neither
    ∷ new A3 (queueing ++ (gc_list 9 ∷ [])) (queueing_replies ++ (moved 1 ∷ [])) neither
    -- with a threshold: total free is 1, above 0 and not above 1
    ∷ new A3 (queueing ++ (gc_below 0 9 ∷ [])) (queueing_replies ++ (moved 0 ∷ [])) both
    ∷ new A3 (queueing ++ (gc_below 1 9 ∷ [])) (queueing_replies ++ (moved 1 ∷ [])) neither
    -- an erase refused, the limit being 0: all copied; victim off the queue, flag set, not reset
    ∷ new (like_A 2 2 1 0)
    (page 0 1 ∷ page 0 2 ∷ gc ∷ [])
    (moved 4 ∷ moved 4 ∷ refused 5 ∷ [])
    (mem
    (tables (three 2 none none) (two 0 1) (two 0 1) (four 1 1 1 0) (four 0 0 0 0) (two 0 1) (two 0 0) (two 1 0) 1 0)
    (flash (fill (four 1 2 2 255)) (four 1 1 1 0) (two 0 0) endless))
    -- E8 restore map 0, 0, 1 with free 1, 2: map 0, empty, empty
    ∷ new A
    (load (saved 0 (three 0 0 1) (two 1 2)) ∷ [])
    (moved 0 ∷ [])
    (mem
    (tables (three 0 none none) (two 1 2) (two 1 0) (four 1 0 0 0) (four 0 0 0 0) (two 1 0) (two 0 0) (two 0 0) 0 0)
    (flash (fill (four 255 255 255 255)) (four 0 0 0 0) (two 0 0) endless))
    -- E9 restore free 2 accepted, 3 gets reason 9; allocation segment 2 gets 8; with a bad CRC as well, 7
    ∷ new A
    (page 0 1 ∷ load (saved 1 (three none 2 none) (two 2 1)) ∷ [])
    (moved 4 ∷ moved 0 ∷ [])
    (mem
    (tables (three none 2 none) (two 2 1) (two 0 1) (four 0 0 1 0) (four 0 0 1 0) (two 0 1) (two 0 0) (two 0 0) 1 0)
    (flash (fill (four 1 255 255 255)) (four 1 0 0 0) (two 0 0) endless))
    ∷ new A (page 0 1 ∷ load (saved 1 (three none 2 none) (two 3 1)) ∷ []) (moved 4 ∷ refused 9 ∷ []) started
    ∷ new A (page 0 1 ∷ load (saved 2 (three none 2 none) (two 3 1)) ∷ []) (moved 4 ∷ refused 8 ∷ []) started
    ∷ new A (page 0 1 ∷ load (spoiled 2 (three none 2 none) (two 3 1)) ∷ []) (moved 4 ∷ refused 7 ∷ []) started
    -- 02, M-109: "each segment with free count 0 and a list shorter than p on the queue, ascending, flags set"
    ∷ new A3
    (load_dead (saved 2 (three 0 none 4) (three 0 0 0)) ∷ [])
    (moved 0 ∷ [])
    (mem
    (tables (three 0 none 4) (three 0 0 0) (three 1 0 1) (six 1 1 1 1 1 1) (six 0 0 0 0 2 0) (three 1 0 1) (three 0 1 2) (three 1 1 1) 2 3)
    (flash (fill (six 255 255 255 255 255 255)) (six 0 0 0 0 0 0) (three 0 0 0) endless))
    -- not one that is full and live, nor one with a dead page and a free one
    ∷ new A3
    (load_dead (saved 0 (three 2 3 0) (three 0 0 1)) ∷ [])
    (moved 0 ∷ [])
    (mem
    (tables (three 2 3 0) (three 0 0 1) (three 1 2 0) (six 1 1 1 1 1 0) (six 2 0 0 1 0 0) (three 1 2 0) (three 0 0 0) (three 1 0 0) 0 1)
    (flash (fill (six 255 255 255 255 255 255)) (six 0 0 0 0 0 0) (three 0 0 0) endless))
    -- a reason leaves all, under this choice too
    ∷ new A (page 0 1 ∷ load_dead (saved 1 (three none 2 none) (two 3 1)) ∷ []) (moved 4 ∷ refused 9 ∷ []) started
    -- E4's victim, off the queue since its refused collection, is queued again, and taken by the next one; by the old choice E5's 0 stays
    ∷ new A
    (page 0 1 ∷ page 1 2 ∷ page 2 3 ∷ page 0 4 ∷ gc ∷ load_dead (saved 1 (three 3 1 2) (two 0 0)) ∷ gc ∷ load (saved 1 (three 3 1 2) (two 0 0)) ∷ gc ∷ [])
    (moved 4 ∷ moved 4 ∷ moved 4 ∷ moved 4 ∷ refused 14 ∷ moved 0 ∷ refused 14 ∷ moved 0 ∷ moved 0 ∷ [])
    (mem
    (tables (three 3 1 2) (two 0 0) (two 1 2) (four 1 1 1 1) (four 1 0 0 2) (two 1 2) (two 0 0) (two 0 0) 1 0)
    (flash (fill (four 1 2 3 4)) (four 1 1 1 1) (two 0 0) endless))
    -- E6's segment, full with a dead page and not queued, is queued, and collected
    ∷ new (like_A 2 3 2 5)
    (page 0 1 ∷ page 0 2 ∷ page 1 3 ∷ load_dead (saved 0 (three 1 2 none) (two 0 3)) ∷ gc ∷ [])
    (moved 4 ∷ moved 4 ∷ moved 4 ∷ moved 0 ∷ moved 0 ∷ [])
    (mem
    (tables (three 5 4 none) (two 3 1) (two 0 2) (six 0 0 0 1 1 0) (six 0 0 0 1 0 0) (two 0 2) (two 0 0) (two 0 0) 1 0)
    (flash (fill (six 255 255 255 3 2 255)) (six 0 0 0 1 1 0) (two 1 0) endless))
    -- E10 checkpoint of A: 64 bytes; the buffer's two beyond stay
    ∷ new A
    (save ∷ [])
    (shows 64
    (four 0x43 0x54 0x46 0x50 ++ four 1 0 0 0
    ++ four 0 0 0 0 ++ four 0 0 0 0 ++ four 2 0 0 0 ++ four 0 0 0 0 ++ four 2 0 0 0 ++ four 0 0 0 0 ++ four 3 0 0 0 ++ four 0 0 0 0
    ++ four 0xA7 0xD4 0x8E 0xA2
    ++ four 255 255 255 255 ++ four 255 255 255 255 ++ four 255 255 255 255 ++ four 2 0 0 0 ++ four 2 0 0 0 ++ two 9 9)
    ∷ [])
    untouched
    -- the trace; its map is 1.1 1.0 -
    ∷ new (like_A 3 2 1 10)
    (put 0 (two 0x61 0x62) ∷ put 1 (0x63 ∷ []) ∷ put 4 (four 0x77 0x78 0x79 0x7A) ∷ gc ∷ get 0 4 ∷ put 12 (0x21 ∷ []) ∷ [])
    (moved 2 ∷ moved 1 ∷ moved 4 ∷ moved 0 ∷ shows 4 (four 0x61 0x63 0 0) ∷ refused 22 ∷ [])
    (mem
    (tables (three 3 2 none) (three 2 0 2) (three 0 2 0) (six 0 0 1 1 0 0) (six 0 0 1 0 0 0) (three 0 2 0) (three 0 0 0) (three 0 0 0) 1 0)
    (flash
    (fill (two 255 255) ++ four 0x77 0x78 0x79 0x7A ++ four 0x61 0x63 0 0 ++ fill (two 255 255))
    (six 0 0 1 1 0 0) (three 1 0 0) endless))
    -- 02, M-102: after old checkpoints are restored (the files of the first write and of before it), page 0 of segment 0 is clear and page 1 is not: the
    -- write is refused, and its page is spent
    ∷ new A
    (page 0 1 ∷ page 0 2 ∷ gc ∷ load (saved 0 (three 0 none none) (two 1 2)) ∷ page 0 3 ∷ load (saved 0 (three none none none) (two 2 2)) ∷ page 0 4 ∷ [])
    (moved 4 ∷ moved 4 ∷ moved 0 ∷ moved 0 ∷ moved 4 ∷ moved 0 ∷ refused 5 ∷ [])
    (mem
    (tables (three none none none) (two 1 2) (two 1 0) (four 1 0 0 0) (four 0 0 0 0) (two 0 0) (two 0 0) (two 0 0) 0 0)
    (flash (fill (four 255 3 2 255)) (four 0 1 1 0) (two 1 0) endless))
    -- a page whose own mark is set is refused and spent; the next one, with a mark below it and none above, is programmed
    ∷ row A (over A (four 1 0 0 0) endless)
    (opens ∷ page 0 1 ∷ page 0 2 ∷ [])
    (moved 0 ∷ refused 5 ∷ moved 4 ∷ [])
    (mem
    (tables (three 1 none none) (two 0 2) (two 2 0) (four 1 1 0 0) (four 0 0 0 0) (two 1 0) (two 0 0) (two 0 0) 0 0)
    (flash (fill (four 255 2 255 255)) (four 1 1 0 0) (two 0 0) endless))
    -- "A nonzero programmed mark counts as set", on the higher page too; a segment that refused programmings fill is not queued; another
    -- segment's marks do not count
    ∷ row A (over A (four 0 7 0 0) endless)
    (opens ∷ page 0 1 ∷ page 0 2 ∷ gc ∷ page 0 3 ∷ [])
    (moved 0 ∷ refused 5 ∷ refused 5 ∷ moved 0 ∷ moved 4 ∷ [])
    (mem
    (tables (three 2 none none) (two 0 1) (two 2 1) (four 1 1 1 0) (four 0 0 0 0) (two 0 1) (two 0 0) (two 0 0) 1 0)
    (flash (fill (four 255 255 3 255)) (four 0 7 1 0) (two 0 0) endless))
    -- a copy refused for its order spends its page and is the collection's 14
    ∷ row B (over B (six 0 0 0 0 0 2) endless)
    (opens ∷ page 0 1 ∷ page 1 2 ∷ page 0 3 ∷ gc ∷ [])
    (moved 0 ∷ moved 4 ∷ moved 4 ∷ moved 4 ∷ refused 14 ∷ [])
    (mem
    (tables (four 2 1 none none) (two 0 2) (two 2 1) (six 1 1 1 1 0 0) (six 1 0 0 0 0 0) (two 2 0) (two 0 0) (two 1 0) 1 0)
    (flash (fill (six 1 2 3 255 255 255)) (six 1 1 1 0 0 2) (two 0 0) endless))
    -- order and fuse at once: one refusal
    ∷ row A (over A (four 0 1 0 0) 0)
    (opens ∷ page 0 1 ∷ [])
    (moved 0 ∷ refused 5 ∷ [])
    (mem
    (tables (three none none none) (two 1 2) (two 1 0) (four 1 0 0 0) (four 0 0 0 0) (two 0 0) (two 0 0) (two 0 0) 0 0)
    (flash (fill (four 255 255 255 255)) (four 0 1 0 0) (two 0 0) 0))
    -- p = 1: no page is higher
    ∷ row (like 2 1 0 1 5) (over (like 2 1 0 1 5) (two 0 1) endless)
    (opens ∷ page 0 1 ∷ page 0 2 ∷ [])
    (moved 0 ∷ moved 4 ∷ refused 5 ∷ [])
    (mem
    (tables (0 ∷ []) (two 0 0) (two 1 1) (two 1 1) (two 0 0) (two 1 0) (two 0 0) (two 0 0) 1 0)
    (flash (fill (two 1 255)) (two 1 1) (two 0 0) endless))
    -- a read past its page's end gets 22, mapped or not; an unmapped page 61; over unsound tables 117
    ∷ new A (get 1 4 ∷ get 0 4 ∷ []) (keeps 22 (zeros 4) ∷ keeps 61 (zeros 4) ∷ []) untouched
    ∷ row A (mem (litter 1) (worn endless)) (get 0 4 ∷ []) (keeps 117 (zeros 4) ∷ []) (mem (litter 1) (worn endless))
    -- opening keeps an allocation segment below n and sets another to 0; it leaves the flash
    ∷ row A (mem (litter 1) (worn endless))
    (opens ∷ [])
    (moved 0 ∷ [])
    (mem
    (tables (three none none none) (two 2 2) (two 0 0) (four 0 0 0 0) (four 0 0 0 0) (two 0 0) (two 0 0) (two 0 0) 1 0)
    (worn endless))
    ∷ row A (mem (litter 5) (worn endless))
    (opens ∷ [])
    (moved 0 ∷ [])
    (mem
    (tables (three none none none) (two 2 2) (two 0 0) (four 0 0 0 0) (four 0 0 0 0) (two 0 0) (two 0 0) (two 0 0) 0 0)
    (worn endless))
    -- formatting with fuse 1: segment 1 keeps its bytes, marks and count; tables stay
    ∷ row A (mem (litter 1) (worn 1))
    (formats ∷ [])
    (moved 0 ∷ [])
    (mem (litter 1) (flash (fill (four 255 255 7 7)) (four 0 0 1 1) (two 0 4) 0))
    -- "A nonzero programmed mark counts as set": 2 on page 0.0 gets 5, "the page found is spent"; "stably sorted by valid count": queue 2, 1, 0,
    -- where the valid counts are 2, 1, 1 and the lists' lengths 2, 1, 0, has victim 1; no room is 14 for a copy and for a write
    ∷ row B3 (over B3 (three 2 0 0 ++ six 0 0 0 0 0 0) endless)
    (opens ∷ page 0 2 ∷ page 0 3 ∷ page 0 4 ∷ page 0 6 ∷ page 3 7 ∷ page 3 8 ∷ page 2 9 ∷ page 3 10 ∷ page 2 11 ∷ gc ∷ page 3 13 ∷ [])
    (moved 0 ∷ refused 5 ∷ moved 4 ∷ moved 4 ∷ moved 4 ∷ moved 4 ∷ moved 4 ∷ moved 4 ∷ moved 4 ∷ moved 4 ∷ refused 14 ∷ refused 14 ∷ [])
    (mem
    (tables (four 4 none 10 9) (three 0 0 0) (three 1 1 2) (replicate 9 1) (six 0 0 0 0 0 0 ++ three 3 2 0) (three 0 1 2) (three 0 2 0) (three 1 1 1) 2 2)
    (flash (fill (three 255 3 4 ++ six 6 7 8 9 10 11)) (six 2 1 1 1 1 1 ++ three 1 1 1) (three 0 0 0) endless))
    -- "passing bad segments": one marked 9; of a victim's two pages "its last logical page" is copied first, then the other; addresses g·2^w + k
    ∷ with_bad (three 0 9 0)
    (new B3
    (page 0 2 ∷ page 2 3 ∷ page 1 4 ∷ page 0 5 ∷ gc ∷ page 1 9 ∷ [])
    (moved 4 ∷ moved 4 ∷ moved 4 ∷ moved 4 ∷ moved 0 ∷ moved 4 ∷ [])
    (mem
    (tables (four 8 0 10 none) (three 2 3 0) (three 1 0 2) (three 1 0 0 ++ six 0 0 0 1 1 1) (six 1 0 0 0 0 0 ++ three 0 2 0) (three 1 0 2) (three 2 0 0) (three 0 0 1) 0 1)
    (flash (fill (three 9 255 255 ++ six 255 255 255 5 4 3)) (six 1 0 0 0 0 0 ++ three 1 1 1) (three 1 0 0) endless)))
    -- fuse 4: "Each one done .. lowers" it, one refused does not; "a copy's 5 spends its page" and is the collection's 14, from the list too
    ∷ row B (over B (six 2 0 0 0 0 0) 4)
    (opens ∷ page 3 9 ∷ page 3 2 ∷ page 1 3 ∷ page 1 10 ∷ page 0 11 ∷ gc_list 3 ∷ [])
    (moved 0 ∷ refused 5 ∷ moved 4 ∷ moved 4 ∷ moved 4 ∷ moved 4 ∷ refused 14 ∷ [])
    (mem
    (tables (four 5 4 none 1) (two 0 0) (two 2 3) (six 1 1 1 1 1 1) (six 3 0 0 1 0 0) (two 1 2) (two 0 0) (two 1 0) 1 0)
    (flash (fill (six 255 2 3 10 11 255)) (six 2 1 1 1 1 0) (two 0 0) 0))
    -- "total free (all segments)", the bad one too
    ∷ with_bad (two 9 0)
    (new (like 2 2 2 2 5)
    (page 0 1 ∷ page 0 2 ∷ gc_below 0 2 ∷ gc_below 1 2 ∷ [])
    (moved 4 ∷ moved 4 ∷ moved 0 ∷ moved 0 ∷ [])
    (mem
    (tables (two 5 none) (two 2 0) (two 0 1) (four 0 0 1 1) (four 0 0 0 0) (two 0 1) (two 1 0) (two 0 1) 1 1)
    (flash (fill (four 255 255 1 2)) (four 0 0 1 1) (two 0 0) endless)))
    -- "reset the record": the valid count is 0 again, though a spent page had it above the list's length
    ∷ row B (over B (six 2 0 0 0 0 0) endless)
    (opens ∷ page 0 4 ∷ page 0 5 ∷ page 0 6 ∷ gc_list 3 ∷ [])
    (moved 0 ∷ refused 5 ∷ moved 4 ∷ moved 4 ∷ moved 0 ∷ [])
    (mem
    (tables (four 4 none none none) (two 3 2) (two 0 1) (six 0 0 0 1 0 0) (six 0 0 0 0 0 0) (two 0 1) (two 0 0) (two 0 0) 1 0)
    (flash (fill (six 255 255 255 6 255 255)) (six 0 0 0 1 0 0) (two 1 0) endless))
    -- "bytes at the offset of the mapped page"; "bytes of a read's buffer beyond the length stay"; logical page e gets 22
    ∷ new A
    (put 0 (four 1 2 3 4) ∷ get_into (four 9 9 9 9) 1 2 ∷ get 12 1 ∷ [])
    (moved 4 ∷ shows 2 (four 2 3 9 9) ∷ keeps 22 (zeros 1) ∷ [])
    (mem
    (tables (three 0 none none) (two 1 2) (two 1 0) (four 1 0 0 0) (four 0 0 0 0) (two 1 0) (two 0 0) (two 0 0) 0 0)
    (flash (four 1 2 3 4 ++ fill (three 255 255 255)) (four 1 0 0 0) (two 0 0) endless))
    -- "in this order": reasons 1 to 6, each where the next holds too
    ∷ new A
    (load (λ _. zeros 43)
    ∷ load (λ G. set (set (blank-file G) 0 0) 4 2)
    ∷ load (λ _. set (blank-file (like 3 2 1 2 5)) 4 2)
    ∷ load (λ _. blank-file (like 3 2 1 2 5))
    ∷ load (λ _. blank-file (like 2 3 2 2 5))
    ∷ load (λ _. blank-file (like 2 2 1 2 5))
    ∷ load (λ G. spoiled 0 (three none none none) (two 2 2) G ++ (0 ∷ []))
    ∷ [])
    (refused 1 ∷ refused 2 ∷ refused 3 ∷ refused 4 ∷ refused 4 ∷ refused 5 ∷ refused 6 ∷ [])
    untouched
    -- "Lists are ascending, valid = list length, queue empty, flags clear": over tables with a queue; a full segment of dead pages
    ∷ new A3
    (page 0 1 ∷ page 0 2 ∷ load (saved 1 (three 3 2 none) (three 2 0 0)) ∷ [])
    (moved 4 ∷ moved 4 ∷ moved 0 ∷ [])
    (mem
    (tables (three 3 2 none) (three 2 0 0) (three 0 2 0) (six 0 0 1 1 1 1) (six 0 0 0 1 0 0) (three 0 2 0) (three 0 0 0) (three 0 0 0) 1 0)
    (flash (fill (six 1 2 255 255 255 255)) (six 1 1 0 0 0 0) (three 0 0 0) endless))
    -- "Order: .. soundness, logical page, page overrun": 117 of every entry that tests soundness
    ∷ row A (mem (litter 1) (worn endless))
    (put 12 (9 ∷ []) ∷ gc ∷ gc_list 1 ∷ gc_below 0 1 ∷ save ∷ get 12 9 ∷ [])
    (refused 117 ∷ refused 117 ∷ refused 117 ∷ refused 117 ∷ keeps 117 (replicate 66 9) ∷ keeps 117 (zeros 9) ∷ [])
    (mem (litter 1) (worn endless))
    -- "Formatting erases every segment, whatever its count": 5 is the limit; a wrong lent size: "scratch not all zero", data, a read's buffer and a
    -- checkpoint's that are too short; of longer data two bytes are laid in
    ∷ row A (mem (litter 1) (flash (fill (four 7 7 7 7)) (four 1 1 1 1) (two 5 6) endless))
    (formats ∷ opens
    ∷ (λ G. Write 0 2 (two 7 8) ((1 ∷ zeros 3) ∷ zeros (G.n + G.p) ∷ []))
    ∷ put_of 2 0 (7 ∷ [])
    ∷ put_of 2 0 (three 7 8 9)
    ∷ get_into (7 ∷ []) 0 2
    ∷ save_into (replicate 63 9)
    ∷ [])
    (moved 0 ∷ moved 0 ∷ refused 22 ∷ refused 22 ∷ moved 2 ∷ keeps 22 (7 ∷ []) ∷ keeps 22 (replicate 63 9) ∷ [])
    (mem
    (tables (three 2 none none) (two 2 1) (two 0 1) (four 0 0 1 0) (four 0 0 0 0) (two 0 1) (two 0 0) (two 0 0) 1 0)
    (flash (fill (two 255 255) ++ four 7 8 0 0 ++ fill (255 ∷ [])) (four 0 0 1 0) (two 0 0) endless))
    -- "n segments (1 to 65,535), p pages in each (1 to 1,024)", s, w, e and the limit: the least; the greatest but n; one more than each; s 0 and e 0
    ∷ admits (geometry 1 1 1 0 1 0)
    ∷ admits (geometry 1 2 16384 1 2 0xFFFFFFFF)
    ∷ admits (geometry 1 1024 1 16 1 0)
    ∷ map bars
    (geometry 65536 1 1 0 1 0
    ∷ geometry 1 1025 1 16 1 0
    ∷ geometry 1 1 16385 0 1 0
    ∷ geometry 1 1 1 17 1 0
    ∷ geometry 1 2 1 0 1 0
    ∷ geometry 1 1 1 0 2 0
    ∷ geometry 1 1 1 0 1 0x100000000
    ∷ geometry 1 1 0 0 1 0
    ∷ geometry 1 1 1 0 0 0
    ∷ [])

examples : map (seen Old) table ≡ map (λ r. r.is) table
unfolding seen table
examples = refl

-- ---- 02, M-101: the new numbers

-- a collection whose copy meets a mark; one whose erase is at its limit
copy_marked : (Geometry → Call) → Row
copy_marked c =
    row B (over B (six 0 0 0 0 0 2) endless)
    (opens ∷ page 0 1 ∷ page 1 2 ∷ page 0 3 ∷ c ∷ [])
    (moved 0 ∷ moved 4 ∷ moved 4 ∷ moved 4 ∷ refused 121 ∷ [])
    (mem
    (tables (four 2 1 none none) (two 0 2) (two 2 1) (six 1 1 1 1 0 0) (six 1 0 0 0 0 0) (two 2 0) (two 0 0) (two 1 0) 1 0)
    (flash (fill (six 1 2 3 255 255 255)) (six 1 1 1 0 0 2) (two 0 0) endless))

worn_out : (Geometry → Call) → Row
worn_out c =
    new (like_A 2 2 1 0)
    (page 0 1 ∷ page 0 2 ∷ c ∷ [])
    (moved 4 ∷ moved 4 ∷ refused 5 ∷ [])
    (mem
    (tables (three 2 none none) (two 0 1) (two 0 1) (four 1 1 1 0) (four 0 0 0 0) (two 0 1) (two 0 0) (two 1 0) 1 0)
    (flash (fill (four 1 2 2 255)) (four 1 1 1 0) (two 0 0) endless))

told_table : List Row
unfolding full litter worn copy_marked worn_out
told_table =
    -- E4: the collection whose copy finds no room gets 28, called by itself, from the list and by a threshold; so does a write then
    new A
    (page 0 1 ∷ page 1 2 ∷ page 2 3 ∷ page 0 4 ∷ gc ∷ page 0 5 ∷ [])
    (moved 4 ∷ moved 4 ∷ moved 4 ∷ moved 4 ∷ refused 28 ∷ refused 28 ∷ [])
    full
    ∷ new A
    (page 0 1 ∷ page 1 2 ∷ page 2 3 ∷ page 0 4 ∷ gc_list 3 ∷ put 0 [] ∷ [])
    (moved 4 ∷ moved 4 ∷ moved 4 ∷ moved 4 ∷ refused 28 ∷ refused 28 ∷ [])
    full
    ∷ new A
    (page 0 1 ∷ page 1 2 ∷ page 2 3 ∷ page 0 4 ∷ gc_below 0 3 ∷ [])
    (moved 4 ∷ moved 4 ∷ moved 4 ∷ moved 4 ∷ refused 28 ∷ [])
    full
    -- a copy that meets a marked page gets 121, by a threshold too, and spends its page
    ∷ copy_marked gc
    ∷ copy_marked (gc_below 3 3)
    -- so does one that the fuse refuses, from the list; a write that the device refuses gets 5
    ∷ row B (over B (six 2 0 0 0 0 0) 4)
    (opens ∷ page 3 9 ∷ page 3 2 ∷ page 1 3 ∷ page 1 10 ∷ page 0 11 ∷ gc_list 3 ∷ [])
    (moved 0 ∷ refused 5 ∷ moved 4 ∷ moved 4 ∷ moved 4 ∷ moved 4 ∷ refused 121 ∷ [])
    (mem
    (tables (four 5 4 none 1) (two 0 0) (two 2 3) (six 1 1 1 1 1 1) (six 3 0 0 1 0 0) (two 1 2) (two 0 0) (two 1 0) 1 0)
    (flash (fill (six 255 2 3 10 11 255)) (six 2 1 1 1 1 0) (two 0 0) 0))
    -- an erase at its limit gets 5, called in each way
    ∷ worn_out gc
    ∷ worn_out (gc_list 3)
    ∷ worn_out (gc_below 9 3)
    -- all segments bad, though pages are free: 28 where the victim has a listed page, 0 where it has none; a write gets 28
    ∷ with_bad (two 9 9)
    (row A
    (mem
    (tables (three 1 none none) (two 0 2) (two 1 0) (four 1 1 0 0) (four 0 0 0 0) (two 1 0) (two 0 0) (two 1 0) 0 1)
    (flash (fill (four 1 2 255 255)) (four 1 1 0 0) (two 0 0) endless))
    (gc ∷ page 1 3 ∷ [])
    (refused 28 ∷ refused 28 ∷ [])
    (mem
    (tables (three 1 none none) (two 0 2) (two 1 0) (four 1 1 0 0) (four 0 0 0 0) (two 1 0) (two 0 0) (two 1 0) 0 0)
    (flash (fill (four 1 2 255 255)) (four 1 1 0 0) (two 0 0) endless)))
    ∷ with_bad (two 9 9)
    (row A
    (mem
    (tables (three none none none) (two 0 2) (two 0 0) (four 1 1 0 0) (four 0 0 0 0) (two 0 0) (two 0 0) (two 1 0) 0 1)
    (flash (fill (four 1 2 255 255)) (four 1 1 0 0) (two 0 0) endless))
    (gc ∷ [])
    (moved 0 ∷ [])
    (mem
    (tables (three none none none) (two 2 2) (two 0 0) (four 0 0 0 0) (four 0 0 0 0) (two 0 0) (two 0 0) (two 0 0) 0 0)
    (flash (fill (four 255 255 255 255)) (four 0 0 0 0) (two 1 0) endless)))
    -- the tests' numbers, and a count of 28, are the old ones
    ∷ row A (mem (litter 1) (worn endless))
    (put 12 (9 ∷ []) ∷ gc ∷ opens ∷ put 12 (9 ∷ []) ∷ put 1 (four 7 7 7 7) ∷ get 0 4 ∷ [])
    (refused 117 ∷ refused 117 ∷ moved 0 ∷ refused 22 ∷ refused 22 ∷ keeps 61 (zeros 4) ∷ [])
    (mem
    (tables (three none none none) (two 2 2) (two 0 0) (four 0 0 0 0) (four 0 0 0 0) (two 0 0) (two 0 0) (two 0 0) 1 0)
    (worn endless))
    ∷ new (geometry 1 1 28 0 1 0)
    (page 0 3 ∷ [])
    (moved 28 ∷ [])
    (mem
    (tables (0 ∷ []) (0 ∷ []) (1 ∷ []) (1 ∷ []) (0 ∷ []) (1 ∷ []) (0 ∷ []) (0 ∷ []) 0 0)
    (flash (replicate 28 3) (1 ∷ []) (0 ∷ []) endless))
    ∷ []

examples_told : map (seen New) told_table ≡ map (λ r. r.is) told_table
unfolding seen told_table
examples_told = refl

-- ---- 02, M-111: what a pass gains

-- what is seen of one collection: the victim's listed pages, the free pages outside the bad list and in all; its answer in the new numbers; the same two then
record Gain : Type 0 where
  listed : ℕ
  room : ℕ
  all_free : ℕ
  reply : ℤ
  room_then : ℕ
  all_then : ℕ

record Pass : Type 0 where
  device : Geometry
  bad : List ℕ
  start : Recorder
  is : Gain

gains : Pass → Gain
unfolding
    without push_front insert_by sort_by splice total occ all every blank up_to good? view packed names soundb burn may_program may_erase clear_from find_from find
    invalidate forget old_page write_at write_page sorted outside finish_of drain collect_of collect unless guarded clean collection
gains x =
    let G = x.device in
    let t = view G x.start.words x.start.used in
    let o = run G x.bad (gc G) x.start in
    let t' = view G o.left.unit.words o.left.unit.used in
    record {
      listed = listed_of t;
      room = outside x.bad t.free;
      all_free = total t.free;
      reply = number New o.answer;
      room_then = outside x.bad t'.free;
      all_then = total t'.free;
    }

-- device B3: segment 0 is queued, with k listed pages and this valid count; segments 1 and 2 have f and f' free pages, and no mapped one
abbrev queued_one : (k valid f f' : ℕ) → Tables
queued_one k valid f f' =
    tables (take k (three 0 1 2) ++ replicate (4 - k) none) (three 0 f f') (three valid 0 0)
    (three 1 1 1 ++ (replicate (3 - f) 1 ++ (zeros f ++ (replicate (3 - f') 1 ++ zeros f')))) (take k (three 0 1 2) ++ zeros (9 - k)) (three k 0 0) (three 0 0 0)
    (three 1 0 0) 0 1

-- over it flash with these marks, every byte 7
abbrev pass_of : (limit : ℕ) → List ℕ → Tables → List ℕ → Gain → Pass
pass_of limit bad t marks g =
    record { device = like 3 3 2 4 limit; bad = bad; start = mem t (flash (replicate 36 7) marks (three 0 0 0) endless); is = g }

abbrev gain : (listed room all_free : ℕ) → ℤ → (room_then all_then : ℕ) → Gain
gain l r a z r' a' = record { listed = l; room = r; all_free = a; reply = z; room_then = r'; all_then = a' }

gain_table : List Pass
gain_table =
    -- "raises total free pages by exactly p - v": v is 1, the valid count 2
    pass_of 5 (three 0 0 0) (queued_one 1 2 3 0) (three 1 1 1 ++ six 0 0 0 1 1 1) (gain 1 3 3 (pos 0) 5 5)
    -- v is 0: p; v is p: nothing
    ∷ pass_of 5 (three 0 0 0) (queued_one 0 0 0 0) (replicate 9 1) (gain 0 0 0 (pos 0) 3 3)
    ∷ pass_of 5 (three 0 0 0) (queued_one 3 3 3 0) (three 1 1 1 ++ six 0 0 0 1 1 1) (gain 3 3 3 (pos 0) 3 3)
    -- "the free pages of segments outside the bad list": one, with three more in a bad segment. "fewer than v", which is 2: no room, and none is left
    ∷ pass_of 5 (three 0 9 0) (queued_one 2 2 3 1) (three 1 1 1 ++ six 0 0 0 1 1 0) (gain 2 1 4 (negsuc 27) 0 3)
    -- two of them are not fewer
    ∷ pass_of 5 (three 0 9 0) (queued_one 2 2 3 2) (three 1 1 1 ++ six 0 0 0 1 0 0) (gain 2 2 5 (pos 0) 3 6)
    -- "If the device refuses nothing": it refuses the first copy, for a mark, and there are fewer than v
    ∷ pass_of 5 (three 0 9 0) (queued_one 2 2 3 1) (three 1 1 1 ++ six 0 0 0 1 1 1) (gain 2 1 4 (negsuc 120) 0 3)
    -- it refuses the erase: v pages are spent
    ∷ pass_of 0 (three 0 9 0) (queued_one 2 2 3 2) (three 1 1 1 ++ six 0 0 0 1 0 0) (gain 2 2 5 (negsuc 4) 0 3)
    -- the victim is bad: p - v in all, and v less outside the bad list
    ∷ pass_of 5 (three 9 0 0) (queued_one 1 1 3 0) (three 1 1 1 ++ six 0 0 0 1 1 1) (gain 1 3 3 (pos 0) 2 5)
    ∷ []

examples_gains : map gains gain_table ≡ map (λ x. x.is) gain_table
unfolding gains gain_table
examples_gains = refl

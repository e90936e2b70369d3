-- All that the program writes on the 34 traces of tests/traces.txt, one table by computation: 01's example, the three ways to stop, restores with
-- and without a checkpoint, and the limits of the header, of a number and of a read. Too long an input is a theorem besides, `too_long`.
use Prim.Native.Nat.{ℕ, ◌<◌}
use mathlib.Core.Path.{◌≡◌, refl}
use mathlib.Core.List.{List, [], ◌∷◌, ◌++◌, map}
use lib.ListN.{length, replicate}
use borrow.Author.Tests.{lt-ltb}
use Rattle.crc32.specs.Crc32.{plus, add, among, powers, low, remainder, bits_of, bits, digit, number as value_of, dividend, crc32}
use Rattle.model.specs.Lists.{without, push_front, insert_by, sort_by, splice, total, occ, all, every, blank, up_to}
use Rattle.model.specs.Numbers.{good?}
use Rattle.model.specs.Tables.{view, packed}
use Rattle.model.specs.Sound.{names, soundb}
use Rattle.model.specs.Device.{burn, may_program, may_erase, format_from}
use Rattle.model.specs.PageMap.{clear_from, find_from, find, invalidate, forget}
use Rattle.model.specs.PageWrite.{old_page, write_at, write_page}
use Rattle.model.specs.PageGc.{sorted, finish_of, drain, collect_of, collect, collect_more, collect_list}
use Rattle.model.specs.Checkpoint.{used_by, word, long, words, word_at, long_at, words_at, head, file, reason_of, welcome, settle_all, restored, queue_dead}
use Rattle.model.specs.Entry.{unless, guarded, clean, formatting, opening, read, encoding, restoring, write, collection, list_collection}
use Rattle.numbers.specs.Groups.{longer, groups}
use Rattle.records.specs.Trace.{marking, front, header, write_record, read_record, list_record, record_of}
use Rattle.lines.specs.Text.{digits, hex}
use Rattle.deeds.specs.Output.{stopped, entries, lines, output}

-- ---- what rows are written with

-- a trace, and all that the program writes
record Row : Type 0 where
  input : List ℕ
  text : List ℕ

abbrev row : List ℕ → List ℕ → Row
row i t = record { input = i; text = t }

-- 01's device, "03 02 04 01 03 0A 00", and records
abbrev device : List ℕ → List ℕ
device records = 3 ∷ 2 ∷ 4 ∷ 1 ∷ 3 ∷ 10 ∷ 0 ∷ records

-- a list collection of a number whose groups but the last are nine times x
abbrev list_of : ℕ → List ℕ → List ℕ
list_of x last = 3 ∷ x ∷ x ∷ x ∷ x ∷ x ∷ x ∷ x ∷ x ∷ x ∷ last

-- "t !1", "t !2", "t !3"
abbrev t_1 : List ℕ
t_1 = 116 ∷ 32 ∷ 33 ∷ 49 ∷ 10 ∷ []

abbrev t_2 : List ℕ
t_2 = 116 ∷ 32 ∷ 33 ∷ 50 ∷ 10 ∷ []

abbrev t_3 : List ℕ
t_3 = 116 ∷ 32 ∷ 33 ∷ 51 ∷ 10 ∷ []

-- "m -", "m - -", "m - - -"
abbrev m_1 : List ℕ
m_1 = 109 ∷ 32 ∷ 45 ∷ 10 ∷ []

abbrev m_2 : List ℕ
m_2 = 109 ∷ 32 ∷ 45 ∷ 32 ∷ 45 ∷ 10 ∷ []

abbrev m_3 : List ℕ
m_3 = 109 ∷ 32 ∷ 45 ∷ 32 ∷ 45 ∷ 32 ∷ 45 ∷ 10 ∷ []

-- "00 00 02 61 62 / 00 01 01 63 / 00 04 04 77 78 79 7A / 02 / 01 00 04 / 00 0C 01 21"
abbrev sample : List ℕ
sample = 0 ∷ 0 ∷ 2 ∷ 97 ∷ 98 ∷ 0 ∷ 1 ∷ 1 ∷ 99 ∷ 0 ∷ 4 ∷ 4 ∷ 119 ∷ 120 ∷ 121 ∷ 122 ∷ 2 ∷ 1 ∷ 0 ∷ 4 ∷ 0 ∷ 12 ∷ 1 ∷ 33 ∷ []

-- "w 2", "w 1", "w 4", "g 0", "r 61630000", "w !22", "m 1.1 1.0 -"
abbrev sample_text : List ℕ
sample_text =
    119 ∷ 32 ∷ 50 ∷ 10
    ∷ 119 ∷ 32 ∷ 49 ∷ 10
    ∷ 119 ∷ 32 ∷ 52 ∷ 10
    ∷ 103 ∷ 32 ∷ 48 ∷ 10
    ∷ 114 ∷ 32 ∷ 54 ∷ 49 ∷ 54 ∷ 51 ∷ 48 ∷ 48 ∷ 48 ∷ 48 ∷ 10
    ∷ 119 ∷ 32 ∷ 33 ∷ 50 ∷ 50 ∷ 10
    ∷ 109 ∷ 32 ∷ 49 ∷ 46 ∷ 49 ∷ 32 ∷ 49 ∷ 46 ∷ 48 ∷ 32 ∷ 45 ∷ 10
    ∷ []

-- five writes of a byte to page 0
abbrev five : List ℕ
five = 0 ∷ 0 ∷ 1 ∷ 97 ∷ 0 ∷ 0 ∷ 1 ∷ 97 ∷ 0 ∷ 0 ∷ 1 ∷ 97 ∷ 0 ∷ 0 ∷ 1 ∷ 97 ∷ 0 ∷ 0 ∷ 1 ∷ 97 ∷ []

-- and behind them a checkpoint, this record, a collection, two writes more
abbrev filled : List ℕ → List ℕ
filled restore = five ++ (4 ∷ restore) ++ (2 ∷ 0 ∷ 0 ∷ 1 ∷ 97 ∷ 0 ∷ 0 ∷ 1 ∷ 97 ∷ [])

-- "w 1" five times, "c 68", "s 0", "g 0", "w 1", and what follows
abbrev filled_text : List ℕ → List ℕ
filled_text rest =
    119 ∷ 32 ∷ 49 ∷ 10
    ∷ 119 ∷ 32 ∷ 49 ∷ 10
    ∷ 119 ∷ 32 ∷ 49 ∷ 10
    ∷ 119 ∷ 32 ∷ 49 ∷ 10
    ∷ 119 ∷ 32 ∷ 49 ∷ 10
    ∷ 99 ∷ 32 ∷ 54 ∷ 56 ∷ 10
    ∷ 115 ∷ 32 ∷ 48 ∷ 10
    ∷ 103 ∷ 32 ∷ 48 ∷ 10
    ∷ 119 ∷ 32 ∷ 49 ∷ 10
    ∷ rest

-- ---- the table

rows : List Row
rows =
    -- 01's example
    row (device sample) sample_text
    -- "short": no byte; six numbers and no seventh; n 0 and no count of bad segments; a write of 4 bytes, of which 1 is there. Record 7.
    ∷ row [] t_1
    ∷ row (0 ∷ 0 ∷ 0 ∷ 0 ∷ 0 ∷ 0 ∷ []) t_1
    ∷ row (0 ∷ 2 ∷ 4 ∷ 1 ∷ 3 ∷ 10 ∷ []) t_1
    ∷ row (device (0 ∷ 0 ∷ 4 ∷ 97 ∷ [])) t_1
    ∷ row (device (7 ∷ [])) t_1
    -- a restore without a checkpoint: "s !1"
    ∷ row (device (5 ∷ [])) (115 ∷ 32 ∷ 33 ∷ 49 ∷ 10 ∷ m_3)
    -- a checkpoint and two restores: "c 68", "s 0", "s 0"
    ∷ row (device (4 ∷ 5 ∷ 5 ∷ [])) (99 ∷ 32 ∷ 54 ∷ 56 ∷ 10 ∷ 115 ∷ 32 ∷ 48 ∷ 10 ∷ 115 ∷ 32 ∷ 48 ∷ 10 ∷ m_3)
    -- 02, M-109: "a new record 6 (also `s`)", without a checkpoint: "s !1"
    ∷ row (device (6 ∷ [])) (115 ∷ 32 ∷ 33 ∷ 49 ∷ 10 ∷ m_3)
    -- five writes of page 0, a checkpoint, a restore, a collection, two writes. By record 5 nothing is collected: "g 0", "w 1", "w !14", "m 2.1 - -"
    ∷ row (device (filled (5 ∷ [])))
    (filled_text (119 ∷ 32 ∷ 33 ∷ 49 ∷ 52 ∷ 10 ∷ 109 ∷ 32 ∷ 50 ∷ 46 ∷ 49 ∷ 32 ∷ 45 ∷ 32 ∷ 45 ∷ 10 ∷ []))
    -- by record 6 segment 0 is: "g 0", "w 1", "w 1", "m 0.0 - -"
    ∷ row (device (filled (6 ∷ [])))
    (filled_text (119 ∷ 32 ∷ 49 ∷ 10 ∷ 109 ∷ 32 ∷ 48 ∷ 46 ∷ 48 ∷ 32 ∷ 45 ∷ 32 ∷ 45 ∷ 10 ∷ []))
    -- n·p 1,024 and 1,025; s 512 and 513; n·p·s 32,768 and 33,280
    ∷ row (128 ∷ 8 ∷ 1 ∷ 1 ∷ 0 ∷ 1 ∷ 0 ∷ 0 ∷ []) m_1
    ∷ row (129 ∷ 8 ∷ 1 ∷ 1 ∷ 0 ∷ 1 ∷ 0 ∷ 0 ∷ []) t_2
    ∷ row (1 ∷ 1 ∷ 128 ∷ 4 ∷ 0 ∷ 1 ∷ 0 ∷ 0 ∷ []) m_1
    ∷ row (1 ∷ 1 ∷ 129 ∷ 4 ∷ 0 ∷ 1 ∷ 0 ∷ 0 ∷ []) t_2
    ∷ row (64 ∷ 1 ∷ 128 ∷ 4 ∷ 0 ∷ 1 ∷ 0 ∷ 0 ∷ []) m_1
    ∷ row (65 ∷ 1 ∷ 128 ∷ 4 ∷ 0 ∷ 1 ∷ 0 ∷ 0 ∷ []) t_2
    -- w 16 and 17; p above 2^w; e = n·p and one more; erase limit 2^32-1 and 2^32
    ∷ row (1 ∷ 1 ∷ 1 ∷ 16 ∷ 1 ∷ 0 ∷ 0 ∷ []) m_1
    ∷ row (1 ∷ 1 ∷ 1 ∷ 17 ∷ 1 ∷ 0 ∷ 0 ∷ []) t_2
    ∷ row (1 ∷ 2 ∷ 1 ∷ 0 ∷ 1 ∷ 0 ∷ 0 ∷ []) t_2
    ∷ row (1 ∷ 2 ∷ 1 ∷ 1 ∷ 2 ∷ 0 ∷ 0 ∷ []) m_2
    ∷ row (1 ∷ 2 ∷ 1 ∷ 1 ∷ 3 ∷ 0 ∷ 0 ∷ []) t_2
    ∷ row (1 ∷ 1 ∷ 1 ∷ 0 ∷ 1 ∷ 255 ∷ 255 ∷ 255 ∷ 255 ∷ 15 ∷ 0 ∷ []) m_1
    ∷ row (1 ∷ 1 ∷ 1 ∷ 0 ∷ 1 ∷ 128 ∷ 128 ∷ 128 ∷ 128 ∷ 16 ∷ 0 ∷ []) t_2
    -- n 2: bad segment 2; bad segment 1 twice
    ∷ row (2 ∷ 1 ∷ 1 ∷ 0 ∷ 1 ∷ 0 ∷ 1 ∷ 2 ∷ []) t_2
    ∷ row (2 ∷ 1 ∷ 1 ∷ 0 ∷ 1 ∷ 0 ∷ 2 ∷ 1 ∷ 1 ∷ []) m_1
    -- a number: 0 in two groups; 2^64-1 in ten, "l 0"; 2^64; eleven groups
    ∷ row (device (3 ∷ 128 ∷ 0 ∷ [])) t_1
    ∷ row (device (list_of 255 (1 ∷ []))) (108 ∷ 32 ∷ 48 ∷ 10 ∷ m_3)
    ∷ row (device (list_of 128 (2 ∷ []))) t_1
    ∷ row (device (list_of 128 (128 ∷ 1 ∷ []))) t_1
    -- 16,384 bytes and 16,385, all 0
    ∷ row (replicate 16384 0) t_2
    ∷ row (replicate 16385 0) t_3
    -- a write of a byte, and a read at offset 1 of 2^64-1 bytes: "w 1", "r !22", "m 0.0 - -"
    ∷ row (device (0 ∷ 0 ∷ 1 ∷ 9 ∷ 1 ∷ 1 ∷ 255 ∷ 255 ∷ 255 ∷ 255 ∷ 255 ∷ 255 ∷ 255 ∷ 255 ∷ 255 ∷ 1 ∷ []))
    (119 ∷ 32 ∷ 49 ∷ 10 ∷ 114 ∷ 32 ∷ 33 ∷ 50 ∷ 50 ∷ 10 ∷ 109 ∷ 32 ∷ 48 ∷ 46 ∷ 48 ∷ 32 ∷ 45 ∷ 32 ∷ 45 ∷ 10 ∷ [])
    -- n 0, and record 7 behind the header
    ∷ row (0 ∷ 2 ∷ 4 ∷ 1 ∷ 3 ∷ 10 ∷ 0 ∷ 7 ∷ []) t_2
    ∷ []

told : map (λ r. output r.input) rows ≡ map (λ r. r.text) rows
unfolding
    rows without push_front insert_by sort_by splice total occ all every blank up_to good? view packed names soundb burn may_program may_erase
    format_from clear_from find_from find invalidate forget old_page write_at write_page sorted finish_of drain collect_of collect collect_more
    collect_list used_by word long words word_at long_at words_at head file reason_of welcome settle_all restored queue_dead unless guarded clean formatting
    opening read encoding restoring write collection list_collection plus add among powers low remainder bits_of bits digit value_of dividend
    crc32 longer groups marking front header write_record read_record list_record record_of digits hex entries lines output
told = refl

-- "too long an input only `t !3`"
pub too_long : (xs : List ℕ) → 16384 < length xs → output xs ≡ stopped 3
unfolding output
too_long xs h = rw (lt-ltb 16384 (length xs) h)

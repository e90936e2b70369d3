-- Document 01, "Trace program": all that the program writes, as a function of its input.
use Rattle.std.specs.Prelude.{ℕ, zero, suc, ◌+◌, ◌*◌, cond, Option, Some, None, Result, Ok, Err, List, [], ◌∷◌, ◌++◌, ltb, length, take}
use Rattle.model.specs.declared.Geometry.{Geometry}
use Rattle.model.specs.Lists.{zeros}
use Rattle.model.specs.Numbers.{endless}
use Rattle.model.specs.Tables.{pages, tab_words}
use Rattle.model.specs.Device.{flash}
use Rattle.model.specs.Entry.{recorder}
use Rattle.model.specs.History as call
use Rattle.records.specs.declared.HeaderError.{HeaderError}
use Rattle.records.specs.declared.HeaderError.TheVariants.{Form, Values}
use Rattle.records.specs.declared.Record.{Record}
use Rattle.records.specs.Trace.{header, next_record}
use Rattle.lines.specs.Text.{entry_text}
use Rattle.deeds.specs.Deeds.{Kept, kept, kept_after, line_after}

-- "`t !1`", "`t !2`", "`t !3`"
abbrev pub stopped : ℕ → List ℕ
stopped k = 116 ∷ 32 ∷ 33 ∷ (48 + k) ∷ 10 ∷ []

-- "Last: `m` and each entry as segment.page or `-`."
unfoldable pub entries : Geometry → List ℕ → List ℕ
entries G [] = 10 ∷ []
entries G (word ∷ ws) = entry_text G word ++ entries G ws

module _ (G : Geometry) (bad xs : List ℕ) where
  -- "on formatted flash and fresh tables", with an endless fuse; the last checkpoint "is empty at first"
  abbrev pub fresh : Kept
  fresh =
      let zeroed = recorder (zeros (tab_words G)) (zeros (pages G)) (flash (zeros (pages G * G.s)) (zeros (pages G)) (zeros G.n) endless) in
      kept (call.after G bad call.Open (call.after G bad call.Format zeroed)) (zeros 512) (zeros 8236) 0

  -- a record's line and what follows it; "A malformed trace … prints `t !1` after the lines so far and stops without `m`"
  abbrev pub turn : Kept → Option (Record × ℕ) → (ℕ → Kept → List ℕ) → List ℕ
  turn k None rest = stopped 1
  turn k (Some (e, next)) rest = line_after G bad xs k e ++ rest next (kept_after G bad xs k e)

  -- "records until the end", each at least a byte
  unfoldable pub lines : ℕ → ℕ → Kept → List ℕ
  lines zero at k = []
  lines (suc left) at k = cond (ltb at (length xs)) (turn k (next_record xs at) (lines left)) (109 ∷ entries G (call.map_in G k.unit))

-- "Length is tested first, then the header's form, then its values."
abbrev pub said : List ℕ → Result (Geometry × ℕ) HeaderError → List ℕ → List ℕ
said xs (Err Form) marks = stopped 1
said xs (Err Values) marks = stopped 2
said xs (Ok (G, first)) marks = let bad = take G.n marks in lines G bad xs (suc (length xs)) first (fresh G bad xs)

unfoldable pub output : List ℕ → List ℕ
output xs = let h = header xs (zeros 1024) in cond (ltb 16384 (length xs)) (stopped 3) (said xs h.0 h.1)

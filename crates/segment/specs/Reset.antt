-- Document 01: "one segment's record, lent alone, is reset where it stands, as `segment_data_init` does".
use Rattle.std.specs.Prelude.{ℕ}
use Rattle.segment.specs.declared.Segment.{Segment}

-- what a reset makes of a record, "setting free and valid counts": every page free, none valid
abbrev pub reset : ℕ → Segment
reset pages = record { free = pages; valid = 0 }

-- What a digest is taken over: all that is lent, joined, words and fuse as bytes, the lowest first.
use Rattle.std.specs.Prelude.{ℕ, List, ◌++◌}
use Rattle.model.specs.Checkpoint.{long, words}

-- the tables, the flash and the fuse
abbrev pub device : List ℕ → List ℕ → List ℕ → List ℕ → List ℕ → ℕ → List ℕ
device tab used bytes marks counts fuse = ((((words tab ++ used) ++ bytes) ++ marks) ++ words counts) ++ long fuse

-- with the bad list, the buffer and the scratch
abbrev pub everything : List ℕ → List ℕ → List ℕ → List ℕ → List ℕ → ℕ → List ℕ → List ℕ → List ℕ → List ℕ → List ℕ → List ℕ → List ℕ
everything tab used bytes marks counts fuse bad buffer page seen order taken =
    (((((device tab used bytes marks counts fuse ++ bad) ++ buffer) ++ page) ++ seen) ++ words order) ++ taken

-- What one step lays into a line.
use Rattle.std.specs.Prelude.{ℕ, ◌≡◌, ◌+◌, ◌≤◌, List, length}
use Rattle.model.specs.Lists.{splice}
use Rattle.lines.specs.declared.Line.{Line}

-- there is room for a text behind what is laid in
abbrev pub Room : Line → List ℕ → Type 0
Room l text = l.end + length text ≤ length l.out.now

-- a text is laid in behind what was laid in
pub record Laid (old new : Line) (text : List ℕ) : Type 0 where
  pub bytes : new.out.now ≡ splice old.end text old.out.now
  pub end : new.end ≡ old.end + length text
  pub size : length new.out.now ≡ length old.out.now

-- The digits of the bytes so far are laid in.
use Rattle.std.proofs.Common.{◌≡◌, take}
use Rattle.lines.specs.Laying.{Laid}
use Rattle.lines.specs.Text.{hex}
use Rattle.lines.proofs.Line.put_hex.Given as goal

abbrev pub invariant-loop-b : goal.invariant-loop-b
invariant-loop-b l = record {
  same_buffer : l.self.out.ghost_name ≡ l.initial.self.out.ghost_name;
  laid : Laid l.initial.self l.self (hex (take l.b-index l.bytes));
}

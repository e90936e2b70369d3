-- `crc32::Table::shifted_byte` meets its contract: the table has what the low byte becomes, and the upper ones move down.
use Rattle.std.proofs.Common.{ℕ, sym, ap, ap₂, ◌∙◌, ◌/◌, List, get_or}
use Rattle.std.specs.Int.{to_le_bytes, w32}
use Rattle.std.specs.Int.Bits.{bit_xor}
use Rattle.crc32.specs.Register.{shifts}
use Rattle.crc32.proofs.Shift.{shifts_split}
use Rattle.crc32.proofs.Table+0.shifted_byte.Goals as goal

pub returns : goal.returns
returns c =
    let r : ℕ = c.args.state in
    ap₂ bit_xor
    (ap (λ (y : ℕ). bit_xor r y / 256) c.from.ensures)
    (c.looked_up.ensures
    ∙ ap (λ (l : List ℕ). shifts 8 (get_or l 0 0)) (c.to_le_bytes.ensures ∙ ap (λ (y : ℕ). to_le_bytes w32 (bit_xor r y)) c.from.ensures))
    ∙ sym (shifts_split 8 (bit_xor r c.args.b))

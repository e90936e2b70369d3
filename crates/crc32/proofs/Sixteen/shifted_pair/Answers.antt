-- `crc32::Sixteen::shifted_pair` meets its contract: the shifts of the two words go apart.
use Rattle.std.proofs.Common.{ℕ, sym, ap₂, ◌∙◌}
use Rattle.std.specs.Int.{from_le_bytes, w64}
use Rattle.std.specs.Int.Bits.{bit_xor}
use Rattle.crc32.proofs.Shift.{shifts_apart}
use Rattle.crc32.proofs.Sixteen.shifted_pair.Goals as goal

pub returns : goal.returns
returns c =
    let x : ℕ = bit_xor c.args.state (from_le_bytes w64 c.args.x.now) in
    ap₂ bit_xor c.shifted_word.ensures c.shifted_word-2.ensures ∙ sym (shifts_apart 64 64 x (from_le_bytes w64 c.args.y.now))

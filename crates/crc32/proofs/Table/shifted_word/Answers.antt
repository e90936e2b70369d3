-- `crc32::Table::shifted_word` meets its contract: each table has what a byte of the sum becomes.
use Rattle.std.proofs.Common.{◌≡◌, ℕ, ◌+◌, ◌*◌, List, get_or, ap, ap₂, ◌∙◌, arith}
use Rattle.std.specs.Int.{from_le_bytes, to_le_bytes, w32}
use Rattle.std.specs.Int.Bits.{bit_xor}
use Rattle.crc32.specs.Register.{shifts}
use Rattle.crc32.proofs.Shift.{shifts_added}
use Rattle.crc32.proofs.Table.shifted_word.Goals as goal

pub returns : goal.returns
returns g c =
    let f : ℕ = g.row.FROM in
    let w : List ℕ = c.args.w.now in
    let low : c.to_le_bytes-low.result ≡ to_le_bytes w32 (bit_xor c.args.state (from_le_bytes w32 w))
    = c.to_le_bytes-low.ensures ∙ ap (λ (l : ℕ). to_le_bytes w32 (bit_xor c.args.state l)) c.from_le_bytes.ensures in
    ap₂ bit_xor
    (ap₂ bit_xor c.looked_up.ensures (ap₂ bit_xor c.looked_up-2.ensures (ap₂ bit_xor c.looked_up-3.ensures c.looked_up-4.ensures)))
    (ap₂ bit_xor c.looked_up-5.ensures (ap₂ bit_xor c.looked_up-6.ensures (ap₂ bit_xor c.looked_up-7.ensures c.looked_up-8.ensures))
    ∙ ap (λ (l : List ℕ). let at : ℕ → ℕ → ℕ = λ j i. shifts (8 * (f + j + 1)) (get_or l i 0) in
    bit_xor (at 7 0) (bit_xor (at 6 1) (bit_xor (at 5 2) (at 4 3)))) low)
    ∙ shifts_added f c.args.state w (omega arith) c.fits-w

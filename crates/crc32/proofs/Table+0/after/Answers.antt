-- `crc32::Table::after` meets its contract: each word, and then each byte that is left, goes in after those before it.
use Rattle.std.proofs.Common.{◌≡◌, ℕ, ◌+◌, ◌*◌, ◌/◌, ◌<◌, List, [], length, take, drop, get_or, sym, ap, ap₂, ◌∙◌, arith, get_or-drop}
use Rattle.std.specs.Int.{from_le_bytes, w64}
use Rattle.std.specs.Int.Bits.{bit_xor}
use Rattle.std.specs.Simd.{first_chunks}
use Rattle.crc32.specs.Crc32.{after}
use Rattle.crc32.specs.Register.{shifts}
use Rattle.crc32.proofs.Laws.{after_nil}
use Rattle.crc32.proofs.Slices.{next_byte, next_word}
use Rattle.crc32.proofs.Table+0.after.Goals as goal

pub loop-w-init : goal.loop-w-init
loop-w-init c = (omega arith, sym (after_nil c.args.state (omega arith)))

pub loop-w-preserved : goal.loop-w-preserved
loop-w-preserved c =
    let s : List ℕ = c.args.s.now in
    let i : ℕ = c.loop-w.w-index in
    let words : c.as_chunks.result.0.now ≡ first_chunks 8 (length s / 8) s = c.as_chunks.ensures.front in
    let h : i < length s / 8 = omega (arith, c.as_chunks.ensures.front_len) in (
      omega arith,
      c.shifted_word-crc.ensures
          ∙ ap₂ (λ (x : ℕ) (ws : List (List ℕ)). shifts 64 (bit_xor x (from_le_bytes w64 (get_or ws i [])))) c.loop-w.invariant.1 words
          ∙ next_word s (λ j _. (c.type_inv.s j).fits) c.args.state i (omega arith) h,
    )

pub loop-b-preserved : goal.loop-b-preserved
loop-b-preserved c =
    let s : List ℕ = c.args.s.now in
    let i : ℕ = c.loop-b.b-index in
    let k : ℕ = length s / 8 * 8 in
    let rest : c.as_chunks.result.1.now ≡ drop k s = c.as_chunks.ensures.back in
    let h : k + i < length s = omega (arith, c.as_chunks.ensures.back_len) in
    let e : k + i + 1 ≡ k + (i + 1) = omega arith in (
      omega arith,
      c.shifted_byte-crc.ensures
          ∙ ap₂ (λ (x y : ℕ). shifts 8 (bit_xor x y)) c.loop-b.invariant.1 (ap (λ (l : List ℕ). get_or l i 0) rest ∙ get_or-drop k s i 0)
          ∙ next_byte s (λ j _. (c.type_inv.s j).fits) c.args.state (k + i) (omega arith) h
          ∙ ap (λ (m : ℕ). after c.args.state (take m s)) e,
    )

-- `crc32::Sixteen::after` meets its contract: each pair of words goes in after those before it, and what is left after all of them.
use Rattle.std.proofs.Common.{◌≡◌, ℕ, ◌*◌, ◌/◌, ◌<◌, List, [], length, take, drop, get_or, sym, ap, ap₂, ◌∙◌, arith}
use Rattle.std.specs.Int.{from_le_bytes, w64}
use Rattle.std.specs.Int.Bits.{bit_xor}
use Rattle.std.specs.Simd.{first_chunks}
use Rattle.std.proofs.Math.ListN.{take-append-drop}
use Rattle.crc32.specs.Crc32.{after}
use Rattle.crc32.specs.Register.{shifts}
use Rattle.crc32.proofs.Laws.{after_nil, after-append}
use Rattle.crc32.proofs.Slices.{next_pair}
use Rattle.crc32.proofs.Sixteen.after.Goals as goal

pub loop-p-init : goal.loop-p-init
loop-p-init c = (omega arith, sym (after_nil c.args.state (omega arith)))

pub loop-p-preserved : goal.loop-p-preserved
loop-p-preserved c =
    let s : List ℕ = c.args.s.now in
    let i : ℕ = c.loop-p.p-index in
    let pairs : c.as_chunks.result.0.now ≡ first_chunks 16 (length s / 16) s = c.as_chunks.ensures.front in
    let p : List ℕ = get_or c.as_chunks.result.0.now i [] in
    let words : c.as_chunks-in-loop-p.result.0.now ≡ first_chunks 8 (length p / 8) p = c.as_chunks-in-loop-p.ensures.front in
    let h : i < length s / 16 = omega (arith, c.as_chunks.ensures.front_len) in (
      omega arith,
      c.shifted_pair-crc.ensures
          ∙ ap₂ (λ (x : ℕ) (ws : List (List ℕ)). let w : ℕ → ℕ = λ m. from_le_bytes w64 (get_or ws m []) in shifts 64 (bit_xor (shifts 64 (bit_xor x (w 0))) (w 1)))
          c.loop-p.invariant.1
          words
          ∙ next_pair s (λ j _. (c.type_inv.s j).fits) c.args.state i (omega arith) h p (ap (λ (ps : List (List ℕ)). get_or ps i []) pairs),
    )

pub returns : goal.returns
returns c =
    let s : List ℕ = c.args.s.now in
    let k : ℕ = length s / 16 * 16 in
    let all : c.loop-p.p-index * 16 ≡ k = omega (arith, c.as_chunks.ensures.front_len) in
    let rest : c.as_chunks.result.1.now ≡ drop k s = c.as_chunks.ensures.back in
    c.after.ensures
    ∙ ap₂ after (c.loop-p.invariant.1 ∙ ap (λ (m : ℕ). after c.args.state (take m s)) all) rest
    ∙ sym (after-append c.args.state (take k s) (drop k s) (omega arith))
    ∙ ap (after c.args.state) (take-append-drop k s)

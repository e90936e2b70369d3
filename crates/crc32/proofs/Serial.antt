-- The register, fed with the bits of a message one by one, computes the division of the definition (`fed_divides`);
-- k bits fed one by one are k shifts of all of them at once (`fed_bits`).
use mathlib.Core.Path.{◌≡◌, refl, sym, ap, ap₂, ◌∙◌}
use mathlib.Core.Bool.{Bool, true, false}
use mathlib.Core.List.{List, [], ◌∷◌, ◌++◌}
use Prim.Native.Nat.{ℕ, zero, suc, ◌*◌, ◌/◌, ◌%◌, ◌^◌, ◌<◌}
use native.Mathlib.Nat.{zero-mul, one-mul, pow-suc, div-add-mod'}
use native.Mathlib.Omega.{arith}
use lib.Arith.{lt-one}
use lib.Bits.{differ, bit_xor, xor_zero_r, xor_comm, xor_lt, xor_shifted}
use lib.ListN.{length, replicate, length-append}
use Rattle.crc32.specs.Crc32.{plus, add, low, remainder, bits_of, digit, number}
use Rattle.crc32.specs.Register.{poly, shift, shifts}
use Rattle.crc32.proofs.Xor.{odd_lt, xor_half, xor_odd, xor_assoc}
use Rattle.crc32.proofs.Shift.{shifts_over, shift_lt}
use Rattle.crc32.proofs.Coefficients.{
  add_assoc,
  add-zeros,
  add_pad,
  length-add,
  length-low,
  digit_lt,
  digit-plus,
  digit-bit,
  number_half,
  number_odd,
  number-add,
  number_pad,
  number-low,
}

-- the register r after the bits: each is added to the lowest bit, and the register shifted
unfoldable pub fed : ℕ → List Bool → ℕ
fed r [] = r
fed r (m ∷ bs) = fed (shift (bit_xor r (digit m))) bs

pub fed_append : (p q : List Bool) (r : ℕ) → fed r (p ++ q) ≡ fed (fed r p) q
unfolding fed
fed_append [] q r = refl
fed_append (m ∷ p) q r = fed_append p q (shift (bit_xor r (digit m)))

pub fed_lt : (p : List Bool) (r : ℕ) → r < 2 ^ 32 → fed r p < 2 ^ 32
unfolding fed
fed_lt [] r h = h
fed_lt (m ∷ p) r h = fed_lt p (shift (bit_xor r (digit m))) (shift_lt _ (xor_lt 32 r (digit m) h (omega (arith, digit_lt m))))

-- ---- a step of the division is a shift

digit_half : (b : Bool) → digit b / 2 ≡ 0
unfolding digit
digit_half true = refl
digit_half false = refl

digit_odd : (b : Bool) → digit b % 2 ≡ digit b
unfolding digit
digit_odd true = refl
digit_odd false = refl

shift-number : (a m : Bool) (t : List Bool) → shift (bit_xor (number (a ∷ t)) (digit m)) ≡ bit_xor (number t) (digit (plus a m) * poly)
unfolding shift
shift-number a m t =
    ap₂ (λ (x y : ℕ). bit_xor x (y * poly))
    (xor_half (number (a ∷ t)) (digit m) ∙ ap₂ bit_xor (number_half a t) (digit_half m) ∙ xor_zero_r (number t))
    (xor_odd (number (a ∷ t)) (digit m) ∙ ap₂ differ (number_odd a t) (digit_odd m) ∙ digit-plus a m)

-- the 32 coefficients that a step leaves, where the first was d and t the others
next : Bool → List Bool → List Bool
next true t = add low (t ++ (false ∷ []))
next false t = t ++ (false ∷ [])

length_next : (d : Bool) (t : List Bool) → length t ≡ 31 → length (next d t) ≡ 32
unfolding next
length_next d t h = go d
  where
    pad : length (t ++ (false ∷ [])) ≡ 32
    pad = length-append t (false ∷ []) ∙ omega arith

    go : (d : Bool) → length (next d t) ≡ 32
    go true = length-add low (t ++ (false ∷ [])) (omega (arith, length-low, pad)) ∙ pad
    go false = pad

number_next : (d : Bool) (t : List Bool) → number (next d t) ≡ bit_xor (number t) (digit d * poly)
unfolding next digit
number_next true t =
    number-add low (t ++ (false ∷ []))
    ∙ ap₂ bit_xor (number-low ∙ sym (one-mul poly)) (number_pad t)
    ∙ xor_comm (1 * poly) (number t)
number_next false t = number_pad t ∙ sym (ap (bit_xor (number t)) (zero-mul poly) ∙ xor_zero_r (number t))

remainder_next : (d : Bool) (n : ℕ) (t q : List Bool) → length t < length q
    → remainder (suc n) (d ∷ add t q) ≡ remainder n (add (next d t) q)
unfolding next remainder
remainder_next true n t q h = ap (remainder n) (ap (add low) (sym (add_pad t q h)) ∙ sym (add_assoc low (t ++ (false ∷ [])) q))
remainder_next false n t q h = ap (remainder n) (sym (add_pad t q h))

pub fed_divides : (bs p : List Bool) → length p ≡ 32
    → number (remainder (length bs) (add p (bs ++ replicate 32 false))) ≡ fed (number p) bs
unfolding remainder fed add
fed_divides [] p h = ap number (add-zeros p 32 h)
fed_divides (m ∷ bs) [] h = absurd (omega arith)
fed_divides (m ∷ bs) (a ∷ t) h =
    ap number (remainder_next (plus a m) (length bs) t (bs ++ replicate 32 false) (omega (arith, length-append bs (replicate 32 false))))
    ∙ fed_divides bs (next (plus a m) t) (length_next (plus a m) t (omega arith))
    ∙ ap (λ (x : ℕ). fed x bs) (number_next (plus a m) t ∙ sym (shift-number a m t))

-- ---- several bits at once

lowest_first : (r b : ℕ) → bit_xor (shift (bit_xor r (b % 2))) (b / 2) ≡ shift (bit_xor r b)
unfolding shifts
lowest_first r b =
    sym (shifts_over 1 (bit_xor r (b % 2)) (b / 2))
    ∙ ap shift (xor_assoc r (b % 2) (b / 2 * 2)
    ∙ ap (bit_xor r) (xor_comm (b % 2) (b / 2 * 2) ∙ xor_shifted (b / 2) 1 (b % 2) (odd_lt b) ∙ div-add-mod' b 2))

pub fed_bits : (k r b : ℕ) (bs : List Bool) → b < 2 ^ k → fed r (bits_of k b ++ bs) ≡ fed (shifts k (bit_xor r b)) bs
unfolding fed bits_of shifts
fed_bits zero r b bs h = ap (λ (x : ℕ). fed x bs) (sym (ap (bit_xor r) (lt-one h) ∙ xor_zero_r r))
fed_bits (suc k) r b bs h =
    ap (λ (x : ℕ). fed (shift (bit_xor r x)) (bits_of k (b / 2) ++ bs)) (digit-bit (b % 2) (odd_lt b))
    ∙ fed_bits k (shift (bit_xor r (b % 2))) (b / 2) bs (let l : b < 2 ^ k * 2 = (rw pow-suc at h) in omega arith)
    ∙ ap (λ (x : ℕ). fed (shifts k x) bs) (lowest_first r b)

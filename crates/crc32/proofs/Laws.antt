-- The laws of `crc32` and `after` that other crates use: how large they are, how a message is taken in byte by byte and in parts,
-- and that `crc32` is `after` from all ones, complemented. That it is the remainder is in proofs/Remainder.antt.
use mathlib.Core.Path.{◌≡◌, refl, sym, ap, ◌∙◌}
use mathlib.Core.Bool.{Bool, true, false, not}
use mathlib.Core.List.{List, [], ◌∷◌, ◌++◌, map}
use Prim.Native.Nat.{ℕ, ◌+◌, ◌-◌, ◌^◌, ◌<◌}
use native.Mathlib.Omega.{arith}
use lib.Dec.{lit<}
use lib.Bits.{bit_xor, xor_lt}
use lib.ListN.{length, replicate}
use Rattle.crc32.specs.Crc32.{add, remainder, bits_of, bits, number, dividend, crc32, after}
use Rattle.crc32.specs.Register.{shifts}
use Rattle.crc32.proofs.Shift.{shifts_lt}
use Rattle.crc32.proofs.Coefficients.{length-remainder, length_bits_of, bits-append, number_not, number_bits_of}
use Rattle.crc32.proofs.Serial.{fed, fed_append, fed_lt, fed_divides, fed_bits}
use Rattle.crc32.proofs.Remainder.{length-dividend}

after_fed : (r : ℕ) (m : List ℕ) → r < 2 ^ 32 → after r m ≡ fed r (bits m)
unfolding after
after_fed r m h = fed_divides (bits m) (bits_of 32 r) (length_bits_of 32 r) ∙ ap (λ (x : ℕ). fed x (bits m)) (number_bits_of 32 r h)

pub after_lt : (r : ℕ) (m : List ℕ) → r < 2 ^ 32 → after r m < 2 ^ 32
after_lt r m h = rw (after_fed r m h) (fed_lt (bits m) r h)

pub after_nil : (r : ℕ) → r < 2 ^ 32 → after r [] ≡ r
unfolding bits fed
after_nil r h = after_fed r [] h

pub after-cons : (r b : ℕ) (m : List ℕ) → r < 2 ^ 32 → b < 2 ^ 8 → after r (b ∷ m) ≡ after (shifts 8 (bit_xor r b)) m
unfolding bits
after-cons r b m h hb =
    after_fed r (b ∷ m) h
    ∙ fed_bits 8 r b (bits m) hb
    ∙ sym (after_fed (shifts 8 (bit_xor r b)) m (shifts_lt 8 (bit_xor r b) (xor_lt 32 r b h (omega arith))))

pub after-append : (r : ℕ) (a b : List ℕ) → r < 2 ^ 32 → after r (a ++ b) ≡ after (after r a) b
after-append r a b h =
    after_fed r (a ++ b) h
    ∙ ap (fed r) (bits-append a b)
    ∙ fed_append (bits a) (bits b) r
    ∙ sym (after_fed (after r a) b (after_lt r a h) ∙ ap (λ (x : ℕ). fed x (bits b)) (after_fed r a h))

all_ones : bits_of 32 0xFFFFFFFF ≡ replicate 32 true
unfolding bits_of
all_ones = refl

pub crc_after : (m : List ℕ) → crc32 m ≡ 0xFFFFFFFF - after 0xFFFFFFFF m
unfolding crc32 dividend after
crc_after m =
    let p : List Bool = remainder (length (bits m)) (dividend m) in
    let e : after 0xFFFFFFFF m ≡ number p
    = ap (λ (l : List Bool). number (remainder (length (bits m)) (add l (bits m ++ replicate 32 false)))) all_ones in
    let l : length p ≡ 32 = length-remainder (length (bits m)) (dividend m) (length-dividend m) in
    let w : number (map not p) + number p + 1 ≡ 2 ^ 32 = number_not p ∙ ap (λ (k : ℕ). 2 ^ k) l in
    rw e (omega arith)

-- what `joined` computes for a and b is the CRC of a and then b
pub crc_append : (a b : List ℕ) → crc32 (a ++ b) ≡ 0xFFFFFFFF - after (after 0xFFFFFFFF a) b
crc_append a b = crc_after (a ++ b) ∙ ap (λ (x : ℕ). 0xFFFFFFFF - x) (after-append 0xFFFFFFFF a b (lit< tt))

pub crc_lt : (m : List ℕ) → crc32 m < 2 ^ 32
crc_lt m = omega (arith, crc_after m)

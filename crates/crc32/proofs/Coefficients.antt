-- Laws of lists of coefficients: of `add` and the lengths, and of the numbers that they are, where `add` is the exclusive or.
use mathlib.Core.Path.{◌≡◌, refl, sym, ap, ap₂, ◌∙◌}
use mathlib.Core.Bool.{Bool, true, false, not}
use mathlib.Core.List.{List, [], ◌∷◌, ◌++◌, map, append_assoc}
use Prim.Native.Nat.{ℕ, zero, suc, ◌+◌, ◌*◌, ◌/◌, ◌%◌, ◌^◌, ◌<◌, ◌≤◌}
use native.Mathlib.Nat.{pow-suc, div-add-mod'}
use native.Mathlib.Omega.{arith}
use lib.Dec.{eqb, lit<}
use lib.Arith.{digits_div, digits_mod, lt-one}
use lib.Bits.{differ, bit_xor, xor_step, xor_zero_r}
use lib.ListN.{length, replicate}
use Rattle.crc32.specs.Crc32.{plus, add, among, powers, low, remainder, bits_of, bits, digit, number}
use Rattle.crc32.specs.Register.{poly}
use Rattle.crc32.proofs.Xor.{odd_lt}

-- ---- sums

plus_assoc : (a b c : Bool) → plus (plus a b) c ≡ plus a (plus b c)
unfolding plus
plus_assoc false b c = refl
plus_assoc true false c = refl
plus_assoc true true false = refl
plus_assoc true true true = refl

pub add_assoc : (p q r : List Bool) → add (add p q) r ≡ add p (add q r)
unfolding add
add_assoc [] q r = refl
add_assoc (a ∷ p) [] r = refl
add_assoc (a ∷ p) (b ∷ q) [] = refl
add_assoc (a ∷ p) (b ∷ q) (c ∷ r) = ap₂ (λ (x : Bool) (y : List Bool). x ∷ y) (plus_assoc a b c) (add_assoc p q r)

plus_twice : (a b : Bool) → plus a (plus a b) ≡ b
unfolding plus
plus_twice false b = refl
plus_twice true false = refl
plus_twice true true = refl

pub add_twice : (p q : List Bool) → length p ≤ length q → add p (add p q) ≡ q
unfolding add
add_twice [] q h = refl
add_twice (a ∷ p) [] h = absurd (omega arith)
add_twice (a ∷ p) (b ∷ q) h = ap₂ (λ (x : Bool) (y : List Bool). x ∷ y) (plus_twice a b) (add_twice p q (omega arith))

pub add-zeros : (p : List Bool) (n : ℕ) → length p ≡ n → add p (replicate n false) ≡ p
unfolding add plus
add-zeros [] zero h = refl
add-zeros [] (suc n) h = absurd (omega arith)
add-zeros (a ∷ p) zero h = absurd (omega arith)
add-zeros (true ∷ p) (suc n) h = ap (λ (l : List Bool). true ∷ l) (add-zeros p n (omega arith))
add-zeros (false ∷ p) (suc n) h = ap (λ (l : List Bool). false ∷ l) (add-zeros p n (omega arith))

pub zeros-add : (n : ℕ) (p : List Bool) → n ≤ length p → add (replicate n false) p ≡ p
unfolding add plus
zeros-add zero p h = refl
zeros-add (suc n) [] h = absurd (omega arith)
zeros-add (suc n) (b ∷ p) h = ap (λ (l : List Bool). b ∷ l) (zeros-add n p (omega arith))

-- a last coefficient of 0 adds nothing
pub add_pad : (p q : List Bool) → length p < length q → add (p ++ (false ∷ [])) q ≡ add p q
unfolding add plus
add_pad [] [] h = absurd (omega arith)
add_pad [] (b ∷ q) h = refl
add_pad (a ∷ p) [] h = absurd (omega arith)
add_pad (a ∷ p) (b ∷ q) h = ap (λ (l : List Bool). plus a b ∷ l) (add_pad p q (omega arith))

-- ---- lengths

pub length-add : (p q : List Bool) → length p ≤ length q → length (add p q) ≡ length q
unfolding add
length-add [] q h = refl
length-add (a ∷ p) [] h = absurd (omega arith)
length-add (a ∷ p) (b ∷ q) h = ap suc (length-add p q (omega arith))

pub length-low : length low ≡ 32
unfolding low powers
length-low = refl

pub length-low-add : (n : ℕ) (p : List Bool) → length p ≡ n + 32 → length (add low p) ≡ n + 32
length-low-add n p h = length-add low p (omega (arith, length-low)) ∙ h

pub length-remainder : (n : ℕ) (p : List Bool) → length p ≡ n + 32 → length (remainder n p) ≡ 32
unfolding remainder
length-remainder zero p h = omega arith
length-remainder (suc n) [] h = absurd (omega arith)
length-remainder (suc n) (true ∷ p) h = length-remainder n (add low p) (length-low-add n p (omega arith))
length-remainder (suc n) (false ∷ p) h = length-remainder n p (omega arith)

pub length_bits_of : (n b : ℕ) → length (bits_of n b) ≡ n
unfolding bits_of
length_bits_of zero b = refl
length_bits_of (suc n) b = ap suc (length_bits_of n (b / 2))

pub bits-append : (a b : List ℕ) → bits (a ++ b) ≡ bits a ++ bits b
unfolding bits
bits-append [] b = refl
bits-append (x ∷ a) b = ap (λ (l : List Bool). bits_of 8 x ++ l) (bits-append a b) ∙ sym (append_assoc (bits_of 8 x) (bits a) (bits b))

-- ---- numbers

pub digit_lt : (b : Bool) → digit b < 2
unfolding digit
digit_lt true = lit< tt
digit_lt false = lit< tt

pub digit-plus : (a b : Bool) → differ (digit a) (digit b) ≡ digit (plus a b)
unfolding digit plus
digit-plus true true = refl
digit-plus true false = refl
digit-plus false b = refl

pub digit-bit : (b : ℕ) → b < 2 → digit (eqb b 1) ≡ b
unfolding digit
digit-bit zero h = refl
digit-bit (suc zero) h = refl
digit-bit (suc (suc b)) h = absurd (omega arith)

pub number_half : (b : Bool) (p : List Bool) → number (b ∷ p) / 2 ≡ number p
unfolding number
number_half b p = digits_div (number p) (digit_lt b)

pub number_odd : (b : Bool) (p : List Bool) → number (b ∷ p) % 2 ≡ digit b
unfolding number
number_odd b p = digits_mod (number p) (digit_lt b)

pub number-add : (p q : List Bool) → number (add p q) ≡ bit_xor (number p) (number q)
unfolding add number
number-add [] q = refl
number-add (a ∷ p) [] = sym (xor_zero_r (number (a ∷ p)))
number-add (a ∷ p) (b ∷ q) =
    ap₂ (λ (x y : ℕ). x * 2 + y) (number-add p q) (sym (digit-plus a b))
    ∙ sym (xor_step (number (a ∷ p)) (number (b ∷ q))
    ∙ ap₂ (λ (x y : ℕ). bit_xor x y * 2 + differ (number (a ∷ p) % 2) (number (b ∷ q) % 2)) (number_half a p) (number_half b q)
    ∙ ap₂ (λ (x y : ℕ). bit_xor (number p) (number q) * 2 + differ x y) (number_odd a p) (number_odd b q))

pub number_pad : (p : List Bool) → number (p ++ (false ∷ [])) ≡ number p
unfolding number digit
number_pad [] = refl
number_pad (b ∷ p) = ap (λ (x : ℕ). x * 2 + digit b) (number_pad p)

pub number-low : number low ≡ poly
unfolding number digit low powers among poly
number-low = refl

pub number_not : (p : List Bool) → number (map not p) + number p + 1 ≡ 2 ^ length p
unfolding number digit
number_not [] = refl
number_not (true ∷ p) = rw pow-suc (omega (arith, number_not p))
number_not (false ∷ p) = rw pow-suc (omega (arith, number_not p))

pub number_bits_of : (n b : ℕ) → b < 2 ^ n → number (bits_of n b) ≡ b
unfolding number bits_of
number_bits_of zero b h = sym (lt-one h)
number_bits_of (suc n) b h =
    ap₂ (λ (x y : ℕ). x * 2 + y)
    (number_bits_of n (b / 2) (let k : b < 2 ^ n * 2 = (rw pow-suc at h) in omega arith))
    (digit-bit (b % 2) (odd_lt b))
    ∙ div-add-mod' b 2

-- THE REMAINDER THEOREM. For each message m there are q(x) and r(x), r(x) of degree below 32, with dividend m = q(x) G(x) + r(x)
-- (`crc_divided`); and whichever they are, the CRC of m is that r(x), complemented (`crc_is_remainder`).
use mathlib.Core.Path.{◌≡◌, refl, sym, ap, ◌∙◌}
use mathlib.Core.Bool.{Bool, true, false, not}
use mathlib.Core.List.{List, [], ◌∷◌, ◌++◌, map}
use Prim.Native.Nat.{ℕ, zero, suc, ◌+◌}
use native.Mathlib.Nat.{suc-add}
use native.Mathlib.Omega.{arith}
use lib.ListN.{length, replicate, length-append}
use Rattle.crc32.specs.Crc32.{plus, add, powers, low, generator, remainder, bits, number, dividend, crc32}
use Rattle.crc32.specs.Remainder.{product, Divided}
use Rattle.crc32.proofs.Coefficients.{add_assoc, add_twice, zeros-add, length-add, length-low, length-low-add, length-remainder}

-- the quotient of the long division: the highest coefficient at each step
unfoldable pub quotient : ℕ → List Bool → List Bool
quotient zero p = []
quotient (suc n) [] = []
quotient (suc n) (true ∷ p) = true ∷ quotient n (add low p)
quotient (suc n) (false ∷ p) = false ∷ quotient n p

length_quotient : (n : ℕ) (p : List Bool) → length p ≡ n + 32 → length (quotient n p) ≡ n
unfolding quotient
length_quotient zero p h = refl
length_quotient (suc n) [] h = absurd (omega arith)
length_quotient (suc n) (true ∷ p) h = ap suc (length_quotient n (add low p) (length-low-add n p (omega arith)))
length_quotient (suc n) (false ∷ p) h = ap suc (length_quotient n p (omega arith))

-- q(x) G(x) + r(x)
abbrev sum : List Bool → ℕ → List Bool → List Bool
sum q n r = add (product q generator) (replicate n false ++ r)

sum_none : (r : List Bool) → length r ≡ 32 → sum [] 0 r ≡ r
unfolding product low powers
sum_none r h = zeros-add 32 r (omega arith)

sum_one : (q : List Bool) (n : ℕ) (r : List Bool) → sum (true ∷ q) (suc n) r ≡ true ∷ add low (sum q n r)
unfolding product add plus
sum_one q n r = ap (λ (l : List Bool). true ∷ l) (add_assoc low (product q generator) (replicate n false ++ r))

sum_zero : (q : List Bool) (n : ℕ) (r : List Bool) → sum (false ∷ q) (suc n) r ≡ false ∷ sum q n r
unfolding product add plus
sum_zero q n r = refl

equation : (n : ℕ) (p : List Bool) → length p ≡ n + 32 → p ≡ sum (quotient n p) n (remainder n p)
unfolding quotient remainder
equation zero p h = sym (sum_none p h)
equation (suc n) [] h = absurd (omega arith)
equation (suc n) (true ∷ p) h =
    let p' : List Bool = add low p in
    ap (λ (l : List Bool). true ∷ l)
    (sym (add_twice low p (omega (arith, length-low))) ∙ ap (add low) (equation n p' (length-low-add n p (omega arith))))
    ∙ sym (sum_one (quotient n p') n (remainder n p'))
equation (suc n) (false ∷ p) h =
    ap (λ (l : List Bool). false ∷ l) (equation n p (omega arith)) ∙ sym (sum_zero (quotient n p) n (remainder n p))

-- the long division finds a quotient and a remainder
pub divided : (n : ℕ) (p : List Bool) → length p ≡ n + 32 → Divided n p (quotient n p) (remainder n p)
divided n p h = record { quotient_size = length_quotient n p h; degree = length-remainder n p h; equation = equation n p h }

length_sum : (q : List Bool) (n : ℕ) (r : List Bool) → length q ≡ n → length r ≡ 32 → length (sum q n r) ≡ n + 32
length_sum [] zero r hq hr = ap length (sum_none r hr) ∙ hr
length_sum [] (suc n) r hq hr = absurd (omega arith)
length_sum (a ∷ q) zero r hq hr = absurd (omega arith)
length_sum (true ∷ q) (suc n) r hq hr =
    ap length (sum_one q n r) ∙ ap suc (length-low-add n (sum q n r) (length_sum q n r (omega arith) hr)) ∙ sym (suc-add n 32)
length_sum (false ∷ q) (suc n) r hq hr =
    ap length (sum_zero q n r) ∙ ap suc (length_sum q n r (omega arith) hr) ∙ sym (suc-add n 32)

remainder_sum : (q : List Bool) (n : ℕ) (r : List Bool) → length q ≡ n → length r ≡ 32 → remainder n (sum q n r) ≡ r
unfolding remainder
remainder_sum [] zero r hq hr = sum_none r hr
remainder_sum [] (suc n) r hq hr = absurd (omega arith)
remainder_sum (a ∷ q) zero r hq hr = absurd (omega arith)
remainder_sum (true ∷ q) (suc n) r hq hr =
    ap (remainder (suc n)) (sum_one q n r)
    ∙ ap (remainder n) (add_twice low (sum q n r) (omega (arith, length-low, length_sum q n r (omega arith) hr)))
    ∙ remainder_sum q n r (omega arith) hr
remainder_sum (false ∷ q) (suc n) r hq hr = ap (remainder (suc n)) (sum_zero q n r) ∙ remainder_sum q n r (omega arith) hr

-- the remainder is the only one
pub remainder_only : {n : ℕ} {p q r : List Bool} → Divided n p q r → remainder n p ≡ r
remainder_only {n} {p} {q} {r} d = ap (remainder n) d.equation ∙ remainder_sum q n r d.quotient_size d.degree

-- ---- of a message

pub length-dividend : (m : List ℕ) → length (dividend m) ≡ length (bits m) + 32
unfolding dividend
length-dividend m =
    let n : length (bits m ++ replicate 32 false) ≡ length (bits m) + 32 = length-append (bits m) (replicate 32 false) in
    length-add (replicate 32 true) (bits m ++ replicate 32 false) (omega arith) ∙ n

-- what the definition divides, and what it leaves
pub crc_divided : (m : List ℕ)
    → Divided (length (bits m)) (dividend m) (quotient (length (bits m)) (dividend m)) (remainder (length (bits m)) (dividend m))
crc_divided m = divided (length (bits m)) (dividend m) (length-dividend m)

-- no other quotient and remainder give another CRC
pub crc_is_remainder : (m : List ℕ) {q r : List Bool} → Divided (length (bits m)) (dividend m) q r → crc32 m ≡ number (map not r)
unfolding crc32
crc_is_remainder m d = ap (λ (l : List Bool). number (map not l)) (remainder_only d)

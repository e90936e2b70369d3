-- The words of the tables, computed: the shift in a form that evaluates at numerals, and the lists that it makes (`lower`, `upper`).
-- The literals of the code are right exactly where they are these lists.
use mathlib.Core.Path.{◌≡◌, refl, sym, ap, ap₂, ◌∙◌}
use mathlib.Core.List.{List, [], ◌∷◌, ◌++◌, map}
use Prim.Native.Nat.{ℕ, zero, suc, ◌+◌, ◌*◌, ◌/◌, ◌%◌, ◌^◌, ◌-◌, ◌<◌, ◌≤◌}
use native.Mathlib.Nat.{pow-suc, one-mul}
use native.Mathlib.Decide.{dec_lt}
use native.Mathlib.Omega.{arith}
use lib.Arith.{lt-one}
use lib.Bits.{differ, bit_xor, xor_step, xor_shifted}
use lib.Pow.{pow-lt}
use lib.ListN.{length, get_or, length-map, length-append, get_or-append}
use lib.Seq.{get_or-append-add}
use Rattle.crc32.specs.Register.{poly, shift, shifts, Tables}
use Rattle.crc32.proofs.Shift.{shift_lt, shifts_xor, shifts-add, shifts_lt}

-- the exclusive or of the n low digits
abbrev xor_low : ℕ → ℕ → ℕ → ℕ
xor_low zero a b = 0
xor_low (suc n) a b = xor_low n (a / 2) (b / 2) * 2 + differ (a % 2) (b % 2)

xor_low_is : (n a b : ℕ) → a < 2 ^ n → b < 2 ^ n → xor_low n a b ≡ bit_xor a b
xor_low_is zero a b ha hb = sym (ap₂ bit_xor (lt-one ha) (lt-one hb))
xor_low_is (suc n) a b ha hb =
    let ka : a < 2 ^ n * 2 = (rw pow-suc at ha) in
    let kb : b < 2 ^ n * 2 = (rw pow-suc at hb) in
    ap (λ (x : ℕ). x * 2 + differ (a % 2) (b % 2)) (xor_low_is n (a / 2) (b / 2) (omega arith) (omega arith)) ∙ sym (xor_step a b)

-- n shifts
abbrev steps : ℕ → ℕ → ℕ
steps zero r = r
steps (suc n) r = steps n (xor_low 32 (r / 2) (r % 2 * 0xEDB88320))

steps_is : (n r : ℕ) → r < 2 ^ 32 → steps n r ≡ shifts n r
unfolding shift shifts poly
steps_is zero r h = refl
steps_is (suc n) r h =
    ap (steps n) (xor_low_is 32 (r / 2) (r % 2 * 0xEDB88320) (omega arith) (omega arith)) ∙ steps_is n (shift r) (shift_lt r h)

-- A row by doubling: the words of the numbers below 2^m, and those again with the word of 2^m added.
abbrev span : List ℕ → List ℕ
span [] = 0 ∷ []
span (b ∷ bs) = let l : List ℕ = span bs in l ++ map (xor_low 32 b) l

-- m rows, of which the first is spanned by l and each is 8 shifts after the one before
abbrev rows : List ℕ → ℕ → List ℕ
rows l zero = []
rows l (suc m) = span l ++ rows (map (steps 8) l) m

-- the powers of 2 below 2^8 after 8 f shifts
abbrev base : ℕ → List ℕ
base zero = 128 ∷ 64 ∷ 32 ∷ 16 ∷ 8 ∷ 4 ∷ 2 ∷ 1 ∷ []
base (suc f) = map (steps 8) (base f)

-- the same, as the definition has it: those below 2^m after n shifts
powers : ℕ → ℕ → List ℕ
powers n zero = []
powers n (suc m) = shifts n (2 ^ m) ∷ powers n m

word_lt : (n m : ℕ) → m < 32 → shifts n (2 ^ m) < 2 ^ 32
word_lt n m h = shifts_lt n (2 ^ m) (pow-lt h)

powers_next : (n m : ℕ) → m ≤ 32 → map (steps 8) (powers n m) ≡ powers (n + 8) m
unfolding powers
powers_next n zero h = refl
powers_next n (suc m) h =
    ap₂ ◌∷◌
    (steps_is 8 (shifts n (2 ^ m)) (word_lt n m (omega arith)) ∙ sym (shifts-add n 8 (2 ^ m)))
    (powers_next n m (omega arith))

base_is : (f : ℕ) → base f ≡ powers (8 * f) 8
unfolding powers shifts
base_is zero = refl
base_is (suc f) =
    let c : 8 * f + 8 ≡ 8 * suc f = omega arith in
    ap (map (steps 8)) (base_is f) ∙ powers_next (8 * f) 8 (omega arith) ∙ ap (λ (n : ℕ). powers n 8) c

-- ---- the word k of a row is k after its shifts

map_at : (g : ℕ → ℕ) (l : List ℕ) (k : ℕ) → k < length l → get_or (map g l) k 0 ≡ g (get_or l k 0)
map_at g [] k h = absurd (omega arith)
map_at g (x ∷ l) zero h = refl
map_at g (x ∷ l) (suc k) h = map_at g l k (omega arith)

length_span : (n m : ℕ) → length (span (powers n m)) ≡ 2 ^ m
unfolding powers
length_span n zero = refl
length_span n (suc m) =
    let l : List ℕ = span (powers n m) in
    let g : ℕ → ℕ = xor_low 32 (shifts n (2 ^ m)) in
    length-append l (map g l) ∙ rw pow-suc (omega (arith, length-map l g, length_span n m))

zero_stays : (n : ℕ) → shifts n 0 ≡ 0
unfolding shifts shift poly
zero_stays zero = refl
zero_stays (suc n) = zero_stays n

-- a word of the second half: 2^m + k
upper_half : (n m k : ℕ) → m < 32 → k < 2 ^ m → xor_low 32 (shifts n (2 ^ m)) (shifts n k) ≡ shifts n (2 ^ m + k)
upper_half n m k h hk =
    let p : 1 * 2 ^ m ≡ 2 ^ m = one-mul (2 ^ m) in
    let q : k < 2 ^ 32 = omega (arith, pow-lt h) in
    xor_low_is 32 (shifts n (2 ^ m)) (shifts n k) (word_lt n m h) (shifts_lt n k q)
    ∙ sym (shifts_xor n (2 ^ m) k)
    ∙ ap (λ (x : ℕ). shifts n (bit_xor x k)) (sym p)
    ∙ ap (shifts n) (xor_shifted 1 m k hk ∙ ap (λ (x : ℕ). x + k) p)

span_at : (n m k : ℕ) → m ≤ 32 → k < 2 ^ m → get_or (span (powers n m)) k 0 ≡ shifts n k
unfolding powers
span_at n zero k h hk = ap (λ (x : ℕ). get_or (0 ∷ []) x 0) (lt-one hk) ∙ sym (ap (shifts n) (lt-one hk) ∙ zero_stays n)
span_at n (suc m) k h hk = go (dec_lt k (2 ^ m)) (λ (i : ℕ) (hi : i < 2 ^ m). span_at n m i (omega arith) hi)
  where
    l : List ℕ
    l = span (powers n m)

    g : ℕ → ℕ
    g = xor_low 32 (shifts n (2 ^ m))

    go : Dec (k < 2 ^ m) → ((i : ℕ) → i < 2 ^ m → get_or l i 0 ≡ shifts n i) → get_or (l ++ map g l) k 0 ≡ shifts n k
    go (yes b) at = get_or-append l (map g l) 0 k (omega (arith, length_span n m)) ∙ at k b
    go (no c) at =
        let i : ℕ = k - 2 ^ m in
        let t : k < 2 ^ m * 2 = (rw pow-suc at hk) in
        let b : i < 2 ^ m = omega arith in
        let e : k ≡ length l + i = omega (arith, length_span n m) in
        let s : 2 ^ m + i ≡ k = omega arith in
        ap (λ (x : ℕ). get_or (l ++ map g l) x 0) e
        ∙ get_or-append-add l (map g l) i 0
        ∙ map_at g l i (omega (arith, length_span n m))
        ∙ ap g (at i b)
        ∙ upper_half n m i (omega arith) b
        ∙ ap (shifts n) s

rows_at : (m j k n : ℕ) → j < m → k < 256 → get_or (rows (powers n 8) m) (j * 256 + k) 0 ≡ shifts (n + 8 * j) k
rows_at zero j k n hj hk = absurd (omega arith)
rows_at (suc m) zero k n hj hk =
    let i : 0 * 256 + k ≡ k = omega arith in
    let c : n ≡ n + 8 * 0 = omega arith in
    ap (λ (x : ℕ). get_or (rows (powers n 8) (suc m)) x 0) i
    ∙ get_or-append (span (powers n 8)) (rows (map (steps 8) (powers n 8)) m) 0 k (omega (arith, length_span n 8))
    ∙ span_at n 8 k (omega arith) hk
    ∙ ap (λ (x : ℕ). shifts x k) c
rows_at (suc m) (suc j) k n hj hk =
    let l : List ℕ = span (powers n 8) in
    let i : suc j * 256 + k ≡ length l + (j * 256 + k) = omega (arith, length_span n 8) in
    let c : n + 8 + 8 * j ≡ n + 8 * suc j = omega arith in
    ap (λ (x : ℕ). get_or (rows (powers n 8) (suc m)) x 0) i
    ∙ get_or-append-add l (rows (map (steps 8) (powers n 8)) m) (j * 256 + k) 0
    ∙ ap (λ (p : List ℕ). get_or (rows p m) (j * 256 + k) 0) (powers_next n 8 (omega arith))
    ∙ rows_at m j k (n + 8) (omega arith) hk
    ∙ ap (λ (x : ℕ). shifts x k) c

-- the eight tables from the f-th on, that of one byte's shifts the first
from : (f j k : ℕ) → j < 8 → k < 256 → get_or (rows (base (f + 1)) 8) (j * 256 + k) 0 ≡ shifts (8 * (f + j + 1)) k
from f j k hj hk =
    let c : 8 * (f + 1) + 8 * j ≡ 8 * (f + j + 1) = omega arith in
    ap (λ (l : List ℕ). get_or (rows l 8) (j * 256 + k) 0) (base_is (f + 1))
    ∙ rows_at 8 j k (8 * (f + 1)) hj hk
    ∙ ap (λ (x : ℕ). shifts x k) c

pub lower : Tables 0 (rows (base 1) 8)
lower = record { word = from 0 }

pub upper : Tables 8 (rows (base 9) 8)
upper = record { word = from 8 }

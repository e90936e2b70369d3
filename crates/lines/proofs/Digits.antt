-- A number's digits: the last one, the ones before it, and how many there are.
use Prim.Native.Nat.{ℕ, zero, suc, ◌+◌, ◌/◌, ◌%◌, ◌^◌, ◌≤◌, ◌<◌}
use native.Mathlib.Nat.{pow-suc}
use native.Mathlib.Omega.{arith}
use mathlib.Core.Path.{◌≡◌, refl, sym, ap, ◌∙◌}
use mathlib.Core.Bool.{Bool, true, false}
use mathlib.Core.List.{[], ◌∷◌, ◌++◌}
use lib.Dec.{ltb}
use lib.ListN.{length, length-append}
use borrow.Author.Tests.{ltb-true, ltb-false, lt-ltb, le-ltb}
use Rattle.lines.specs.Text.{digits, decimal}

one : (k n : ℕ) → n < 10 → digits (suc k) n ≡ (48 + n) ∷ []
unfolding digits
one k n h = rw (lt-ltb _ _ h)

more : (k n : ℕ) → 10 ≤ n → digits (suc k) n ≡ digits k (n / 10) ++ ((48 + n % 10) ∷ [])
unfolding digits
more k n h = rw (le-ltb _ _ h)

-- n / 10 has a digit less
shorter : (k n : ℕ) → n < 10 ^ suc (suc k) → n / 10 < 10 ^ suc k
shorter k n h = omega (arith, pow-suc 10 (suc k))

-- as many digits allowed as there are, or one more: the same digits
enough : (k n : ℕ) → n < 10 ^ suc k → digits (suc k) n ≡ digits (suc (suc k)) n
enough zero n h = one 0 n h ∙ sym (one 1 n h)
enough (suc k) n h = go (enough k (n / 10) (shorter k n h)) (ltb n 10) refl
  where
    go : digits (suc k) (n / 10) ≡ digits (suc (suc k)) (n / 10) → (b : Bool) → ltb n 10 ≡ b → digits (suc (suc k)) n ≡ digits (suc (suc (suc k))) n
    go e true t = let l = ltb-true n 10 t in one (suc k) n l ∙ sym (one (suc (suc k)) n l)
    go e false t =
        let l = ltb-false n 10 t in
        more (suc k) n l ∙ ap (λ ds. ds ++ ((48 + n % 10) ∷ [])) e ∙ sym (more (suc (suc k)) n l)

-- a number below 10^m has at most m digits
at_most : (k m n : ℕ) → n < 10 ^ suc m → length (digits k n) ≤ suc m
unfolding digits
at_most zero m n h = omega arith
at_most (suc k) m n h = go (λ i j l. at_most k i j l) m h (ltb n 10) refl
  where
    go : ((i j : ℕ) → j < 10 ^ suc i → length (digits k j) ≤ suc i) → (m : ℕ) → n < 10 ^ suc m → (b : Bool) → ltb n 10 ≡ b → length (digits (suc k) n) ≤ suc m
    go less m h true t = rw (one k n (ltb-true n 10 t)) (omega arith)
    go less zero h false t = omega (arith, ltb-false n 10 t)
    go less (suc m) h false t = rw (more k n (ltb-false n 10 t), length-append) (omega (arith, less m (n / 10) (shorter m n h)))

-- the digits of a number of a word
pub decimal_one : (n : ℕ) → n < 10 → decimal n ≡ (48 + n % 10) ∷ []
decimal_one n h = let e : n ≡ n % 10 = omega arith in one 19 n h ∙ ap (λ k. (48 + k) ∷ []) e

pub decimal_more : (n : ℕ) → 10 ≤ n → n < 18446744073709551616 → decimal n ≡ decimal (n / 10) ++ ((48 + n % 10) ∷ [])
decimal_more n h l = more 19 n h ∙ ap (λ ds. ds ++ ((48 + n % 10) ∷ [])) (enough 18 (n / 10) (omega arith))

pub decimal_length : (n : ℕ) → 10 ≤ n → n < 18446744073709551616 → length (decimal n) ≡ length (decimal (n / 10)) + 1
decimal_length n h l = rw (decimal_more n h l, length-append) refl

-- twenty digits, and ten of half a word
pub twenty : (n : ℕ) → n < 18446744073709551616 → length (decimal n) ≤ 20
twenty n h = at_most 20 19 n (omega arith)

pub ten : (n : ℕ) → n < 4294967296 → length (decimal n) ≤ 10
ten n h = at_most 20 9 n (omega arith)

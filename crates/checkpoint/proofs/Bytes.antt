-- The library's bytes of a number are the definition's word and long word, written and read.
use Rattle.std.proofs.Common.{◌≡◌, ℕ, ◌+◌, ◌/◌, ◌%◌, ◌<◌, List, refl, ap, ◌∙◌, drop, w32, w64, arith, get_or-take, get_or-drop}
use Rattle.std.specs.Int.{to_le_bytes, from_le_bytes}
use Rattle.model.specs.Tables.{at, region}
use Rattle.model.specs.Checkpoint.{word, long, word_at, long_at}

pub word_is : (x : ℕ) → to_le_bytes w32 x ≡ word x
unfolding word
word_is x = refl

pub long_is : (x : ℕ) → to_le_bytes w64 x ≡ long x
unfolding long word
long_is x =
    let b₀ : x % 4294967296 % 256 ≡ x % 256 = omega arith in
    let b₁ : x % 4294967296 / 256 % 256 ≡ x / 256 % 256 = omega arith in
    let b₂ : x % 4294967296 / 65536 % 256 ≡ x / 65536 % 256 = omega arith in
    let b₃ : x % 4294967296 / 16777216 % 256 ≡ x / 16777216 % 256 = omega arith in
    let b₅ : x / 4294967296 / 256 % 256 ≡ x / 1099511627776 % 256 = omega arith in
    let b₆ : x / 4294967296 / 65536 % 256 ≡ x / 281474976710656 % 256 = omega arith in
    let b₇ : x / 4294967296 / 16777216 % 256 ≡ x / 72057594037927936 % 256 = omega arith in
    cc

-- byte k of n bytes from i on
byte : (s : List ℕ) (i n k : ℕ) {j : ℕ} → k < n → i + k ≡ j → at (region i n s) k ≡ at s j
byte s i n k h e = get_or-take n (drop i s) k 0 h ∙ get_or-drop i s k 0 ∙ ap (at s) e

pub word_read : (s : List ℕ) (i : ℕ) → from_le_bytes w32 (region i 4 s) ≡ word_at s i
unfolding word_at
word_read s i =
    let b₀ : at (region i 4 s) 0 ≡ at s i = byte s i 4 0 (omega arith) (omega arith) in
    let b₁ : at (region i 4 s) 1 ≡ at s (i + 1) = byte s i 4 1 (omega arith) refl in
    let b₂ : at (region i 4 s) 2 ≡ at s (i + 2) = byte s i 4 2 (omega arith) refl in
    let b₃ : at (region i 4 s) 3 ≡ at s (i + 3) = byte s i 4 3 (omega arith) refl in
    omega arith

pub long_read : (s : List ℕ) (i : ℕ) → from_le_bytes w64 (region i 8 s) ≡ long_at s i
unfolding word_at long_at
long_read s i =
    let b₀ : at (region i 8 s) 0 ≡ at s i = byte s i 8 0 (omega arith) (omega arith) in
    let b₁ : at (region i 8 s) 1 ≡ at s (i + 1) = byte s i 8 1 (omega arith) refl in
    let b₂ : at (region i 8 s) 2 ≡ at s (i + 2) = byte s i 8 2 (omega arith) refl in
    let b₃ : at (region i 8 s) 3 ≡ at s (i + 3) = byte s i 8 3 (omega arith) refl in
    let b₄ : at (region i 8 s) 4 ≡ at s (i + 4) = byte s i 8 4 (omega arith) refl in
    let b₅ : at (region i 8 s) 5 ≡ at s (i + 4 + 1) = byte s i 8 5 (omega arith) (omega arith) in
    let b₆ : at (region i 8 s) 6 ≡ at s (i + 4 + 2) = byte s i 8 6 (omega arith) (omega arith) in
    let b₇ : at (region i 8 s) 7 ≡ at s (i + 4 + 3) = byte s i 8 7 (omega arith) (omega arith) in
    omega arith

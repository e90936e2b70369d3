-- Words in bytes: how long they are, reading past what stands before them, and what is written is read back.
use Prim.Native.Nat.{ℕ, zero, suc, ◌+◌, ◌*◌, ◌/◌, ◌%◌, ◌<◌}
use native.Mathlib.Nat.{add-zero, add_assoc, div-add-mod', div-div-eq-div-mul}
use native.Mathlib.Omega.{arith}
use mathlib.Core.Path.{◌≡◌, refl, sym, ap, ap₂, ◌∙◌}
use mathlib.Core.List.{List, [], ◌∷◌, ◌++◌, append_assoc}
use lib.ListN.{length, drop, length-append}
use lib.Seq.{get_or-drop, drop_at}
use Rattle.model.specs.Tables.{at}
use Rattle.model.specs.Checkpoint.{word, long, words, word_at, long_at, words_at}

-- every number is a word
abbrev pub Words : List ℕ → Type 0
Words xs = (i : ℕ) → at xs i < 4294967296

-- lengths
pub length-word : (x : ℕ) → length (word x) ≡ 4
unfolding word
length-word x = refl

pub length-long : (x : ℕ) → length (long x) ≡ 8
unfolding long word
length-long x = refl

pub length-words : (xs : List ℕ) → length (words xs) ≡ 4 * length xs
unfolding words
length-words [] = refl
length-words (x ∷ xs) = length-append (word x) (words xs) ∙ omega (arith, length-word x, length-words xs)

pub length-read : (n : ℕ) (s : List ℕ) (i : ℕ) → length (words_at n s i) ≡ n
unfolding words_at
length-read zero s i = refl
length-read (suc n) s i = ap suc (length-read n s (i + 4))

pub words_append : (xs ys : List ℕ) → words (xs ++ ys) ≡ words xs ++ words ys
unfolding words
words_append [] ys = refl
words_append (x ∷ xs) ys = ap (λ r. word x ++ r) (words_append xs ys) ∙ sym (append_assoc (word x) (words xs) (words ys))

-- reading past the first k bytes
pub word-drop : (k : ℕ) (s : List ℕ) (i : ℕ) → word_at (drop k s) i ≡ word_at s (k + i)
unfolding word_at
word-drop k s i = simp (get_or-drop, add_assoc)

pub long-drop : (k : ℕ) (s : List ℕ) (i : ℕ) → long_at (drop k s) i ≡ long_at s (k + i)
unfolding long_at
long-drop k s i = simp (word-drop, add_assoc)

pub words-drop : (n k : ℕ) (s : List ℕ) (i : ℕ) → words_at n (drop k s) i ≡ words_at n s (k + i)
unfolding words_at
words-drop zero k s i = refl
words-drop (suc n) k s i =
    ap₂ (λ x r. x ∷ r) (word-drop k s i) (words-drop n k s (i + 4) ∙ ap (words_at n s) (sym (add_assoc k i 4)))

-- any such reading at the end of what stands before is the reading of the rest
past : {A : Type 0} (f : List ℕ → ℕ → A) → ((k : ℕ) (s : List ℕ) (i : ℕ) → f (drop k s) i ≡ f s (k + i))
    → (a r : List ℕ) (k : ℕ) → length a ≡ k → f (a ++ r) k ≡ f r 0
past f law a r k h = ap (f (a ++ r)) (sym (add-zero k)) ∙ sym (law k (a ++ r) 0) ∙ ap (λ z. f z 0) (drop_at a r k h)

-- four bytes are the digits of a word
digits : (r₀ r₁ r₂ : ℕ) {x q₁ q₂ q₃ r₃ : ℕ} → q₁ * 256 + r₀ ≡ x → q₂ * 256 + r₁ ≡ q₁ → q₃ * 256 + r₂ ≡ q₂ → r₃ ≡ q₃
    → r₀ + r₁ * 256 + r₂ * 65536 + r₃ * 16777216 ≡ x
digits r₀ r₁ r₂ a b c d = omega arith

last_digit : (x : ℕ) → x < 4294967296 → x / 16777216 % 256 ≡ x / 16777216
last_digit x h = omega arith

-- what is written in front is read back
pub word_back : (x : ℕ) (r : List ℕ) → x < 4294967296 → word_at (word x ++ r) 0 ≡ x
unfolding word_at word
word_back x r h =
    digits (x % 256) (x / 256 % 256) (x / 65536 % 256) (div-add-mod' x 256)
    (ap (λ q. q * 256 + x / 256 % 256) (sym (div-div-eq-div-mul x 256 256)) ∙ div-add-mod' (x / 256) 256)
    (ap (λ q. q * 256 + x / 65536 % 256) (sym (div-div-eq-div-mul x 65536 256)) ∙ div-add-mod' (x / 65536) 256)
    (last_digit x h)

pub long-back : (x : ℕ) (r : List ℕ) → x < 18446744073709551616 → long_at (long x ++ r) 0 ≡ x
unfolding long_at long
long-back x r h = ap (λ z. word_at z 0 + word_at z 4 * 4294967296) (append_assoc low high r) ∙ ap₂ (λ a b. a + b * 4294967296) first second ∙ omega arith
  where
    low : List ℕ
    low = word (x % 4294967296)

    high : List ℕ
    high = word (x / 4294967296)

    first : word_at (low ++ (high ++ r)) 0 ≡ x % 4294967296
    first = word_back (x % 4294967296) (high ++ r) (omega arith)

    second : word_at (low ++ (high ++ r)) 4 ≡ x / 4294967296
    second = past word_at word-drop low (high ++ r) 4 (length-word (x % 4294967296)) ∙ word_back (x / 4294967296) r (omega arith)

pub words_back : (xs r : List ℕ) → Words xs → words_at (length xs) (words xs ++ r) 0 ≡ xs
unfolding words words_at
words_back [] r h = refl
words_back (x ∷ xs) r h =
    ap (λ z. word_at z 0 ∷ words_at (length xs) z 4) (append_assoc (word x) (words xs) r)
    ∙ ap₂ (λ y ys. y ∷ ys) (word_back x (words xs ++ r) (h 0))
    (past (words_at (length xs)) (words-drop (length xs)) (word x) (words xs ++ r) 4 (length-word x) ∙ words_back xs r (λ i. h (suc i)))

-- and behind other bytes
module _ (a : List ℕ) (k : ℕ) (h : length a ≡ k) (r : List ℕ) where
  pub word-at : (x : ℕ) → x < 4294967296 → word_at (a ++ (word x ++ r)) k ≡ x
  word-at x l = past word_at word-drop a (word x ++ r) k h ∙ word_back x r l

  pub long-at : (x : ℕ) → x < 18446744073709551616 → long_at (a ++ (long x ++ r)) k ≡ x
  long-at x l = past long_at long-drop a (long x ++ r) k h ∙ long-back x r l

  pub words-at : (xs : List ℕ) (n : ℕ) → length xs ≡ n → Words xs → words_at n (a ++ (words xs ++ r)) k ≡ xs
  words-at xs n l ws =
      past (words_at n) (words-drop n) a (words xs ++ r) k h ∙ ap (λ m. words_at m (words xs ++ r) 0) (sym l) ∙ words_back xs r ws

-- the i-th of the words read
pub words_get : (n : ℕ) (s : List ℕ) (b i : ℕ) → i < n → at (words_at n s b) i ≡ word_at s (b + i * 4)
unfolding words_at
words_get zero s b i h = absurd (omega arith)
words_get (suc n) s b zero h = ap (word_at s) (sym (add-zero b))
words_get (suc n) s b (suc i) h = words_get n s (b + 4) i (omega arith) ∙ ap (word_at s) (omega arith)

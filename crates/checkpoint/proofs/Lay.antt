-- Laying in: what is laid in right behind what was laid in before is one thing laid in. Encoders, fills and readings go by it.
use Prim.Native.Nat.{ℕ, zero, suc, ◌+◌, ◌*◌, ◌-◌, ◌≤◌, ◌<◌}
use native.Mathlib.Nat.{add-zero}
use native.Mathlib.Numerals.{add-one}
use native.Mathlib.Omega.{arith}
use mathlib.Core.Path.{◌≡◌, refl, sym, ap, ap₂, ◌∙◌}
use mathlib.Core.Bool.{◌&&◌}
use mathlib.Core.List.{List, [], ◌∷◌, ◌++◌, append_assoc}
use lib.ListN.{length, take, drop, set, replicate, length-append, length-take, length-drop, length-replicate, take-append-drop}
use borrow.Rule.Slice.PartMut.{put_mid}
use lib.Seq.{take_all, take_at, drop_at, take-suc, drop-drop, drop-append-add, set_split, length-take-le}
use lib.Dec.{leb}
use Rattle.std.specs.List.{list_all, range_with_len}
use Rattle.std.proofs.lemmas.List.{take_more_set}
use Rattle.model.specs.Lists.{splice, up_to}
use Rattle.model.specs.Tables.{at, region}
use Rattle.model.specs.Checkpoint.{word, words, word_at, words_at}
use Rattle.model.proofs.Bytes.{length-words, length-read, words_append}

-- nothing
pub lay_none : (d : List ℕ) (k : ℕ) → splice k [] d ≡ d
unfolding splice
lay_none d k = ap (λ j. take k d ++ drop j d) (add-zero k) ∙ take-append-drop k d

pub lay_length : (d a : List ℕ) (k : ℕ) → k + length a ≤ length d → length (splice k a d) ≡ length d
unfolding splice
lay_length d a k h = simp (length-append, length-take, length-drop) (omega arith)

-- what lies from there on
pub lay_from : (d a : List ℕ) (k : ℕ) → k ≤ length d → drop k (splice k a d) ≡ a ++ drop (k + length a) d
unfolding splice
lay_from d a k h = drop_at (take k d) (a ++ drop (k + length a) d) k (length-take-le k d h)

-- what is written into a part of the slice
pub lay_part : (d a : List ℕ) (i j : ℕ) → j ≡ i + length a → put_mid i (j - i) d a ≡ splice i a d
unfolding splice
lay_part d a i j e =
    let k : i + (j - i) ≡ i + length a = omega arith in
    ap (λ z. take i d ++ (a ++ z)) (drop-drop (j - i) i d ∙ ap (λ m. drop m d) k)

-- a part of the slice filled
pub lay_fill : (d : List ℕ) (i j n v : ℕ) {a : List ℕ} → i + n ≡ j → j ≤ length d → a ≡ replicate (length (region i (j - i) d)) v
    → put_mid i (j - i) d a ≡ splice i (replicate n v) d
lay_fill d i j n v {a} e h ea =
    let l : length (region i (j - i) d) ≡ n = simp (length-take, length-drop) (omega arith) in
    let q : a ≡ replicate n v = ea ∙ ap (λ k. replicate k v) l in
    lay_part d a i j (omega (arith, ap length q, length-replicate n v)) ∙ ap (λ z. splice i z d) q

-- b right behind a
pub lay_next : (d a b : List ℕ) (k m : ℕ) {x : List ℕ} → x ≡ splice k a d → k ≤ length d → k + length a ≡ m → splice m b x ≡ splice k (a ++ b) d
unfolding splice
lay_next d a b k m e h q =
    ap (splice m b) (e ∙ sym (append_assoc (take k d) a rest))
    ∙ ap₂ (λ y z. y ++ (b ++ z)) (take_at (take k d ++ a) rest m l) behind
    ∙ append_assoc (take k d) a (b ++ drop (k + length (a ++ b)) d)
    ∙ ap (λ z. take k d ++ z) (sym (append_assoc a b (drop (k + length (a ++ b)) d)))
  where
    rest : List ℕ
    rest = drop (k + length a) d

    l : length (take k d ++ a) ≡ m
    l = length-append (take k d) a ∙ omega (arith, length-take-le k d h)

    behind : drop (m + length b) (take k d ++ a ++ rest) ≡ drop (k + length (a ++ b)) d
    behind =
        let n : k + length a + length b ≡ k + length (a ++ b) = omega (arith, length-append a b) in
        ap (λ j. drop (j + length b) (take k d ++ a ++ rest)) (sym l)
        ∙ drop-append-add (take k d ++ a) rest (length b)
        ∙ drop-drop (length b) (k + length a) d
        ∙ ap (λ j. drop j d) n

-- one store, and one right behind a
lay_one : (d : List ℕ) (i x : ℕ) → i < length d → set d i x ≡ splice i (x ∷ []) d
unfolding splice
lay_one d i x h =
    let n : suc i ≡ i + length (x ∷ []) = omega arith in
    set_split d i x h ∙ ap (λ k. take i d ++ (x ∷ drop k d)) n

pub lay_store : (d a : List ℕ) (k i v : ℕ) {x : List ℕ} → x ≡ splice k a d → k + length a ≡ i → i < length d → set x i v ≡ splice k (a ++ (v ∷ [])) d
lay_store d a k i v {x} e q h =
    lay_one x i v (rw (e, lay_length d a k (omega arith)) h) ∙ lay_next d a (v ∷ []) k i e (omega arith) q

-- one turn of `put_words`
words_more : (ws : List ℕ) (i : ℕ) → i < length ws → words (take i ws) ++ word (at ws i) ≡ words (take (i + 1) ws)
unfolding words word
words_more ws i h = sym (ap words (ap (λ k. take k ws) (add-one i) ∙ take-suc ws i 0 h) ∙ words_append (take i ws) (at ws i ∷ []))

pub put_none : (d : List ℕ) (k : ℕ) (ws : List ℕ) → d ≡ splice k (words (take 0 ws)) d
unfolding words
put_none d k ws = sym (lay_none d k)

module _ (d ws : List ℕ) (k i : ℕ) {x : List ℕ} (e : x ≡ splice k (words (take i ws)) d) where
  pub put_more : i < length ws → k ≤ length d → splice (k + 4 * i) (word (at ws i)) x ≡ splice k (words (take (i + 1) ws)) d
  put_more h l =
      let q : length (words (take i ws)) ≡ 4 * i = length-words (take i ws) ∙ ap (λ j. 4 * j) (length-take-le i ws (omega arith)) in
      lay_next d (words (take i ws)) (word (at ws i)) k (k + 4 * i) e l (ap (λ j. k + j) q) ∙ ap (λ r. splice k r d) (words_more ws i h)

  pub put_end : i ≡ length ws → x ≡ splice k (words ws) d
  put_end h = e ∙ ap (λ w. splice k (words w) d) (take_all i ws (omega arith))

-- words read in two parts
pub words_split : (m n : ℕ) (s : List ℕ) (i : ℕ) → words_at (m + n) s i ≡ words_at m s i ++ words_at n s (i + 4 * m)
unfolding words_at
words_split zero n s i =
    let p : zero + n ≡ n = omega arith in
    let q : i ≡ i + 4 * zero = omega arith in
    ap₂ (λ k j. words_at k s j) p q
words_split (suc m) n s i =
    let p : suc m + n ≡ suc (m + n) = omega arith in
    let q : i + 4 + 4 * m ≡ i + 4 * suc m = omega arith in
    ap (λ k. words_at k s i) p
    ∙ ap (λ r. word_at s i ∷ r) (words_split m n s (i + 4) ∙ ap (λ j. words_at m s (i + 4) ++ words_at n s j) q)

words_push : (i : ℕ) (s : List ℕ) (j : ℕ) → words_at (i + 1) s j ≡ words_at i s j ++ (word_at s (j + 4 * i) ∷ [])
unfolding words_at
words_push i s j = words_split i 1 s j

-- one turn of `get_words`, and its end
module _ (s xs : List ℕ) (j i : ℕ) (e : take i xs ≡ words_at i s j) where
  pub get_more : {v : ℕ} → i < length xs → v ≡ word_at s (j + 4 * i) → take (i + 1) (set xs i v) ≡ words_at (i + 1) s j
  get_more {v} h q = take_more_set xs i v h ∙ ap₂ (λ a b. a ++ (b ∷ [])) e q ∙ sym (words_push i s j)

  pub get_end : (d : List ℕ) (k : ℕ) → length xs ≡ k → i ≡ k → xs ++ drop k d ≡ splice 0 (words_at k s j) d
  unfolding splice
  get_end d k n h =
      let whole : xs ≡ words_at k s j = sym (take_all i xs (omega arith)) ∙ e ∙ ap (λ m. words_at m s j) h in
      let l : k ≡ 0 + length (words_at k s j) = omega (arith, length-read k s j) in
      ap₂ (λ a m. a ++ drop m d) whole l

-- the words are tested one by one
pub up_to_tests : (p k : ℕ) (s : List ℕ) (j i : ℕ) → list_all (λ x. leb (word_at s (j + 4 * x)) p) (range_with_len i k) ≡ up_to p (words_at k s (j + 4 * i))
unfolding up_to words_at
up_to_tests p zero s j i = refl
up_to_tests p (suc k) s j i =
    let n : j + 4 * (i + 1) ≡ j + 4 * i + 4 = omega arith in
    ap (λ b. leb (word_at s (j + 4 * i)) p && b) (up_to_tests p k s j (i + 1) ∙ ap (λ m. up_to p (words_at k s m)) n)

-- Parts of a list: read, changed and put back; and a list cut into consecutive parts. Assumes nothing.
use Prim.Native.Nat.{ℕ, zero, suc, ◌+◌, ◌-◌, ◌≤◌, ◌<◌}
use native.Mathlib.Nat.{add_assoc, add-zero, add-sub_cancel_left, le-add_right}
use native.Mathlib.Omega.{arith}
use mathlib.Core.Path.{◌≡◌, refl, sym, ap, ap₂, ◌∙◌}
use mathlib.Core.List.{List, [], ◌∷◌, ◌++◌, append_assoc, append-nil}
use lib.ListN.{length, get_or, take, drop, set, length-append, length-take, length-drop, take-append-drop, drop_of_length-le}
use lib.Seq.{length-take-le, take_all, take-append-le, drop-append-le, take_at, drop_at, take-add, drop-drop, get_or-take, get_or-drop}
use lib.Seq.{take-set-le, take-set-lt, drop-set-lt, drop-set-add}
use borrow.Rule.Slice.PartMut.{put_mid}
use Rattle.model.specs.Tables.{at, region}
use Rattle.model.proofs.Slots.{region-take}

-- the k words from a on changed by f, the rest as it is; `on_slot p g` is `on_part (g * p) p`
abbrev pub on_part : ℕ → ℕ → (List ℕ → List ℕ) → List ℕ → List ℕ
on_part a k f w = take a w ++ (f (region a k w) ++ drop (a + k) w)

-- a word of a region, and how long the region is
module _ (a k : ℕ) (w : List ℕ) where
  pub region-at : (i d : ℕ) → i < k → get_or (region a k w) i d ≡ get_or w (a + i) d
  region-at i d h = get_or-take k (drop a w) i d h ∙ get_or-drop a w i d

  pub region-length : a + k ≤ length w → length (region a k w) ≡ k
  region-length h = simp (length-take, length-drop) (omega arith)

-- one word, by the region of that word
pub word-at : (i : ℕ) (w : List ℕ) → at w i ≡ at (region i 1 w) 0
word-at i w = sym (region-at i 1 w 0 0 (omega arith) ∙ ap (at w) (add-zero i))

-- a region of a region
pub region-region : (a n c k : ℕ) (w : List ℕ) → c + k ≤ n → region c k (region a n w) ≡ region (a + c) k w
region-region a n c k w h = region-take n c k (drop a w) h ∙ ap (take k) (drop-drop c a w)

-- a part changed by what keeps its length
pub on_part_length : (a k : ℕ) (f : List ℕ → List ℕ) (w : List ℕ) → a + k ≤ length w → length (f (region a k w)) ≡ k
    → length (on_part a k f w) ≡ length w
on_part_length a k f w h e = simp (length-append, length-take, length-drop, e) (omega arith)

-- a part that is the whole list
pub on_part_whole : (k : ℕ) (f : List ℕ → List ℕ) (w : List ℕ) → length w ≡ k → on_part 0 k f w ≡ f w
on_part_whole k f w e =
    let l : length w ≤ k = omega arith in
    let l₀ : length w ≤ 0 + k = omega arith in
    rw (take_all k w l, drop_of_length-le w l₀, append-nil)

-- a part that lies in the first, or in the second, of two joined lists
on_part_left : (a k : ℕ) (f : List ℕ → List ℕ) (xs ys : List ℕ) → a + k ≤ length xs → on_part a k f (xs ++ ys) ≡ on_part a k f xs ++ ys
on_part_left a k f xs ys h =
    let ha : a ≤ length xs = omega arith in
    let hk : k ≤ length (drop a xs) = rw length-drop (omega arith) in
    rw (take-append-le a xs ys, drop-append-le a xs ys, take-append-le k (drop a xs) ys, drop-append-le (a + k) xs ys) (simp append_assoc)

on_part_right : (s a k : ℕ) (f : List ℕ → List ℕ) (w : List ℕ) → on_part (s + a) k f w ≡ take s w ++ on_part a k f (drop s w)
on_part_right s a k f w = simp (take-add, drop-drop, append_assoc, add_assoc)

-- a lent part that has come back: what the callee says of the part, said of the whole
pub part_back : (w ys : List ℕ) (a k : ℕ) (f : List ℕ → List ℕ) → ys ≡ f (region a (a + k - a) w)
    → put_mid a (a + k - a) w ys ≡ on_part a k f w
part_back w ys a k f e =
    ap (λ r. put_mid a (a + k - a) w r) e
    ∙ ap (λ m. put_mid a m w (f (region a m w))) (add-sub_cancel_left a k)
    ∙ ap (λ r. take a w ++ (f (region a k w) ++ r)) (drop-drop k a w)

pub part_length : (w : List ℕ) (a k : ℕ) → a + k ≤ length w → length (region a (a + k - a) w) ≡ k
part_length w a k h = rw (add-sub_cancel_left a k) (region-length a k w h)

pub back-length : (w ys : List ℕ) (a k : ℕ) → a + k ≤ length w → length ys ≡ length (region a (a + k - a) w)
    → length (put_mid a (a + k - a) w ys) ≡ length w
back-length w ys a k h e = ap length (part_back w ys a k (λ _. ys) refl) ∙ on_part_length a k (λ _. ys) w h (e ∙ part_length w a k h)

-- a list cut into parts of the lengths given
unfoldable pub cut : List ℕ → List ℕ → List (List ℕ)
cut [] w = []
cut (s ∷ ss) w = take s w ∷ cut ss (drop s w)

-- where word i of part j lies
unfoldable pub spot : ℕ → ℕ → List ℕ → ℕ
spot j i [] = i
spot zero i (s ∷ ss) = i
spot (suc j) i (s ∷ ss) = s + spot j i ss

-- part j is a region
pub cut_at : (ss : List ℕ) (j : ℕ) (w : List ℕ) (x : ℕ) → x ≡ spot j 0 ss → get_or (cut ss w) j [] ≡ region x (at ss j) w
unfolding cut spot
cut_at [] j w x e = refl
cut_at (s ∷ ss) zero w x e = ap (λ a. region a s w) (sym e)
cut_at (s ∷ ss) (suc j) w x e =
    cut_at ss j (drop s w) (spot j 0 ss) refl ∙ ap (take (at ss j)) (drop-drop (spot j 0 ss) s w ∙ ap (λ a. drop a w) (sym e))

-- cutting off a first part
pub cut_off : (s : ℕ) (ss xs ys : List ℕ) → length xs ≡ s → cut (s ∷ ss) (xs ++ ys) ≡ xs ∷ cut ss ys
unfolding cut
cut_off s ss xs ys e = ap₂ (λ r z. r ∷ cut ss z) (take_at xs ys s e) (drop_at xs ys s e)

-- a word stored in part j
pub cut_set : (ss : List ℕ) (j i v : ℕ) (w : List ℕ) → i < at ss j
    → cut ss (set w (spot j i ss) v) ≡ set (cut ss w) j (set (get_or (cut ss w) j []) i v)
unfolding cut spot
cut_set [] j i v w h = absurd (omega arith)
cut_set (s ∷ ss) zero i v w h = ap₂ (λ r z. r ∷ cut ss z) (take-set-lt s w i v h) (drop-set-lt s w i v h)
cut_set (s ∷ ss) (suc j) i v w h =
    ap₂ ◌∷◌ (take-set-le s w _ v (le-add_right s (spot j i ss)))
    (ap (cut ss) (drop-set-add s w (spot j i ss) v) ∙ cut_set ss j i v (drop s w) h)

-- a part of part j changed
pub cut_part : (ss : List ℕ) (j i k : ℕ) (f : List ℕ → List ℕ) (w : List ℕ)
    → i + k ≤ at ss j → spot j (at ss j) ss ≤ length w → length (f (region (spot j i ss) k w)) ≡ k
    → cut ss (on_part (spot j i ss) k f w) ≡ set (cut ss w) j (on_part i k f (get_or (cut ss w) j []))
unfolding cut spot
cut_part [] j i k f w h l e = refl
cut_part (s ∷ ss) zero i k f w h l e =
    let front : length (take s w) ≡ s = length-take-le s w l in
    let fits : i + k ≤ length (take s w) = omega arith in
    let long : length (f (region i k (take s w))) ≡ k = rw (region-take s i k w h) e in
    ap (cut (s ∷ ss)) (ap (on_part i k f) (sym (take-append-drop s w)) ∙ on_part_left i k f (take s w) (drop s w) fits)
    ∙ cut_off s ss (on_part i k f (take s w)) (drop s w) (on_part_length i k f (take s w) fits long ∙ front)
cut_part (s ∷ ss) (suc j) i k f w h l e =
    ap (cut (s ∷ ss)) (on_part_right s (spot j i ss) k f w)
    ∙ cut_off s ss (take s w) _ (length-take-le s w (omega arith))
    ∙ ap (λ r. take s w ∷ r) (cut_part ss j i k f (drop s w) h (rw length-drop (omega arith)) (rw drop-drop e))

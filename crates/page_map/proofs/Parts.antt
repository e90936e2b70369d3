-- Laws of slots and of the queue: a place taken out, a word put in front, and zeros behind that may stay out of it. Assumes nothing.
use Prim.Native.Nat.{ℕ, zero, suc, ◌+◌, ◌-◌, ◌<◌, ◌≤◌}
use native.Mathlib.Numerals.{add-one}
use native.Mathlib.Omega.{arith}
use mathlib.Core.Path.{◌≡◌, refl, sym, ap, ap₂, ◌∙◌}
use mathlib.Core.Bool.{Bool, true, false, cond}
use mathlib.Core.List.{List, [], ◌∷◌, ◌++◌, append_assoc, append-nil}
use lib.Dec.{eqb}
use lib.ListN.{length, get_or, set, take, drop, length-append, length-take, length-drop, take-append-drop, drop_of_length-le, replicate-append-replicate}
use lib.Seq.{paste, length_paste_head, drop-cons, take_all, take-suc, set_at, take_at, take-take, drop-drop, drop-append-le}
use borrow.Author.Tests.{eq-eqb}
use Rattle.model.specs.Lists.{bit, occ, without, push_front, zeros}
use Rattle.model.specs.Tables.{region}
use Rattle.model.proofs.Counts.{remove, occ-get_or, without-slot}
use Rattle.model.proofs.Slots.{zero_at}
use Rattle.model.proofs.Regions.{on_part}
use Rattle.page_map.specs.Parts.{close_up}

-- closing up: the words behind one place down, and a zero over the last
pub close_end : (s : List ℕ) (i : ℕ) → i < length s → set (paste s i (drop (i + 1) s) (length s - (i + 1))) (length s - 1) 0 ≡ close_up i s
close_end s i h =
    let m : ℕ = length s - (i + 1) in
    let last : length s - 1 ≡ i + m = omega arith in
    let long : length (take i s ++ take m (drop (i + 1) s)) ≡ i + m =
    length_paste_head s i (drop (i + 1) s) m (omega arith) (rw length-drop (omega arith)) in
    let all : length (drop (suc i) s) ≤ m = rw length-drop (omega arith) in
    let nil : length s ≤ suc (i + m) = omega arith in
    ap (λ (k : ℕ). set (paste s i (drop (i + 1) s) m) k 0) last
    ∙ ap (λ (r : List ℕ). set (take i s ++ take m (drop (i + 1) s) ++ r) (i + m) 0) (drop-cons s (i + m) 0 (omega arith))
    ∙ set_at (take i s ++ take m (drop (i + 1) s)) _ (drop (suc (i + m)) s) 0 (i + m) long
    ∙ ap (λ (k : ℕ). (take i s ++ take m (drop k s)) ++ (0 ∷ drop (suc (i + m)) s)) (add-one i)
    ∙ rw (drop_of_length-le s nil, take_all m (drop (suc i) s) all, append_assoc)

-- a slot that holds x once, without it: its place closed up
later : (x y i : ℕ) (ys : List ℕ) (b : Bool) → bit b + occ x ys ≡ 1 → 0 < occ x ys → (occ x ys ≡ 1 → without x ys ≡ close_up i ys)
    → cond b (ys ++ (0 ∷ [])) (y ∷ without x ys) ≡ close_up (suc i) (y ∷ ys)
later x y i ys true o h ih = absurd (omega arith)
later x y i ys false o h ih = ap (λ (r : List ℕ). y ∷ r) (ih (omega arith))

pub without_at : (x : ℕ) (s : List ℕ) (i : ℕ) → occ x s ≡ 1 → i < length s → get_or s i 0 ≡ x → without x s ≡ close_up i s
unfolding occ without
without_at x [] i once h e = absurd (omega arith)
without_at x (y ∷ ys) zero once h e = rw (eq-eqb x y (sym e))
without_at x (y ∷ ys) (suc i) once h e =
    let inside : i < length ys = omega arith in
    let here : 0 < occ x ys = rw e at (occ-get_or ys i inside) in
    later x y i ys (eqb x y) once here (λ o. without_at x ys i o inside e)

-- pushing in front: the words one place up, and x over the first
pub push_end : (x : ℕ) (q : List ℕ) → 0 < length q → set (paste q 1 (drop 0 q) (length q - 1 - 0)) 0 x ≡ push_front x q
unfolding push_front
push_end x [] h = absurd (omega arith)
push_end x (y ∷ q) h =
    let all : length (y ∷ q) - 1 - 0 ≡ length (y ∷ q) - 1 = omega arith in
    let nil : length (y ∷ q) ≤ 1 + (length (y ∷ q) - 1) = omega arith in
    ap (λ (m : ℕ). set (paste (y ∷ q) 1 (y ∷ q) m) 0 x) all
    ∙ ap (λ (r : List ℕ). x ∷ (take (length (y ∷ q) - 1) (y ∷ q) ++ r)) (drop_of_length-le (y ∷ q) nil)
    ∙ ap (λ (r : List ℕ). x ∷ r) (append-nil _)

-- zeros stay behind a slot without x ..
zeros-turn : (m : ℕ) → zeros m ++ (0 ∷ []) ≡ 0 ∷ zeros m
zeros-turn m = replicate-append-replicate m 1 0 ∙ ap zeros (add-one m)

without_front : (x : ℕ) (a : List ℕ) (m : ℕ) → 0 < occ x a → without x (a ++ zeros m) ≡ without x a ++ zeros m
without_front x a m h =
    without-slot x a (zeros m) h
    ∙ ap (λ z. remove x a ++ z) (zeros-turn m)
    ∙ sym (append_assoc (remove x a) (0 ∷ []) (zeros m))
    ∙ ap (λ r. r ++ zeros m) (sym (without-slot x a [] h) ∙ ap (without x) (append-nil a))

-- .. and behind what is pushed in front of one of them
push_snoc : (x y : ℕ) (s : List ℕ) → push_front x (s ++ (y ∷ [])) ≡ x ∷ s
unfolding push_front
push_snoc x y s =
    let all : length (s ++ (y ∷ [])) - 1 ≡ length s = omega (arith, length-append s (y ∷ [])) in
    ap (λ k. x ∷ take k (s ++ (y ∷ []))) all ∙ ap (λ r. x ∷ r) (take_at s (y ∷ []) (length s) refl)

push_zero : (x : ℕ) (a : List ℕ) (m : ℕ) → push_front x ((a ++ (0 ∷ [])) ++ zeros m) ≡ push_front x (a ++ (0 ∷ [])) ++ zeros m
push_zero x a m =
    let last : (a ++ (0 ∷ [])) ++ zeros m ≡ (a ++ zeros m) ++ (0 ∷ []) =
    append_assoc a (0 ∷ []) (zeros m) ∙ ap (λ z. a ++ z) (sym (zeros-turn m)) ∙ sym (append_assoc a (zeros m) (0 ∷ [])) in
    ap (push_front x) last ∙ push_snoc x 0 (a ++ zeros m) ∙ ap (λ r. r ++ zeros m) (sym (push_snoc x 0 a))

-- so a change of a slot may be given the words in use alone
front_alone : (f : List ℕ → List ℕ) (k : ℕ) (s z : List ℕ) → drop k s ≡ z → f (take k s ++ z) ≡ f (take k s) ++ z → f (take k s) ++ drop k s ≡ f s
front_alone f k s z e h =
    ap (λ r. f (take k s) ++ r) e ∙ sym h ∙ ap f (ap (λ r. take k s ++ r) (sym e) ∙ take-append-drop k s)

pub without_alone : (x k m : ℕ) (s : List ℕ) → drop k s ≡ zeros m → 0 < occ x (take k s) → without x (take k s) ++ drop k s ≡ without x s
without_alone x k m s e h = front_alone (without x) k s (zeros m) e (without_front x (take k s) m h)

pub push_alone : (x k n : ℕ) (q : List ℕ) → length q ≡ n → k < n → drop k q ≡ zeros (n - k)
    → push_front x (take (k + 1) q) ++ drop (k + 1) q ≡ push_front x q
push_alone x k n q long h e =
    let one : n - k ≡ suc (n - (k + 1)) = omega arith in
    let first : take (k + 1) q ≡ take k q ++ (0 ∷ []) =
    ap (λ (i : ℕ). take i q) (add-one k) ∙ take-suc q k 0 (omega arith) ∙ ap (λ (y : ℕ). take k q ++ (y ∷ [])) (zero_at q k n k e (omega arith) h) in
    let rest : drop (k + 1) q ≡ zeros (n - (k + 1)) = sym (drop-drop 1 k q) ∙ ap (drop 1) (e ∙ ap zeros one) in
    front_alone (push_front x) (k + 1) q (zeros (n - (k + 1))) rest
    (rw first (push_zero x (take k q) (n - (k + 1))))

-- and of a part of a list, the words of the part that are in use
pub part_alone : (f : List ℕ → List ℕ) (a k n : ℕ) (w : List ℕ) → k ≤ n → a + n ≤ length w
    → f (take k (region a n w)) ++ drop k (region a n w) ≡ f (region a n w) → on_part a k f w ≡ on_part a n f w
part_alone f a k n w h b e =
    let s : List ℕ = region a n w in
    let long : k ≤ length (region a n w) = simp (length-take, length-drop) (omega arith) in
    let behind : drop (a + k) w ≡ drop k (region a n w) ++ drop (a + n) w =
    sym (drop-drop k a w)
    ∙ ap (drop k) (sym (take-append-drop n (drop a w)) ∙ ap (λ r. region a n w ++ r) (drop-drop n a w))
    ∙ drop-append-le k (region a n w) (drop (a + n) w) long in
    ap₂ (λ r z. take a w ++ (f r ++ z)) (sym (take-take k n (drop a w) h)) behind
    ∙ ap (λ r. take a w ++ r) (sym (append_assoc (f (take k (region a n w))) _ _) ∙ ap (λ r. r ++ drop (a + n) w) e)

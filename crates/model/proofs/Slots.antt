-- Lists that are cut into parts of one size: what a part is after a part, or one element, has changed. Zeros behind a place. And the
-- address fact. Assumes nothing.
use Prim.Native.Nat.{ℕ, zero, suc, ◌+◌, ◌*◌, ◌-◌, ◌/◌, ◌%◌, ◌≤◌, ◌<◌}
use native.Mathlib.Nat.{mul-le-mul_right, mul-add-div_right, div-eq_of_lt, mul-add-mod_self_right, mod-eq_of_lt, add-zero, sub-zero}
use native.Mathlib.Decide.{ℕ_discrete, dec_lt}
use native.Mathlib.Omega.{arith}
use mathlib.Core.Path.{◌≡◌, refl, sym, ap, ◌∙◌}
use mathlib.Core.Logic.{◌⊎◌, inl, inr, ◌≢◌}
use mathlib.Core.List.{List, [], ◌∷◌, ◌++◌, append_assoc, append-nil}
use lib.ListN.{length, get_or, take, drop, set, replicate, length-append}
use lib.ListN.{length-take, length-drop, length-replicate, get_or-replicate, replicate-append-replicate, drop_of_length-le, get_or-eq_default}
use lib.Seq.{length-take-le, take-nil, take-take, take-append-le, drop-append-le, take_at, drop_at, drop-append-add, drop-drop, get_or-take, get_or-drop, ext_get_or}
use lib.Seq.{take-set-le, take-set-lt, drop-set-lt, drop-set-add, get_or-set_same, get_or-set_other}
use Rattle.model.specs.Lists.{on_slot, slot, splice, zeros}
use Rattle.model.specs.Tables.{at, region}

pub same? : (a b : ℕ) → (a ≡ b) ⊎ (a ≢ b)
same? a b = go (ℕ_discrete a b)
  where
    go : Dec (a ≡ b) → (a ≡ b) ⊎ (a ≢ b)
    go (yes e) = inl e
    go (no h) = inr h

pub less? : (a b : ℕ) → (a < b) ⊎ (b ≤ a)
less? a b = go (dec_lt a b)
  where
    go : Dec (a < b) → (a < b) ⊎ (b ≤ a)
    go (yes e) = inl e
    go (no h) = inr (omega arith)

-- a fact at i and at each other place; a fact below n and past it
pub by_same : (P : ℕ → Type 0) (i : ℕ) → P i → ((j : ℕ) → j ≢ i → P j) → (j : ℕ) → P j
by_same P i same other j = go (same? j i)
  where
    go : (j ≡ i) ⊎ (j ≢ i) → P j
    go (inl e) = rw e same
    go (inr n) = other j n

pub by_end : (P : ℕ → Type 0) (n : ℕ) → ((j : ℕ) → j < n → P j) → ((j : ℕ) → n ≤ j → P j) → (j : ℕ) → P j
by_end P n inside past j = go (less? j n)
  where
    go : (j < n) ⊎ (n ≤ j) → P j
    go (inl h) = inside j h
    go (inr h) = past j h

-- a part lies within n of them
pub part_fits : {g n : ℕ} (p : ℕ) → g < n → g * p + p ≤ n * p
part_fits p h = omega (arith, mul-le-mul_right p h)

pub below_part : {g n k : ℕ} (p : ℕ) → g < n → k < p → g * p + k < n * p
below_part p h hk = omega (arith, mul-le-mul_right p h)

-- the address fact, over any base: a place g * b + k with k below b gives g and k back
pub place_seg : (b g k : ℕ) → k < b → (g * b + k) / b ≡ g
place_seg b g k h = mul-add-div_right (omega arith) g k ∙ ap (λ x. g + x) (div-eq_of_lt h) ∙ add-zero g

pub place_page : (b g k : ℕ) → k < b → (g * b + k) % b ≡ k
place_page b g k h = mul-add-mod_self_right g b k ∙ mod-eq_of_lt h

pub place_inj_seg : (b g k g' k' : ℕ) → k < b → k' < b → g * b + k ≡ g' * b + k' → g ≡ g'
place_inj_seg b g k g' k' h h' e = sym (place_seg b g k h) ∙ ap (λ x. x / b) e ∙ place_seg b g' k' h'

pub place_inj_page : (b g k g' k' : ℕ) → k < b → k' < b → g * b + k ≡ g' * b + k' → k ≡ k'
place_inj_page b g k g' k' h h' e = sym (place_page b g k h) ∙ ap (λ x. x % b) e ∙ place_page b g' k' h'

-- reading after set: of one list, and of two that were set at the same place
pub set_ind : (P : ℕ → ℕ → Type 0) (xs : List ℕ) (i v d : ℕ) → i < length xs
    → P i v → ((j : ℕ) → j ≢ i → P j (get_or xs j d)) → (j : ℕ) → P j (get_or (set xs i v) j d)
set_ind P xs i v d h same other =
    by_same (λ j. P j (get_or (set xs i v) j d)) i (rw (get_or-set_same xs i v d h) same) (λ j n. rw (get_or-set_other xs i j v d n) (other j n))

pub set_both : (P : ℕ → ℕ → ℕ → Type 0) (xs ys : List ℕ) (i v w : ℕ) → i < length xs → i < length ys
    → P i v w → ((j : ℕ) → P j (at xs j) (at ys j)) → (j : ℕ) → P j (at (set xs i v) j) (at (set ys i w) j)
set_both P xs ys i v w h k same other =
    by_same (λ j. P j (at (set xs i v) j) (at (set ys i w) j)) i
    (rw (get_or-set_same xs i v 0 h, get_or-set_same ys i w 0 k) same)
    (λ j n. rw (get_or-set_other xs i j v 0 n, get_or-set_other ys i j w 0 n) (other j))

-- reading past the end: only what lies within is no default, and there the default does not matter
pub past_end : (xs : List ℕ) (n g : ℕ) → length xs ≡ n → n ≤ g → at xs g ≡ 0
past_end xs n g e h = get_or-eq_default xs 0 {n = g} (rw e h)

pub mapped_lt : (xs : List ℕ) (l d : ℕ) → get_or xs l d ≢ d → l < length xs
mapped_lt xs l d h = go (less? l (length xs))
  where
    go : (l < length xs) ⊎ (length xs ≤ l) → l < length xs
    go (inl b) = b
    go (inr b) = absurd (h (get_or-eq_default xs d b))

pub any_default : (xs : List ℕ) (i d d' : ℕ) → i < length xs → get_or xs i d ≡ get_or xs i d'
any_default [] i d d' h = absurd (omega arith)
any_default (x ∷ xs) zero d d' h = refl
any_default (x ∷ xs) (suc i) d d' h = any_default xs i d d' (omega arith)

pub at-replicate : (n a d i : ℕ) → (i < n → a ≡ d) → get_or (replicate n a) i d ≡ d
at-replicate n a d i h =
    by_end (λ i. (i < n → a ≡ d) → get_or (replicate n a) i d ≡ d) n
    (λ i b h. get_or-replicate n i a d b ∙ h b)
    (λ i b h. get_or-eq_default (replicate n a) d {n = i} (rw (length-replicate n a) b))
    i
    h

pub same_replicate : (n a i : ℕ) → get_or (replicate n a) i a ≡ a
same_replicate n a i = at-replicate n a a i (λ _. refl)

-- zeros from place c on, at each place and as a list; and of zeros a front and a rest
pub zeros_from : (xs : List ℕ) (c n : ℕ) → length xs ≡ n → ((j : ℕ) → c ≤ j → j < n → at xs j ≡ 0) → drop c xs ≡ zeros (n - c)
zeros_from xs c n e h = ext_get_or 0 (drop c xs) (zeros (n - c)) (len ∙ sym (length-replicate (n - c) 0)) each
  where
    len : length (drop c xs) ≡ n - c
    len = length-drop c xs ∙ ap (λ x. x - c) e

    each : (i : ℕ) → i < length (drop c xs) → at (drop c xs) i ≡ at (zeros (n - c)) i
    each i b =
        let b' : i < n - c = rw len at b in
        get_or-drop c xs i 0 ∙ h (c + i) (omega arith) (omega arith) ∙ sym (get_or-replicate (n - c) i 0 0 b')

pub zero_at : (xs : List ℕ) (c n j : ℕ) → drop c xs ≡ zeros (n - c) → c ≤ j → j < n → at xs j ≡ 0
zero_at xs c n j e a b =
    let i : c + (j - c) ≡ j = omega arith in
    ap (at xs) (sym i) ∙ sym (get_or-drop c xs (j - c) 0) ∙ ap (λ z. at z (j - c)) e ∙ get_or-replicate (n - c) (j - c) 0 0 (omega arith)

pub drop-zeros : (k n : ℕ) → drop k (zeros n) ≡ zeros (n - k)
drop-zeros k n = zeros_from (zeros n) k n (length-replicate n 0) (λ j _ b. get_or-replicate n j 0 0 b)

pub take-zeros : (k n : ℕ) → k ≤ n → take k (zeros n) ≡ zeros k
take-zeros k n h =
    let e : n ≡ k + (n - k) = omega arith in
    ap (λ m. take k (zeros m)) e
    ∙ ap (take k) (sym (replicate-append-replicate k (n - k) 0))
    ∙ take_at (zeros k) (zeros (n - k)) k (length-replicate k 0)

-- what is left of a front, and a part of a front
pub drop-take : (d k : ℕ) (xs : List ℕ) → drop d (take k xs) ≡ take (k - d) (drop d xs)
drop-take zero k xs = ap (λ m. take m xs) (sym (sub-zero k))
drop-take (suc d) zero xs = let z : 0 ≡ zero - suc d = omega arith in ap (λ m. take m (drop (suc d) xs)) z
drop-take (suc d) (suc k) [] = sym (take-nil (suc k - suc d))
drop-take (suc d) (suc k) (x ∷ xs) = let e : k - d ≡ suc k - suc d = omega arith in drop-take d k xs ∙ ap (λ m. take m (drop d xs)) e

pub region-take : (n c k : ℕ) (w : List ℕ) → c + k ≤ n → region c k (take n w) ≡ region c k w
region-take n c k w h = ap (take k) (drop-take c n w) ∙ take-take k (n - c) (drop c w) (omega arith)

-- d laid into xs: the length stays, and what is as long as xs replaces it
pub length-splice : (off : ℕ) (d xs : List ℕ) → off + length d ≤ length xs → length (splice off d xs) ≡ length xs
unfolding splice
length-splice off d xs h = simp (length-append, length-take, length-drop) (omega arith)

pub whole-splice : (d xs : List ℕ) → length d ≡ length xs → splice 0 d xs ≡ d
unfolding splice
whole-splice d xs e = let h : length xs ≤ 0 + length d = omega arith in rw (drop_of_length-le xs h) (append-nil d)

-- a part: how long it is, what stands in it
pub slot-length : (p g : ℕ) (xs : List ℕ) → g * p + p ≤ length xs → length (slot p g xs) ≡ p
slot-length p g xs h = simp (length-take, length-drop) (omega arith)

pub slot_at : (p g : ℕ) (xs : List ℕ) (i d : ℕ) → i < p → get_or (slot p g xs) i d ≡ get_or xs (g * p + i) d
slot_at p g xs i d h = get_or-take p (drop (g * p) xs) i d h ∙ get_or-drop (g * p) xs i d

pub on_slot-length : (p g : ℕ) (f : List ℕ → List ℕ) (xs : List ℕ) → g * p + p ≤ length xs → length (f (slot p g xs)) ≡ p
    → length (on_slot p g f xs) ≡ length xs
on_slot-length p g f xs h e = simp (length-append, length-take, length-drop, e) (omega arith)

pub on_slot_same : (p g : ℕ) (f : List ℕ → List ℕ) (xs : List ℕ) → g * p + p ≤ length xs → length (f (slot p g xs)) ≡ p
    → slot p g (on_slot p g f xs) ≡ f (slot p g xs)
on_slot_same p g f xs h e =
    ap (take p) (drop_at (take (g * p) xs) _ (g * p) (length-take-le (g * p) xs (omega arith))) ∙ take_at (f (slot p g xs)) (drop (g * p + p) xs) p e

-- what lies wholly before, or wholly behind, the part changed
pub on_slot_before : (p g : ℕ) (f : List ℕ → List ℕ) (xs : List ℕ) (q a : ℕ) → g * p + p ≤ length xs → a + q ≤ g * p
    → region a q (on_slot p g f xs) ≡ region a q xs
on_slot_before p g f xs q a h b =
    ap (take q) (drop-append-le a (take (g * p) xs) _ (simp length-take (omega arith)))
    ∙ take-append-le q (drop a (take (g * p) xs)) _ (simp (length-drop, length-take) (omega arith))
    ∙ region-take (g * p) a q xs b

pub on_slot-behind : (p g : ℕ) (f : List ℕ → List ℕ) (xs : List ℕ) (a : ℕ) → g * p + p ≤ length xs → length (f (slot p g xs)) ≡ p → g * p + p ≤ a
    → drop a (on_slot p g f xs) ≡ drop a xs
on_slot-behind p g f xs a h e b =
    let there : a ≡ length front + (a - (g * p + p)) = omega (arith, len) in
    let back : g * p + p + (a - (g * p + p)) ≡ a = omega arith in
    ap (drop a) (sym (append_assoc (take (g * p) xs) (f (slot p g xs)) (drop (g * p + p) xs)))
    ∙ ap (λ m. drop m (front ++ drop (g * p + p) xs)) there
    ∙ drop-append-add front (drop (g * p + p) xs) (a - (g * p + p))
    ∙ drop-drop (a - (g * p + p)) (g * p + p) xs
    ∙ ap (λ m. drop m xs) back
  where
    front : List ℕ
    front = take (g * p) xs ++ f (slot p g xs)

    len : length front ≡ g * p + p
    len = simp (length-append, length-take, e) (omega arith)

pub on_slot_other : (p g g' : ℕ) (f : List ℕ → List ℕ) (xs : List ℕ) → g * p + p ≤ length xs → length (f (slot p g xs)) ≡ p → g' ≢ g
    → slot p g' (on_slot p g f xs) ≡ slot p g' xs
on_slot_other p g g' f xs h e ne = go (less? g' g)
  where
    go : (g' < g) ⊎ (g ≤ g') → slot p g' (on_slot p g f xs) ≡ slot p g' xs
    go (inl b) = on_slot_before p g f xs p (g' * p) h (part_fits p b)
    go (inr b) =
        let c : g < g' = omega arith in
        ap (take p) (on_slot-behind p g f xs (g' * p) h e (part_fits p c))

-- one element changed
pub slot-set_same : (p g j v : ℕ) (xs : List ℕ) → j < p → slot p g (set xs (g * p + j) v) ≡ set (slot p g xs) j v
slot-set_same p g j v xs h = ap (take p) (drop-set-add (g * p) xs j v) ∙ take-set-lt p (drop (g * p) xs) j v h

pub slot-set_other : (p g g' j v : ℕ) (xs : List ℕ) → j < p → g' ≢ g → slot p g' (set xs (g * p + j) v) ≡ slot p g' xs
slot-set_other p g g' j v xs h ne = go (less? g' g)
  where
    go : (g' < g) ⊎ (g ≤ g') → slot p g' (set xs (g * p + j) v) ≡ slot p g' xs
    go (inl b) =
        let c : g' * p + p ≤ g * p = part_fits p b in
        ap (λ i. take p (drop (g' * p) (set xs i v))) (omega arith)
        ∙ ap (take p) (drop-set-add (g' * p) xs (g * p + j - g' * p) v)
        ∙ take-set-le p (drop (g' * p) xs) (g * p + j - g' * p) v (omega arith)
    go (inr b) =
        let d : g < g' = omega arith in
        let c : g * p + p ≤ g' * p = part_fits p d in
        ap (take p) (drop-set-lt (g' * p) xs (g * p + j) v (omega arith))

-- a part of a part: page k of segment g, in bytes
pub slot-slot : (p s g k : ℕ) (xs : List ℕ) → k < p → slot s (g * p + k) xs ≡ slot s k (slot (p * s) g xs)
slot-slot p s g k xs h =
    let e : (g * p + k) * s ≡ g * (p * s) + k * s = omega arith in
    ap (λ m. take s (drop m xs)) e
    ∙ ap (take s) (sym (drop-drop (k * s) (g * (p * s)) xs))
    ∙ sym (region-take (p * s) (k * s) s (drop (g * (p * s)) xs) (part_fits s h))

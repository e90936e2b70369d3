-- How often a number stands in a list, through the changes that lists and the queue undergo: append, the sort, a removal. And that
-- these counts sum up to the list's length. Assumes nothing.
use Prim.Native.Nat.{ℕ, zero, suc, ◌+◌, ◌≤◌, ◌<◌}
use native.Mathlib.Omega.{arith}
use mathlib.Core.Path.{◌≡◌, refl, sym, ap, ◌∙◌}
use mathlib.Core.Bool.{Bool, true, false, cond}
use mathlib.Core.Logic.{◌⊎◌, inl, inr, ◌≢◌}
use mathlib.Core.List.{List, [], ◌∷◌, ◌++◌, append_assoc}
use lib.Dec.{eqb, leb}
use lib.ListN.{length, get_or, replicate}
use borrow.Author.Tests.{eq-eqb, ne_eqb, eqb-true}
use Rattle.model.specs.Lists.{bit, insert_by, occ, sort_by, without}
use Rattle.model.specs.Tables.{at}
use Rattle.model.proofs.Slots.{same?}

-- a list without the first x
unfoldable pub remove : ℕ → List ℕ → List ℕ
remove x [] = []
remove x (y ∷ ys) = cond (eqb x y) ys (y ∷ remove x ys)

pub occ_nil : (x : ℕ) → occ x [] ≡ 0
unfolding occ
occ_nil x = refl

pub occ_one : (x y : ℕ) → occ x (y ∷ []) ≡ bit (eqb x y)
unfolding occ
occ_one x y = omega arith

pub occ-cons : (x y : ℕ) (ys : List ℕ) → occ x (y ∷ ys) ≡ bit (eqb x y) + occ x ys
unfolding occ
occ-cons x y ys = refl

pub bit_same : (x : ℕ) → bit (eqb x x) ≡ 1
bit_same x = ap bit (eq-eqb x x refl)

pub bit_other : (x y : ℕ) → x ≢ y → bit (eqb x y) ≡ 0
bit_other x y n = ap bit (ne_eqb x y n)

pub bit_sym : (x y : ℕ) → bit (eqb x y) ≡ bit (eqb y x)
bit_sym x y = go (same? x y)
  where
    go : (x ≡ y) ⊎ (x ≢ y) → bit (eqb x y) ≡ bit (eqb y x)
    go (inl e) = rw e
    go (inr n) = bit_other x y n ∙ sym (bit_other y x (λ e. n (sym e)))

pub occ-append : (x : ℕ) (a b : List ℕ) → occ x (a ++ b) ≡ occ x a + occ x b
unfolding occ
occ-append x [] b = omega arith
occ-append x (y ∷ a) b = omega (arith, occ-append x a b)

pub occ_insert : (x : ℕ) (key : ℕ → ℕ) (y : ℕ) (ys : List ℕ) → occ x (insert_by key y ys) ≡ bit (eqb x y) + occ x ys
unfolding occ insert_by
occ_insert x key y [] = refl
occ_insert x key y (z ∷ ys) = go (leb (key y) (key z)) (occ_insert x key y ys)
  where
    go : (b : Bool) → occ x (insert_by key y ys) ≡ bit (eqb x y) + occ x ys
        → occ x (cond b (y ∷ z ∷ ys) (z ∷ insert_by key y ys)) ≡ bit (eqb x y) + (bit (eqb x z) + occ x ys)
    go true ih = refl
    go false ih = omega arith

pub occ_sort : (x : ℕ) (key : ℕ → ℕ) (ys : List ℕ) → occ x (sort_by key ys) ≡ occ x ys
unfolding occ sort_by
occ_sort x key [] = refl
occ_sort x key (y ∷ ys) = occ_insert x key y (sort_by key ys) ∙ ap (λ m. bit (eqb x y) + m) (occ_sort x key ys)

length_insert : (key : ℕ → ℕ) (y : ℕ) (ys : List ℕ) → length (insert_by key y ys) ≡ suc (length ys)
unfolding insert_by
length_insert key y [] = refl
length_insert key y (z ∷ ys) = go (leb (key y) (key z)) (length_insert key y ys)
  where
    go : (b : Bool) → length (insert_by key y ys) ≡ suc (length ys)
        → length (cond b (y ∷ z ∷ ys) (z ∷ insert_by key y ys)) ≡ suc (suc (length ys))
    go true ih = refl
    go false ih = ap suc ih

pub length_sort : (key : ℕ → ℕ) (ys : List ℕ) → length (sort_by key ys) ≡ length ys
unfolding sort_by
length_sort key [] = refl
length_sort key (y ∷ ys) = length_insert key y (sort_by key ys) ∙ ap suc (length_sort key ys)

-- x stands in a: taken out, one less of it, the others as often as before, and the list one shorter
pub length_remove : (x : ℕ) (a : List ℕ) → 0 < occ x a → suc (length (remove x a)) ≡ length a
unfolding occ remove
length_remove x [] h = omega arith
length_remove x (y ∷ a) h = go (eqb x y) (λ m. length_remove x a m) h
  where
    go : (b : Bool) → (0 < occ x a → suc (length (remove x a)) ≡ length a) → 0 < bit b + occ x a
        → suc (length (cond b a (y ∷ remove x a))) ≡ suc (length a)
    go true ih m = refl
    go false ih m = ap suc (ih (omega arith))

pub occ_remove : (z x : ℕ) (a : List ℕ) → 0 < occ x a → occ z (remove x a) + bit (eqb z x) ≡ occ z a
unfolding occ remove
occ_remove z x [] h = omega arith
occ_remove z x (y ∷ a) h = go (eqb x y) refl (λ m. occ_remove z x a m) h
  where
    go : (b : Bool) → eqb x y ≡ b → (0 < occ x a → occ z (remove x a) + bit (eqb z x) ≡ occ z a) → 0 < bit b + occ x a
        → occ z (cond b a (y ∷ remove x a)) + bit (eqb z x) ≡ bit (eqb z y) + occ z a
    go true q ih m = rw (eqb-true x y q) (omega arith)
    go false q ih m = omega (arith, ih (omega arith))

-- the slot's form: the list, then zeros
pub without-slot : (x : ℕ) (a z : List ℕ) → 0 < occ x a → without x (a ++ z) ≡ remove x a ++ (z ++ (0 ∷ []))
unfolding occ remove without
without-slot x [] z h = absurd (omega arith)
without-slot x (y ∷ a) z h = go (eqb x y) (λ m. without-slot x a z m) h
  where
    go : (b : Bool) → (0 < occ x a → without x (a ++ z) ≡ remove x a ++ (z ++ (0 ∷ []))) → 0 < bit b + occ x a
        → cond b ((a ++ z) ++ (0 ∷ [])) (y ∷ without x (a ++ z)) ≡ cond b a (y ∷ remove x a) ++ (z ++ (0 ∷ []))
    go true ih m = append_assoc a z (0 ∷ [])
    go false ih m = ap (λ r. y ∷ r) (ih (omega arith))

-- what a list reads at a place of it stands in it
pub occ-get_or : (xs : List ℕ) (i : ℕ) → i < length xs → 0 < occ (at xs i) xs
unfolding occ
occ-get_or [] i h = omega arith
occ-get_or (x ∷ xs) zero h = omega (arith, bit_same x)
occ-get_or (x ∷ xs) (suc i) h = omega (arith, occ-get_or xs i (omega arith))

-- a number that stands in a list stands at some place of it
pub occ_index : (x d : ℕ) (xs : List ℕ) → 0 < occ x xs → (i : ℕ) × (i < length xs) × (get_or xs i d ≡ x)
unfolding occ
occ_index x d [] h = absurd (omega arith)
occ_index x d (y ∷ xs) h = go (same? x y) (λ b. occ_index x d xs b)
  where
    go : (x ≡ y) ⊎ (x ≢ y) → (0 < occ x xs → (i : ℕ) × (i < length xs) × (get_or xs i d ≡ x))
        → (i : ℕ) × (i < length (y ∷ xs)) × (get_or (y ∷ xs) i d ≡ x)
    go (inl e) ih = (0, omega arith, sym e)
    go (inr n) ih =
        let r : (i : ℕ) × (i < length xs) × (get_or xs i d ≡ x) = ih (omega (arith, bit_other x y n)) in
        (suc r.0, omega (arith, r.1), r.2)

pub occ-replicate : (x y n : ℕ) → x ≢ y → occ x (replicate n y) ≡ 0
unfolding occ
occ-replicate x y zero h = refl
occ-replicate x y (suc n) h = omega (arith, bit_other x y h, occ-replicate x y n h)

-- the sum of f over the numbers below n
pub sum_to : ℕ → (ℕ → ℕ) → ℕ
sum_to zero f = 0
sum_to (suc n) f = f n + sum_to n f

sum_add : (n : ℕ) (f h : ℕ → ℕ) → sum_to n (λ g. f g + h g) ≡ sum_to n f + sum_to n h
unfolding sum_to
sum_add zero f h = refl
sum_add (suc n) f h = omega (arith, sum_add n f h)

-- below n, y is counted once
sum_above : (n y : ℕ) → n ≤ y → sum_to n (λ g. bit (eqb g y)) ≡ 0
unfolding sum_to
sum_above zero y h = refl
sum_above (suc n) y h = omega (arith, sum_above n y (omega arith), bit_other n y (omega arith))

sum_one : (n y : ℕ) → y < n → sum_to n (λ g. bit (eqb g y)) ≡ 1
unfolding sum_to
sum_one zero y h = omega arith
sum_one (suc n) y h = go (same? n y) (λ m. sum_one n y m)
  where
    go : (n ≡ y) ⊎ (n ≢ y) → (y < n → sum_to n (λ g. bit (eqb g y)) ≡ 1)
        → bit (eqb n y) + sum_to n (λ g. bit (eqb g y)) ≡ 1
    go (inl e) ih = omega (arith, sum_above n y (omega arith), ap bit (ap (λ z. eqb n z) (sym e)), bit_same n)
    go (inr m) ih = omega (arith, ih (omega arith), bit_other n y m)

sum_zero : (n : ℕ) → sum_to n (λ _. 0) ≡ 0
unfolding sum_to
sum_zero zero = refl
sum_zero (suc n) = omega (arith, sum_zero n)

-- a list of numbers below n has as many elements as its numbers stand in it
pub count_all : (n : ℕ) (q : List ℕ) → ((x : ℕ) → 0 < occ x q → x < n) → sum_to n (λ g. occ g q) ≡ length q
unfolding occ
count_all n [] h = sum_zero n
count_all n (y ∷ q) h =
    sum_add n (λ g. bit (eqb g y)) (λ g. occ g q)
    ∙ omega (arith, sum_one n y (h y (omega (arith, bit_same y))), count_all n q (λ x m. h x (omega arith)))

pub sum_same : (n : ℕ) (f h : ℕ → ℕ) → ((g : ℕ) → f g ≡ h g) → sum_to n f ≡ sum_to n h
unfolding sum_to
sum_same zero f h e = refl
sum_same (suc n) f h e = cc (e n, sum_same n f h e)

sum_le : (n : ℕ) (f : ℕ → ℕ) → ((g : ℕ) → f g ≤ 1) → sum_to n f ≤ n
unfolding sum_to
sum_le zero f h = omega arith
sum_le (suc n) f h = omega (arith, h n, sum_le n f h)

-- a sum of 0s and 1s, of which one is 0
pub sum_lt : (n : ℕ) (f : ℕ → ℕ) (g : ℕ) → ((g : ℕ) → f g ≤ 1) → g < n → f g ≡ 0 → sum_to n f < n
unfolding sum_to
sum_lt zero f g h l e = omega arith
sum_lt (suc n) f g h l e = go (same? g n) (λ m. sum_lt n f g h m e)
  where
    go : (g ≡ n) ⊎ (g ≢ n) → (g < n → sum_to n f < n) → f n + sum_to n f < suc n
    go (inl q) ih = omega (arith, sum_le n f h, ap f q)
    go (inr m) ih = omega (arith, ih (omega arith), h n)

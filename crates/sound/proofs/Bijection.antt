-- A count that makes a listing whole. Cell l of m is filled unless it holds v, as it does past the end. n groups list cells, group g
-- `len g` of them, as `slot g 0`, `slot g 1`, ..: each listed cell is filled, no group lists a cell twice, and a listed cell tells its group.
--     counted_covered    if there are as many entries as filled cells, each filled cell is listed
--     covered_counted    if each filled cell is listed, there are as many entries as filled cells
-- The cells are emptied in the order of the listing: each entry lowers the count of filled cells by one.
use Prim.Native.Nat.{ℕ, zero, suc, ◌+◌, ◌≤◌, ◌<◌}
use native.Mathlib.Nat.{not-suc-le-zero, le_of_suc-le-suc, eq-or-lt_of_le}
use native.Mathlib.Omega.{arith}
use mathlib.Core.Path.{◌≡◌, refl, sym, ap, ◌∙◌}
use mathlib.Core.Logic.{◌≢◌, ◌⊎◌, inl, inr, ⊎_elim}
use mathlib.Core.Bool.{Bool, true, false}
use mathlib.Core.List.{List, [], ◌∷◌}
use lib.Dec.{eqb}
use lib.ListN.{length, get_or, set}
use lib.Seq.{get_or-set_other}
use borrow.Author.Tests.{eq-eqb, ne_eqb, eqb-true}
use Rattle.model.specs.Lists.{total}
use Rattle.model.specs.Tables.{at}
use Rattle.model.proofs.Slots.{same?}
use Rattle.sound.specs.Steps.{unlike, miss}

-- the first n values of f, summed
unfoldable sum_to : (ℕ → ℕ) → ℕ → ℕ
sum_to f zero = 0
sum_to f (suc n) = sum_to f n + f n

sum_front : (f : ℕ → ℕ) (n : ℕ) → sum_to f (suc n) ≡ f 0 + sum_to (λ k. f (suc k)) n
unfolding sum_to
sum_front f zero = omega arith
sum_front f (suc n) = omega (arith, sum_front f n)

sum_total : (xs : List ℕ) → sum_to (at xs) (length xs) ≡ total xs
unfolding sum_to total
sum_total [] = refl
sum_total (x ∷ xs) = sum_front (at (x ∷ xs)) (length xs) ∙ ap (λ (k : ℕ). x + k) (sum_total xs)

module _ (v : ℕ) where
  abbrev cell : List ℕ → ℕ → ℕ
  cell m l = get_or m l v

  -- no filled cell: each is empty, and the other way round
  none_unlike : (m : List ℕ) → unlike v m ≡ 0 → (l : ℕ) → cell m l ≡ v
  unfolding unlike
  none_unlike [] e l = refl
  none_unlike (x ∷ xs) e l = go (eqb x v) refl e l (λ h k. none_unlike xs h k)
    where
      go : (b : Bool) → eqb x v ≡ b → miss b (unlike v xs) ≡ 0 → (l : ℕ) → (unlike v xs ≡ 0 → (k : ℕ) → cell xs k ≡ v) → cell (x ∷ xs) l ≡ v
      go true q e zero rest = eqb-true x v q
      go true q e (suc l) rest = rest e l
      go false q e l rest = absurd (let z : ◌≡◌ {A = ℕ} (suc (unlike v xs)) 0 = e in omega arith)

  unlike_none : (m : List ℕ) → ((l : ℕ) → cell m l ≡ v) → unlike v m ≡ 0
  unfolding unlike
  unlike_none [] h = refl
  unlike_none (x ∷ xs) h = rw (eq-eqb x v (h zero)) (unlike_none xs (λ l. h (suc l)))

  -- to empty a filled cell lowers the count by one
  fewer : (m : List ℕ) (x : ℕ) → cell m x ≢ v → unlike v (set m x v) + 1 ≡ unlike v m
  unfolding unlike
  fewer [] x ne = absurd (ne refl)
  fewer (y ∷ ys) zero ne = rw (ne_eqb y v ne, eq-eqb v v refl) (omega arith)
  fewer (y ∷ ys) (suc x) ne = under (eqb y v) _ _ (fewer ys x ne)
    where
      under : (b : Bool) (k l : ℕ) → k + 1 ≡ l → miss b k + 1 ≡ miss b l
      under true k l e = e
      under false k l e = omega arith

  -- it is empty then, and an empty cell stays empty
  emptied : (m : List ℕ) (x : ℕ) → cell (set m x v) x ≡ v
  emptied [] x = refl
  emptied (y ∷ ys) zero = refl
  emptied (y ∷ ys) (suc x) = emptied ys x

  stays : (m : List ℕ) (x l : ℕ) → cell m l ≡ v → cell (set m x v) l ≡ v
  stays m x l e = go (same? l x)
    where
      go : (l ≡ x) ⊎ (l ≢ x) → cell (set m x v) l ≡ v
      go (inl q) = rw q (emptied m x)
      go (inr d) = get_or-set_other m x l v v d ∙ e

  -- ---- one group: the cells f 0 .. f (i - 1) are emptied

  module _ (f : ℕ → ℕ) where
    wiped : ℕ → List ℕ → List ℕ
    wiped zero m = m
    wiped (suc i) m = set (wiped i m) (f i) v

    wiped_stays : (i : ℕ) (m : List ℕ) (l : ℕ) → cell m l ≡ v → cell (wiped i m) l ≡ v
    unfolding wiped
    wiped_stays zero m l e = e
    wiped_stays (suc i) m l e = stays (wiped i m) (f i) l (wiped_stays i m l e)

    wiped_hit : (i : ℕ) (m : List ℕ) (j : ℕ) → j < i → cell (wiped i m) (f j) ≡ v
    unfolding wiped
    wiped_hit zero m j h = absurd (not-suc-le-zero h)
    wiped_hit (suc i) m j h = go (λ k. wiped_hit i m j k) (eq-or-lt_of_le (le_of_suc-le-suc h))
      where
        go : (j < i → cell (wiped i m) (f j) ≡ v) → (j ≡ i) ⊎ (j < i) → cell (set (wiped i m) (f i) v) (f j) ≡ v
        go before (inl e) = rw e (emptied (wiped i m) (f i))
        go before (inr k) = stays (wiped i m) (f i) (f j) (before k)

    -- a cell is as it was, or it is one of those emptied
    wiped_or : (i : ℕ) (m : List ℕ) (l : ℕ) → (cell (wiped i m) l ≡ cell m l) ⊎ ((j : ℕ) × (j < i) × (f j ≡ l))
    unfolding wiped
    wiped_or zero m l = inl refl
    wiped_or (suc i) m l = go (same? l (f i)) (wiped_or i m l)
      where
        go : (l ≡ f i) ⊎ (l ≢ f i) → (cell (wiped i m) l ≡ cell m l) ⊎ ((j : ℕ) × (j < i) × (f j ≡ l))
            → (cell (set (wiped i m) (f i) v) l ≡ cell m l) ⊎ ((j : ℕ) × (j < suc i) × (f j ≡ l))
        go (inl e) w = inr (i, omega arith, sym e)
        go (inr d) (inl e) = inl (get_or-set_other (wiped i m) (f i) l v v d ∙ e)
        go (inr d) (inr w) = inr (w.0, omega (arith, w.1), w.2)

    -- each entry lowers the count by one
    wiped_count : (i : ℕ) (m : List ℕ) → ((j : ℕ) → j < i → cell m (f j) ≢ v) → ((j k : ℕ) → j < i → k < i → f j ≡ f k → j ≡ k) → unlike v (wiped i m) + i ≡ unlike v m
    unfolding wiped
    wiped_count zero m filled once = omega arith
    wiped_count (suc i) m filled once =
        let full : cell (wiped i m) (f i) ≢ v = λ e.
        ⊎_elim (λ same. filled i (omega arith) (sym same ∙ e))
        (λ w. omega (arith, w.1, once w.0 i (omega (arith, w.1)) (omega arith) w.2))
        (wiped_or i m (f i)) in
        omega (
          arith,
          wiped_count i m (λ j h. filled j (omega arith)) (λ j k a b. once j k (omega arith) (omega arith)),
          fewer (wiped i m) (f i) full,
        )

  -- ---- all groups

  module _
      (m : List ℕ)
      (lens : List ℕ)
      (n : ℕ)
      (size : length lens ≡ n)
      (slot : ℕ → ℕ → ℕ)
      (group : ℕ → ℕ)
      (filled : (g i : ℕ) → g < n → i < at lens g → cell m (slot g i) ≢ v)
      (tells : (g i : ℕ) → g < n → i < at lens g → group (slot g i) ≡ g)
      (once : (g i j : ℕ) → g < n → i < at lens g → j < at lens g → slot g i ≡ slot g j → i ≡ j)
    where
      -- cell l is listed by one of the first k groups
      abbrev Listed : ℕ → ℕ → Type 0
      Listed k l = (g : ℕ) × (i : ℕ) × (g < k) × (i < at lens g) × (slot g i ≡ l)

      swept : ℕ → List ℕ
      swept zero = m
      swept (suc g) = wiped (slot g) (at lens g) (swept g)

      swept_stays : (k l : ℕ) → cell m l ≡ v → cell (swept k) l ≡ v
      unfolding swept
      swept_stays zero l e = e
      swept_stays (suc k) l e = wiped_stays (slot k) (at lens k) (swept k) l (swept_stays k l e)

      swept_hit : (k g i : ℕ) → g < k → i < at lens g → cell (swept k) (slot g i) ≡ v
      unfolding swept
      swept_hit zero g i h l = absurd (not-suc-le-zero h)
      swept_hit (suc k) g i h l = go (λ q. swept_hit k g i q l) (eq-or-lt_of_le (le_of_suc-le-suc h))
        where
          go : (g < k → cell (swept k) (slot g i) ≡ v) → (g ≡ k) ⊎ (g < k) → cell (wiped (slot k) (at lens k) (swept k)) (slot g i) ≡ v
          go before (inl e) = rw (← e) (wiped_hit (slot g) (at lens g) (swept g) i l)
          go before (inr q) = wiped_stays (slot k) (at lens k) (swept k) (slot g i) (before q)

      swept_or : (k l : ℕ) → (cell (swept k) l ≡ cell m l) ⊎ Listed k l
      unfolding swept
      swept_or zero l = inl refl
      swept_or (suc k) l = go (swept_or k l) (wiped_or (slot k) (at lens k) (swept k) l)
        where
          go : (cell (swept k) l ≡ cell m l) ⊎ Listed k l
              → (cell (wiped (slot k) (at lens k) (swept k)) l ≡ cell (swept k) l) ⊎ ((j : ℕ) × (j < at lens k) × (slot k j ≡ l))
              → (cell (wiped (slot k) (at lens k) (swept k)) l ≡ cell m l) ⊎ Listed (suc k) l
          go (inl e) (inl q) = inl (q ∙ e)
          go (inr w) (inl q) = inr (w.0, w.1, omega (arith, w.2), w.3, w.4)
          go _ (inr j) = inr (k, j.0, omega arith, j.1, j.2)

      swept_count : (k : ℕ) → k ≤ n → unlike v (swept k) + sum_to (at lens) k ≡ unlike v m
      unfolding swept sum_to
      swept_count zero h = omega arith
      swept_count (suc k) h =
          let here : k < n = omega arith in
          let full : (j : ℕ) → j < at lens k → cell (swept k) (slot k j) ≢ v = λ j l e.
          ⊎_elim (λ same. filled k j here l (sym same ∙ e))
          (λ w. omega (arith, w.2, tells w.0 w.1 (omega (arith, w.2)) w.3, tells k j here l, ap group w.4))
          (swept_or k (slot k j)) in
          omega (
            arith,
            swept_count k (omega arith),
            wiped_count (slot k) (at lens k) (swept k) full (λ j i a b. once k j i here a b),
          )

      all_swept : unlike v (swept n) + total lens ≡ unlike v m
      all_swept = omega (arith, swept_count n (omega arith), ap (sum_to (at lens)) (sym size), sum_total lens)

      pub counted_covered : total lens ≡ unlike v m → (l : ℕ) → cell m l ≢ v → Listed n l
      counted_covered e l ne =
          let gone : cell (swept n) l ≡ v = none_unlike (swept n) (omega (arith, all_swept)) l in
          ⊎_elim (λ same. absurd (ne (sym same ∙ gone))) (λ w. w) (swept_or n l)

      pub covered_counted : ((l : ℕ) → cell m l ≢ v → Listed n l) → total lens ≡ unlike v m
      covered_counted all = omega (arith, all_swept, unlike_none (swept n) (λ l. gone l (same? (cell m l) v)))
        where
          gone : (l : ℕ) → (cell m l ≡ v) ⊎ (cell m l ≢ v) → cell (swept n) l ≡ v
          gone l (inl e) = swept_stays n l e
          gone l (inr d) = let w = all l d in rw (← w.4) (swept_hit n w.0 w.1 w.2 w.3)

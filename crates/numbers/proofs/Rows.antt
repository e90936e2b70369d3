-- A row of numbers while it is read: none of them, one more, one that is none, and all.
use Rattle.std.proofs.Common.{◌≡◌, ℕ, zero, suc, ◌+◌, ◌-◌, ◌<◌, ◌≤◌, List, [], ◌∷◌, ◌++◌, Option, Some, None, length, take, set, refl, sym, ap, ◌∙◌, arith}
use Rattle.std.proofs.lemmas.List.{append_assoc, append-nil, take_all, take_more_set, length-set}
use native.Mathlib.Numerals.{sub-one}
use Rattle.numbers.specs.Groups.{number, ahead, row}

pub ahead_ahead : (xs ys : List ℕ) (o : Option (List ℕ × ℕ)) → ahead xs (ahead ys o) ≡ ahead (xs ++ ys) o
unfolding ahead
ahead_ahead xs ys None = refl
ahead_ahead xs ys (Some (zs, next)) = ap (λ l. Some (l, next)) (sym (append_assoc xs ys zs))

pub ahead_none : (o : Option (List ℕ × ℕ)) → ahead [] o ≡ o
unfolding ahead
ahead_none None = refl
ahead_none (Some (zs, next)) = refl

module _ (s : List ℕ) where
  one_more : (k at : ℕ) {x next : ℕ} → 0 < k → number s at ≡ Some (x, next) → row s k at ≡ ahead (x ∷ []) (row s (k - 1) next)
  unfolding row
  one_more zero at h e = absurd (omega arith)
  one_more (suc k) at h e = rw (e, sub-one (suc k))

  one_short : (k at : ℕ) → 0 < k → number s at ≡ None → row s k at ≡ None
  unfolding row
  one_short zero at h e = absurd (omega arith)
  one_short (suc k) at h e = rw e

  -- the first i of xs are read, of n from a place, and the others are to be read from a place further on
  pub record Reading (n at : ℕ) (xs : List ℕ) (i next : ℕ) : Type 0 where
    pub is : row s n at ≡ ahead (take i xs) (row s (n - i) next)
    pub size : length xs ≡ n

  pub row_start : (n at : ℕ) (xs : List ℕ) → length xs ≡ n → Reading n at xs 0 at
  row_start n at xs h =
      let all : n ≡ n - 0 = omega arith in
      record { is = sym (ahead_none (row s n at)) ∙ ap (λ k. ahead [] (row s k at)) all; size = h }

  pub row_more
      : {n at i next x behind : ℕ} {xs : List ℕ}
      → Reading n at xs i next
      → i < n
      → number s next ≡ Some (x, behind)
      → Reading n at (set xs i x) (i + 1) behind
  row_more {n} {at} {i} {next} {x} {behind} {xs} r h e =
      let left : n - i - 1 ≡ n - (i + 1) = omega arith in
      let l : i < length xs = omega (arith, r.size) in
      let rest = one_more (n - i) next (omega arith) e in
      record {
        is = r.is ∙ ap (ahead (take i xs)) rest ∙ ahead_ahead (take i xs) (x ∷ []) (row s (n - i - 1) behind)
            ∙ ap (λ k. ahead (take i xs ++ x ∷ []) (row s k behind)) left
            ∙ ap (λ l. ahead l (row s (n - (i + 1)) behind)) (sym (take_more_set xs i x l));
        size = length-set xs i x ∙ r.size;
      }

  pub row_short : {n at i next : ℕ} {xs : List ℕ} → Reading n at xs i next → i < n → number s next ≡ None → row s n at ≡ None
  unfolding ahead
  row_short {n} {at} {i} {next} {xs} r h e = r.is ∙ ap (ahead (take i xs)) (one_short (n - i) next (omega arith) e)

  pub row_all : {n at i next : ℕ} {xs : List ℕ} → Reading n at xs i next → n ≤ i → row s n at ≡ Some (xs, next)
  unfolding row ahead
  row_all {n} {at} {i} {next} {xs} r h =
      let none : n - i ≡ 0 = omega arith in
      r.is ∙ ap (λ k. ahead (take i xs) (row s k next)) none
      ∙ ap (λ l. Some (l, next)) (append-nil (take i xs) ∙ take_all i xs (omega (arith, r.size)))

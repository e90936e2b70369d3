-- What the functions over a whole slice answer, in the words of the definitions.
use Rattle.std.proofs.Common.{ℕ, ◌+◌, ◌-◌, ◌≤◌, ◌<◌, ◌≡◌, Bool, true, false, not, ◌&&◌, eqb, List, [], ◌∷◌, length, refl, sym, ap, ◌∙◌, arith, sum}
use Rattle.std.specs.List.{list_all, sum_by}
use Rattle.std.proofs.lemmas.List.Recursion.{is_sum_by, and_at, and_from_places}
use borrow.Author.Tests.{eq-eqb, eqb-true}
use Rattle.model.specs.Lists.{blank, bit, total}
use Rattle.model.specs.Tables.{at, region}
use Rattle.model.proofs.Official.{Says}
use Rattle.model.proofs.Regions.{region-at, region-length}
use Rattle.sound.specs.Steps.{Every, unlike, miss}

-- `every`, as a fact of each place
pub every_says : (v : ℕ) (xs : List ℕ) (r : Bool) → r ≡ list_all (λ x. eqb x v) xs → Says r (Every v xs)
every_says v xs true e = λ k h. eqb-true _ v (and_at (list_all (λ x. eqb x v)) (λ x. eqb x v) refl (λ _ _. refl) xs k 0 h (sym e))
every_says v xs false e = λ all. cc (and_from_places (list_all (λ x. eqb x v)) (λ x. eqb x v) refl (λ _ _. refl) xs 0 (λ k h. eq-eqb _ v (all k h)))

pub all_blank : (xs : List ℕ) → list_all (λ x. eqb x 0) xs ≡ blank xs
unfolding blank
all_blank [] = refl
all_blank (x ∷ xs) = ap (λ b. eqb x 0 && b) (all_blank xs)

pub unlike_sum : (v : ℕ) (xs : List ℕ) → unlike v xs ≡ sum_by (λ x. bit (not (eqb x v))) xs
unfolding unlike
unlike_sum v = is_sum_by (unlike v) _ refl (λ x xs. one (eqb x v) (unlike v xs))
  where
    one : (b : Bool) (k : ℕ) → miss b k ≡ bit (not b) + k
    one true k = omega arith
    one false k = omega arith

pub total_sum : (xs : List ℕ) → total xs ≡ sum xs
unfolding total
total_sum = is_sum_by total (λ x. x) refl (λ _ _. refl)

-- every element of a part is v, said of the whole list
module _ (v : ℕ) (xs : List ℕ) (a n : ℕ) (fits : a + n ≤ length xs) where
  pub part_each : Every v (region a n xs) → (k : ℕ) → a ≤ k → k < a + n → at xs k ≡ v
  part_each e k l h =
      let i : k ≡ a + (k - a) = omega arith in
      ap (at xs) i ∙ sym (region-at a n xs (k - a) 0 (omega arith)) ∙ e (k - a) (omega (arith, region-length a n xs fits))

  pub each_part : ((k : ℕ) → a ≤ k → k < a + n → at xs k ≡ v) → Every v (region a n xs)
  each_part h k l =
      let b : k < n = omega (arith, region-length a n xs fits) in
      region-at a n xs k 0 b ∙ h (a + k) (omega arith) (omega arith)

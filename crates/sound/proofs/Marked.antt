-- Marks set in a scratch, one for each key that was passed, and no key passed twice. `key j` is the key of entry j.
use Prim.Native.Nat.{ℕ, ◌+◌, ◌<◌}
use native.Mathlib.Nat.{eq-or-lt_of_le}
use native.Mathlib.Omega.{arith}
use mathlib.Core.Path.{◌≡◌, sym, ap, ◌∙◌}
use mathlib.Core.Logic.{◌≢◌, ◌⊎◌, inl, inr}
use mathlib.Core.List.{List}
use lib.ListN.{length, set}
use lib.Seq.{get_or-set_same, get_or-set_other}
use Rattle.model.specs.Tables.{at}
use Rattle.model.proofs.Slots.{same?}

pub record Marked (key : ℕ → ℕ) (i : ℕ) (seen : List ℕ) : Type 0 where
  pub hit : (k : ℕ) → at seen k ≢ 0 → (j : ℕ) × (j < i) × (key j ≡ k)
  pub kept : (j : ℕ) → j < i → at seen (key j) ≡ 1
  pub apart : (j k : ℕ) → j < i → k < i → key j ≡ key k → j ≡ k

last_or : (j i : ℕ) → j < i + 1 → (j ≡ i) ⊎ (j < i)
last_or j i h = eq-or-lt_of_le (omega arith)

-- a key whose mark is 0 is passed, and its mark set
module _ (key : ℕ → ℕ) (i : ℕ) (seen : List ℕ) (m : Marked key i seen) (h : key i < length seen) (z : at seen (key i) ≡ 0) where
  -- a key passed before is another
  other : (j : ℕ) → j < i → key j ≢ key i
  other j l e = omega (arith, m.kept j l, ap (at seen) e)

  abbrev after : List ℕ
  after = set seen (key i) 1

  hit : (k : ℕ) → at after k ≢ 0 → (k ≡ key i) ⊎ (k ≢ key i) → (j : ℕ) × (j < i + 1) × (key j ≡ k)
  hit k ne (inl e) = (i, omega arith, sym e)
  hit k ne (inr d) =
      let was = m.hit k (λ e. ne (get_or-set_other seen (key i) k 1 0 d ∙ e)) in
      (was.0, omega (arith, was.1), was.2)

  kept : (j : ℕ) → (j ≡ i) ⊎ (j < i) → at after (key j) ≡ 1
  kept j (inl e) = rw e (get_or-set_same seen (key i) 1 0 h)
  kept j (inr l) = get_or-set_other seen (key i) (key j) 1 0 (other j l) ∙ m.kept j l

  apart : (j k : ℕ) → (j ≡ i) ⊎ (j < i) → (k ≡ i) ⊎ (k < i) → key j ≡ key k → j ≡ k
  apart j k (inl a) (inl b) e = a ∙ sym b
  apart j k (inl a) (inr b) e = absurd (other k b (sym e ∙ ap key a))
  apart j k (inr a) (inl b) e = absurd (other j a (e ∙ ap key b))
  apart j k (inr a) (inr b) e = m.apart j k a b e

  pub marked_more : Marked key (i + 1) (set seen (key i) 1)
  marked_more =
      record {
        hit = λ k ne. hit k ne (same? k (key i));
        kept = λ j l. kept j (last_or j i l);
        apart = λ j k a b e. apart j k (last_or j i a) (last_or k i b) e;
      }

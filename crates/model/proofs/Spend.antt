-- Spending a free page keeps sound tables sound.
use Prim.Native.Nat.{ℕ, ◌+◌, ◌*◌, ◌-◌, ◌≤◌, ◌<◌}
use native.Mathlib.Omega.{arith}
use mathlib.Core.Path.{◌≡◌, ap, ◌∙◌}
use mathlib.Core.Logic.{◌⊎◌, inl, inr, ◌≢◌}
use lib.ListN.{length, length-set}
use lib.Seq.{get_or-set_same, get_or-set_other}
use Rattle.model.specs.Numbers.{Geometry, page_of, seg_of}
use Rattle.model.specs.Tables.{Tables, at, word_of}
use Rattle.model.specs.Sound.{Mapped}
use Rattle.model.specs.PageMap.{spend}
use Rattle.model.proofs.Working.{Counted}
use Rattle.model.proofs.Slots.{same?, set_ind, set_both, below_part, place_inj_seg, place_inj_page}
use Rattle.model.proofs.Reading.{in_free, in_valid}

-- page k of segment g is the segment's first free one
pub record Next (G : Geometry) (t : Tables) (g k : ℕ) : Type 0 where
  pub seg : g < G.n
  pub some_free : 0 < at t.free g
  pub first : k + at t.free g ≡ G.p

module _ (G : Geometry) (t : Tables) (S : Counted G t) (g k : ℕ) (N : Next G t g k) where
  page : k < G.p
  page = omega (arith, N.some_free, N.first)

  lt_used : g * G.p + k < length t.used
  lt_used = rw S.sized.used (below_part G.p N.seg page)

  -- free counts only fall
  pub spend_free≤ : (j : ℕ) → at (spend G g k t).free j ≤ at t.free j
  spend_free≤ = set_ind (λ j x. x ≤ at t.free j) t.free g _ 0 (in_free S.sized N.seg) (omega arith) (λ j _. omega arith)

  pub free_same : at (spend G g k t).free g ≡ at t.free g - 1
  free_same = get_or-set_same t.free g _ 0 (in_free S.sized N.seg)

  free_other : (j : ℕ) → j ≢ g → at (spend G g k t).free j ≡ at t.free j
  free_other j n = get_or-set_other t.free g j _ 0 n

  spend_free : (j : ℕ) → at (spend G g k t).free j ≤ G.p
  spend_free j = omega (arith, spend_free≤ j, S.free≤ j)

  spend_marked : (j i : ℕ) → j < G.n → i + at (spend G g k t).free j < G.p → at (spend G g k t).used (j * G.p + i) ≡ 1
  spend_marked j i hj h = go (same? (j * G.p + i) (g * G.p + k))
    where
      old : (j ≡ g) ⊎ (j ≢ g) → j * G.p + i ≢ g * G.p + k → i + at t.free j < G.p
      old (inl e) n =
          let ne : i ≢ k = λ q. n (ap (λ x. x * G.p + i) e ∙ ap (λ x. g * G.p + x) q) in
          let h' : i + (at t.free g - 1) < G.p = rw free_same at (rw e at h) in
          rw e (omega (arith, N.first, N.some_free))
      old (inr n) _ = rw (free_other j n) at h

      go : (j * G.p + i ≡ g * G.p + k) ⊎ (j * G.p + i ≢ g * G.p + k) → at (spend G g k t).used (j * G.p + i) ≡ 1
      go (inl e) = rw e (get_or-set_same t.used (g * G.p + k) 1 0 lt_used)
      go (inr n) = get_or-set_other t.used (g * G.p + k) (j * G.p + i) 1 0 n ∙ S.marked j i hj (old (same? j g) n)

  spend_clear : (j i : ℕ) → j < G.n → i < G.p → G.p ≤ i + at (spend G g k t).free j → at (spend G g k t).used (j * G.p + i) ≡ 0
  spend_clear j i hj hi h =
      get_or-set_other t.used (g * G.p + k) (j * G.p + i) 1 0 other ∙ S.clear j i hj hi (omega (arith, spend_free≤ j))
    where
      other : j * G.p + i ≢ g * G.p + k
      other e =
          let q : i ≡ k = place_inj_page G.p j i g k hi page e in
          let h' : G.p ≤ i + (at t.free g - 1) = rw free_same at (rw (place_inj_seg G.p j i g k hi page e) at h) in
          omega (arith, N.some_free, N.first)

  spend_lens≤ : (j : ℕ) → at t.lens j ≤ at (spend G g k t).valid j
  spend_lens≤ =
      set_ind (λ j x. at t.lens j ≤ x) t.valid g _ 0 (in_valid S.sized N.seg) (omega (arith, S.lens≤ g)) (λ j _. S.lens≤ j)

  spend_valid≤ : (j : ℕ) → at (spend G g k t).valid j + at (spend G g k t).free j ≤ G.p
  spend_valid≤ =
      set_both (λ _ v f. v + f ≤ G.p) t.valid t.free g _ _ (in_valid S.sized N.seg) (in_free S.sized N.seg)
      (omega (arith, S.valid≤ g, N.some_free))
      S.valid≤

  spend_page< : (l : ℕ) → Mapped t l → page_of G (word_of t l) + at (spend G g k t).free (seg_of G (word_of t l)) < G.p
  spend_page< l m = omega (arith, S.page< l m, spend_free≤ (seg_of G (word_of t l)))

  spend_full : (j : ℕ) → 0 < at t.flags j → at (spend G g k t).free j ≡ 0
  spend_full j h = omega (arith, S.full j h, spend_free≤ j)

  -- what else sound tables say is as before
  pub spend_sound : Counted G (spend G g k t)
  spend_sound =
      search (
        length-set,
        spend_free,
        spend_marked,
        spend_clear,
        spend_lens≤,
        spend_valid≤,
        spend_page<,
        spend_full,
        N.seg,
      )

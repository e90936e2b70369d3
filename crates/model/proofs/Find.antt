-- What finding a page gives on sound tables: the first free page of a segment that is not bad and has one, or nothing.
use Prim.Native.Nat.{ℕ, zero, suc, ◌+◌, ◌*◌, ◌-◌, ◌%◌, ◌≤◌, ◌<◌}
use native.Mathlib.Nat.{mod-lt, mod-eq_of_lt, add-mod_right}
use native.Mathlib.Omega.{arith}
use mathlib.Core.Path.{◌≡◌, refl, ap, ◌∙◌}
use mathlib.Core.Bool.{Bool, true, false, cond}
use mathlib.Core.Logic.{◌⊎◌, inl, inr, ◌≢◌}
use mathlib.Core.List.{List}
use lib.Dec.{eqb, ltb}
use borrow.Author.Tests.{eqb-true, eq-eqb, ltb-true, ltb-false}
use Rattle.model.specs.Numbers.{Geometry, Good}
use Rattle.model.specs.Tables.{Tables, at}
use Rattle.model.specs.PageMap.{Some, spot, Found, None, clear_from, find, find_from, or_else, usable}
use Rattle.model.proofs.Working.{Counted}
use Rattle.model.proofs.Slots.{same?, less?}
use Rattle.model.proofs.Tests.{both}
use Rattle.model.proofs.Spend.{Next}

module _ (G : Geometry) (K : Good G) (t : Tables) (S : Counted G t) where
  abbrev first_of : ℕ → ℕ
  first_of g = G.p - at t.free g

  -- of a segment that has a free page, the first free one is the first whose mark is clear
  clear_at : (g : ℕ) → g < G.n → 0 < at t.free g → (f k : ℕ) → k + f ≡ G.p → k + at t.free g ≤ G.p
      → clear_from G t.used g k f ≡ Some (spot g (first_of g))
  unfolding clear_from
  clear_at g hg hf zero k e h = absurd (omega arith)
  clear_at g hg hf (suc f) k e h = go (less? (k + at t.free g) G.p) (λ m. clear_at g hg hf f (suc k) (omega arith) m)
    where
      Goal : Bool → Type 0
      Goal b = cond b (Some (spot g k)) (clear_from G t.used g (suc k) f) ≡ Some (spot g (first_of g))

      go : (k + at t.free g < G.p) ⊎ (G.p ≤ k + at t.free g)
          → (suc k + at t.free g ≤ G.p → clear_from G t.used g (suc k) f ≡ Some (spot g (first_of g)))
          → Goal (eqb (at t.used (g * G.p + k)) 0)
      go (inl b) ih = rw (S.marked g k hg b) (ih (omega arith))
      go (inr b) ih =
          let q : k ≡ first_of g = omega arith in
          rw (S.clear g k hg (omega arith) b) (ap (λ x. Some (spot g x)) q)

  -- page found: the first free one of a segment that is not bad
  pub record Free (bad : List ℕ) (r : Found) : Type 0 where
    pub seg : ℕ
    pub is : r ≡ Some (spot seg (first_of seg))
    pub next : Next G t seg (first_of seg)
    pub good : at bad seg ≡ 0

  usable_next : (bad : List ℕ) (g : ℕ) → usable G bad t g ≡ true → (at bad g ≡ 0) × (0 < at t.free g)
  usable_next bad g u =
      let h : (eqb (at bad g) 0 ≡ true) × (ltb 0 (at t.free g) ≡ true) = both _ _ u in
      (eqb-true _ _ h.0, ltb-true _ _ h.1)

  -- no segment of the walk's places i to i + f - 1 will do
  abbrev NoneOf : List ℕ → ℕ → ℕ → Type 0
  NoneOf bad f i = (x : ℕ) → i ≤ x → x < i + f → usable G bad t ((t.alloc + x) % G.n) ≡ false

  pub record Nowhere (bad : List ℕ) (f i : ℕ) (r : Found) : Type 0 where
    pub is : r ≡ None
    pub none : NoneOf bad f i

  found_from : (bad : List ℕ) (f i : ℕ) → Nowhere bad f i (find_from G bad t i f) ⊎ Free bad (find_from G bad t i f)
  unfolding find_from
  found_from bad zero i = inl (record { is = refl; none = λ x a b. absurd (omega arith) })
  found_from bad (suc f) i = go (usable G bad t g) refl (found_from bad f (suc i))
    where
      g : ℕ
      g = (t.alloc + i) % G.n

      hg : g < G.n
      hg = mod-lt (t.alloc + i) K.n≥

      out : Bool → Found
      out b = cond b (or_else (clear_from G t.used g 0 G.p) (find_from G bad t (suc i) f)) (find_from G bad t (suc i) f)

      more : usable G bad t g ≡ false → NoneOf bad f (suc i) → NoneOf bad (suc f) i
      more u h x a b = step (same? x i)
        where
          step : (x ≡ i) ⊎ (x ≢ i) → usable G bad t ((t.alloc + x) % G.n) ≡ false
          step (inl e) = ap (λ z. usable G bad t ((t.alloc + z) % G.n)) e ∙ u
          step (inr n) = h x (omega arith) (omega arith)

      go : (b : Bool) → usable G bad t g ≡ b → Nowhere bad f (suc i) (find_from G bad t (suc i) f) ⊎ Free bad (find_from G bad t (suc i) f)
          → Nowhere bad (suc f) i (out b) ⊎ Free bad (out b)
      go true u ih =
          let h : (at bad g ≡ 0) × (0 < at t.free g) = usable_next bad g u in
          inr
          (record {
            seg = g;
            is = rw (clear_at g hg h.1 G.p 0 (omega arith) (omega (arith, S.free≤ g)));
            next = record { seg = hg; some_free = h.1; first = omega (arith, S.free≤ g) };
            good = h.0;
          })
      go false u (inl ih) = inl (record { is = ih.is; none = more u ih.none })
      go false u (inr ih) = inr ih

  -- the walk passes every segment
  reached : (g : ℕ) → g < G.n → (x : ℕ) × (x < G.n) × ((t.alloc + x) % G.n ≡ g)
  reached g h = go (less? g t.alloc)
    where
      go : (g < t.alloc) ⊎ (t.alloc ≤ g) → (x : ℕ) × (x < G.n) × ((t.alloc + x) % G.n ≡ g)
      go (inl b) =
          let e : t.alloc + (g + G.n - t.alloc) ≡ g + G.n = omega arith in (
            g + G.n - t.alloc,
            omega (arith, S.alloc<),
            ap (λ z. z % G.n) e ∙ add-mod_right g G.n ∙ mod-eq_of_lt h,
          )
      go (inr b) =
          let e : t.alloc + (g - t.alloc) ≡ g = omega arith in
          (g - t.alloc, omega arith, ap (λ z. z % G.n) e ∙ mod-eq_of_lt h)

  -- nothing is found exactly when every segment is bad or has no free page
  pub record Full (bad : List ℕ) (r : Found) : Type 0 where
    pub is : r ≡ None
    pub full : (g : ℕ) → g < G.n → at bad g ≡ 0 → at t.free g ≡ 0

  pub found : (bad : List ℕ) → Full bad (find G bad t) ⊎ Free bad (find G bad t)
  unfolding find
  found bad = go (found_from bad G.n 0)
    where
      full : NoneOf bad G.n 0 → (g : ℕ) → g < G.n → at bad g ≡ 0 → at t.free g ≡ 0
      full h g hg b =
          let r : (x : ℕ) × (x < G.n) × ((t.alloc + x) % G.n ≡ g) = reached g hg in
          let u : usable G bad t g ≡ false = rw r.2 at (h r.0 (omega arith) (omega (arith, r.1))) in
          let v : ltb 0 (at t.free g) ≡ false = rw (eq-eqb _ _ b) at u in
          omega (arith, ltb-false 0 (at t.free g) v)

      go : Nowhere bad G.n 0 (find_from G bad t 0 G.n) ⊎ Free bad (find_from G bad t 0 G.n)
          → Full bad (find_from G bad t 0 G.n) ⊎ Free bad (find_from G bad t 0 G.n)
      go (inl n) = inl (record { is = n.is; full = full n.none })
      go (inr f) = inr f

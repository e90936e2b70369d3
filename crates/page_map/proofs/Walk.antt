-- One step of the walk over segments, and of the search through a segment's marks, which the first-page rule replaces. Assumes nothing.
use Prim.Native.Nat.{ℕ, zero, suc, ◌+◌, ◌*◌, ◌-◌, ◌%◌, ◌≤◌, ◌<◌}
use native.Mathlib.Nat.{mod-lt, sub-zero}
use native.Mathlib.Numerals.{add-one}
use native.Mathlib.Omega.{arith}
use mathlib.Core.Path.{◌≡◌, refl, ap, ◌∙◌}
use mathlib.Core.Logic.{◌≢◌}
use mathlib.Core.Bool.{cond}
use mathlib.Core.List.{List}
use borrow.Author.Tests.{eq-eqb, ne_eqb, lt-ltb}
use Rattle.model.specs.declared.Geometry.{Geometry}
use Rattle.model.specs.Tables.{Tables, at}
use Rattle.model.specs.PageMap.{Found, Some, spot, None}
use Rattle.model.specs.PageMap.{clear_from, or_else, usable, find_from, find}
use Rattle.model.specs.Sound.{Sound}

step : {i n : ℕ} → i < n → n - i ≡ suc (n - (i + 1))
step h = omega arith

done : {i n : ℕ} → n ≤ i → n - i ≡ zero
done h = omega arith

module _ (G : Geometry) (used : List ℕ) (g : ℕ) where
  -- the search through the marks of segment g, from page k on
  abbrev scan : ℕ → Found
  scan k = clear_from G used g k (G.p - k)

  scan_hit : (k : ℕ) → k < G.p → at used (g * G.p + k) ≡ 0 → scan k ≡ Some (spot g k)
  unfolding clear_from
  scan_hit k h e = rw (step h, eq-eqb _ _ e)

  scan_miss : (k : ℕ) → k < G.p → at used (g * G.p + k) ≢ 0 → scan k ≡ scan (k + 1)
  unfolding clear_from
  scan_miss k h e = rw (step h, ne_eqb _ _ e, add-one k)

  -- the marks below k are set: the search comes to k
  scan_on : (k : ℕ) → k ≤ G.p → ((j : ℕ) → j < k → at used (g * G.p + j) ≢ 0) → scan 0 ≡ scan k
  scan_on zero h m = refl
  scan_on (suc k) h m = scan_on k (omega arith) (λ j b. m j (omega arith)) ∙ scan_miss k h (m k (omega arith)) ∙ ap scan (add-one k)

module _ (G : Geometry) (bad : List ℕ) (t : Tables) (i : ℕ) where
  -- what is found from the i-th segment on
  abbrev pub from : Found
  from = find_from G bad t i (G.n - i)

  pub walk_end : G.n ≤ i → from ≡ None
  unfolding find_from
  walk_end h = rw (done h)

pub find_is : (G : Geometry) (bad : List ℕ) (t : Tables) → find G bad t ≡ from G bad t 0
unfolding find
find_is G bad t = rw sub-zero

-- g is the i-th segment
module _ (G : Geometry) (bad : List ℕ) (t : Tables) (i : ℕ) (h : i < G.n) where
  abbrev nth : ℕ
  nth = (t.alloc + i) % G.n

  abbrev next : Found
  next = from G bad t (i + 1)

  low : nth < G.n
  low = mod-lt _ (omega arith)

  -- one step, by the two tests
  walk_step : from G bad t i ≡ cond (usable G bad t nth) (or_else (scan G t.used nth 0) next) next
  unfolding find_from
  walk_step = rw (step h, add-one i, sub-zero) refl

  pub walk_bad : at bad nth ≢ 0 → from G bad t i ≡ from G bad t (i + 1)
  walk_bad b = rw (walk_step, ne_eqb _ _ b)

  pub walk_full : at bad nth ≡ 0 → at t.free nth ≡ 0 → from G bad t i ≡ from G bad t (i + 1)
  walk_full b f = rw (walk_step, eq-eqb _ _ b, f)

  abbrev first : ℕ
  first = G.p - at t.free nth

  -- the first-page rule: the marks below page p - free are set, that of page p - free is clear, so the search stops there
  pub walk_here : Sound G t → at bad nth ≡ 0 → at t.free nth ≢ 0
      → from G bad t i ≡ Some (spot nth (G.p - at t.free nth))
  walk_here S b f =
      let some : 0 < at t.free nth = omega arith in
      let in-it : first < G.p = omega (arith, S.room nth low) in
      let marked : (k : ℕ) → k < first → at t.used (nth * G.p + k) ≢ 0 = λ k c e. omega (arith, S.ones nth k low c) in
      let clear : at t.used (nth * G.p + first) ≡ 0 = S.zeros nth first low (omega arith) in-it in
      let found : scan G t.used nth 0 ≡ Some (spot nth first) =
      scan_on G t.used nth first (omega arith) marked ∙ scan_hit G t.used nth first in-it clear in
      rw (walk_step, eq-eqb _ _ b, lt-ltb _ _ some, found)

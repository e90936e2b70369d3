-- A header that says a geometry says one that the trace takes.
use Prim.Native.Nat.{ℕ}
use mathlib.Core.Path.{◌≡◌, refl, ap, sym, ◌∙◌, subst}
use mathlib.Core.Bool.{Bool, true, false, cond, ◌&&◌}
use mathlib.Core.List.{List}
use Rattle.std.proofs.Common.{Option, Some, None, Result, Ok, Err}
use Rattle.model.specs.declared.Geometry.{Geometry}
use Rattle.model.proofs.Guard.{both}
use Rattle.records.specs.Trace.{HeaderError, Values, small?, valued, marking, front, marked, header}

abbrev Taken : Result (Geometry × ℕ) HeaderError → Type 0
Taken (Ok (G, first)) = small? G ≡ true
Taken (Err e) = Unit {0}

tested : (G : Geometry) (first : ℕ) (t : Bool) → (t ≡ true → small? G ≡ true) → Taken (cond t (Ok (G, first)) (Err Values))
tested G first true h = h refl
tested G first false h = tt

of_values : (G : Geometry) (b : Option (ℕ × Bool)) → Taken (valued G b)
of_values G None = tt
of_values G (Some (first, inside)) = tested G first (inside && small? G) (λ e. (both inside (small? G) e).1)

module _ (xs bad : List ℕ) where
  of_marked : (o : Option (Geometry × ℕ × ℕ)) → Taken (marked xs bad o).0
  of_marked None = tt
  of_marked (Some (G, count, h)) = of_values G (marking xs G.n count h true bad).0

  of_header : Taken (header xs bad).0
  unfolding header
  of_header = of_marked (front xs)

  pub header-taken
      : {r : Result (Geometry × ℕ) HeaderError} {left : List ℕ} {G : Geometry} {first : ℕ}
      → (r, left) ≡ header xs bad
      → r ≡ Ok (G, first)
      → small? G ≡ true
  header-taken e q = subst Taken (sym (ap (λ (x : Result (Geometry × ℕ) HeaderError × List ℕ). x.0) e) ∙ q) of_header

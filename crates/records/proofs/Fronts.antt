-- The front of a trace, by a row of seven numbers.
use Rattle.std.proofs.Common.{◌≡◌, ℕ, List, [], ◌∷◌, ◌++◌, Option, Some, None, get_or, refl, sym, ap, ◌∙◌}
use Rattle.model.specs.declared.Geometry.{Geometry}
use Rattle.model.specs.Numbers.{geometry}
use Rattle.numbers.specs.Groups.{number, after, ahead, row}
use Rattle.numbers.proofs.Rows.{ahead_ahead, ahead_none}
use Rattle.records.specs.Trace.{front}

-- what seven numbers make of it
abbrev pub laid : Option (List ℕ × ℕ) → Option (Geometry × ℕ × ℕ)
laid None = None
laid (Some (xs, at)) =
    let x : ℕ → ℕ = λ i. get_or xs i 0 in
    Some (geometry (x 0) (x 1) (x 2) (x 3) (x 4) (x 5), x 6, at)

-- one number more, behind those of l
turn
    : (l : List ℕ) (o : Option (ℕ × ℕ)) (g : ℕ → Option (List ℕ × ℕ)) {f : ℕ → ℕ → Option (Geometry × ℕ × ℕ)}
    → ((x a : ℕ) → laid (ahead (l ++ x ∷ []) (g a)) ≡ f x a)
    → laid (ahead l (after o None λ x a. ahead (x ∷ []) (g a))) ≡ after o None f
unfolding ahead
turn l None g h = refl
turn l (Some (x, a)) g h = ap laid (ahead_ahead l (x ∷ []) (g a)) ∙ h x a

pub front_row : (xs : List ℕ) → laid (row xs 7 0) ≡ front xs
unfolding front row ahead
front_row xs =
    ap laid (sym (ahead_none (row xs 7 0)))
    ∙ turn [] (number xs 0) (row xs 6) λ n a.
    turn (n ∷ []) (number xs a) (row xs 5) λ p b.
    turn (n ∷ p ∷ []) (number xs b) (row xs 4) λ s c.
    turn (n ∷ p ∷ s ∷ []) (number xs c) (row xs 3) λ w d.
    turn (n ∷ p ∷ s ∷ w ∷ []) (number xs d) (row xs 2) λ e f.
    turn (n ∷ p ∷ s ∷ w ∷ e ∷ []) (number xs f) (row xs 1) λ limit g.
    turn (n ∷ p ∷ s ∷ w ∷ e ∷ limit ∷ []) (number xs g) (row xs 0) λ count h. refl

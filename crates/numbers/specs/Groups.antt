-- "Numbers are groups of seven bits, lowest first, high bit on all but the last, shortest form only, below 2^64."
use Rattle.std.specs.Prelude.{ℕ, zero, suc, ◌+◌, ◌-◌, ◌*◌, ◌/◌, ◌%◌, cond, ◌&&◌, Option, Some, None, List, [], ◌∷◌, ◌++◌, ltb, length, get_or}

-- A group b with the high bit on, in front of what follows. Shortest form: what follows is not 0. Below 2^64: what follows is below 2^57.
unfoldable pub longer : ℕ → Option (ℕ × ℕ) → Option (ℕ × ℕ)
longer b None = None
longer b (Some (x, next)) = cond (ltb 0 x && ltb x 144115188075855872) (Some (b - 128 + 128 * x, next)) None

-- "A number is read group by group, at most ten groups." Here: from a place, with so many groups still allowed; the number and the place after it.
unfoldable pub groups : List ℕ → ℕ → ℕ → Option (ℕ × ℕ)
groups s zero at = None
groups s (suc allowed) at =
    let b = get_or s at 0 in
    let higher = groups s allowed (at + 1) in
    cond (ltb at (length s)) (cond (ltb b 128) (Some (b, at + 1)) (longer b higher)) None

-- the number at a place
abbrev pub number : List ℕ → ℕ → Option (ℕ × ℕ)
number s at = groups s 10 at

-- what comes after a number, or what a bad number makes of it all
abbrev pub after : {A : Type 0} → Option (ℕ × ℕ) → A → (ℕ → ℕ → A) → A
after None bad f = bad
after (Some (x, next)) bad f = f x next

-- the numbers xs in front of those that follow
unfoldable pub ahead : List ℕ → Option (List ℕ × ℕ) → Option (List ℕ × ℕ)
ahead xs None = None
ahead xs (Some (ys, next)) = Some (xs ++ ys, next)

-- so many numbers, one after the other from a place, and the place after them
unfoldable pub row : List ℕ → ℕ → ℕ → Option (List ℕ × ℕ)
row s zero at = Some ([], at)
row s (suc k) at = after (number s at) None λ x next. ahead (x ∷ []) (row s k next)

-- "groups of seven bits, lowest first, high bit on all but the last, shortest form only": the bytes of x, with so many groups allowed
unfoldable pub coded : ℕ → ℕ → List ℕ
coded zero x = []
coded (suc allowed) x =
    let higher = coded allowed (x / 128) in
    cond (ltb x 128) (x ∷ []) ((128 + x % 128) ∷ higher)

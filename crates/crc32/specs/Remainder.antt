-- What a remainder of the division by G(x) is, said without the long division. proofs/Remainder.antt has the theorem that
-- the long division of `Crc32` finds it, and that there is one only.
use Rattle.std.specs.Prelude.{◌≡◌, Bool, true, false, List, [], ◌∷◌, ◌++◌, ℕ, ◌-◌, length, replicate}
use Rattle.crc32.specs.Crc32.{add, generator}

-- q(x) g(x) by the school method: g(x) is added at each power of q(x). It has a coefficient less than q and g have together
unfoldable pub product : List Bool → List Bool → List Bool
product [] g = replicate (length g - 1) false
product (true ∷ q) g = add g (false ∷ product q g)
product (false ∷ q) g = false ∷ product q g

-- p(x) = q(x) G(x) + r(x), with q(x) of n coefficients and r(x) of degree below 32
pub record Divided (n : ℕ) (p q r : List Bool) : Type 0 where
  pub quotient_size : length q ≡ n
  pub degree : length r ≡ 32
  pub equation : p ≡ add (product q generator) (replicate n false ++ r)

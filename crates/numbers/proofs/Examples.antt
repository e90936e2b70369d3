-- Numbers by their bytes, by computation.
use mathlib.Core.Path.{◌≡◌, refl}
use mathlib.Core.List.{[], ◌∷◌, ◌++◌}
use lib.ListN.{replicate}
use Rattle.std.proofs.Common.{Some, None}
use Rattle.numbers.specs.Groups.{longer, groups, number, coded}

pub reads_0 : number (0 ∷ []) 0 ≡ Some (0, 1)
unfolding groups longer
reads_0 = refl

pub reads_127 : number (127 ∷ []) 0 ≡ Some (127, 1)
unfolding groups longer
reads_127 = refl

-- 80 01, behind another byte
pub reads_128 : number (9 ∷ 128 ∷ 1 ∷ []) 1 ≡ Some (128, 3)
unfolding groups longer
reads_128 = refl

-- the largest: nine groups of ones, and a tenth that is 1
pub reads_largest : number (replicate 9 255 ++ 1 ∷ []) 0 ≡ Some (18446744073709551615, 10)
unfolding groups longer
reads_largest = refl

pub writes_largest : coded 10 18446744073709551615 ≡ replicate 9 255 ++ 1 ∷ []
unfolding coded
writes_largest = refl

-- 80 00: not the shortest form of 0
pub long_zero : number (128 ∷ 0 ∷ []) 0 ≡ None
unfolding groups longer
long_zero = refl

-- no bytes, and a group that says that more follow
pub nothing : number [] 0 ≡ None
unfolding groups longer
nothing = refl

pub cut : number (128 ∷ []) 0 ≡ None
unfolding groups longer
cut = refl

-- a tenth group of 2 would be 2^64
pub too_large : number (replicate 9 128 ++ 2 ∷ []) 0 ≡ None
unfolding groups longer
too_large = refl

pub eleven_groups : number (replicate 10 128 ++ 1 ∷ []) 0 ≡ None
unfolding groups longer
eleven_groups = refl

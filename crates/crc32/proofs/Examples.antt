-- Check values computed from the definition: of no bytes, and of the ASCII digits from 1 to 9.
use mathlib.Core.Path.{◌≡◌, refl}
use mathlib.Core.List.{[], ◌∷◌}
use Rattle.crc32.specs.Crc32.{plus, add, among, powers, low, remainder, bits_of, bits, digit, number, dividend, crc32}

empty : crc32 [] ≡ 0
unfolding plus add among powers low remainder bits_of bits digit number dividend crc32
empty = refl

nine_digits : crc32 (49 ∷ 50 ∷ 51 ∷ 52 ∷ 53 ∷ 54 ∷ 55 ∷ 56 ∷ 57 ∷ []) ≡ 0xCBF43926
unfolding plus add among powers low remainder bits_of bits digit number dividend crc32
nine_digits = refl

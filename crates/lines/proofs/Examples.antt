-- Values of the definitions, by computation.
use mathlib.Core.Path.{◌≡◌, refl}
use mathlib.Core.List.{[], ◌∷◌}
use lib.IntN.{pos, negsuc}
use Rattle.model.specs.declared.Geometry.{Geometry}
use Rattle.model.specs.Numbers.{empty}
use Rattle.lines.specs.Text.{digits, decimal, hex, answer_line, line, entry_text}

-- "0" and "18446744073709551615"
smallest : decimal 0 ≡ 48 ∷ []
unfolding digits
smallest = refl

largest : decimal 18446744073709551615 ≡ 49 ∷ 56 ∷ 52 ∷ 52 ∷ 54 ∷ 55 ∷ 52 ∷ 52 ∷ 48 ∷ 55 ∷ 51 ∷ 55 ∷ 48 ∷ 57 ∷ 53 ∷ 53 ∷ 49 ∷ 54 ∷ 49 ∷ 53 ∷ []
unfolding digits
largest = refl

-- the trace of document 01: "w 2", "r 61630000", "w !22", and the entries of "m 1.1 1.0 -"
written : answer_line 119 (pos 2) ≡ 119 ∷ 32 ∷ 50 ∷ 10 ∷ []
unfolding digits
written = refl

bytes_read : line 114 (hex (97 ∷ 99 ∷ 0 ∷ 0 ∷ [])) ≡ 114 ∷ 32 ∷ 54 ∷ 49 ∷ 54 ∷ 51 ∷ 48 ∷ 48 ∷ 48 ∷ 48 ∷ 10 ∷ []
unfolding hex
bytes_read = refl

refused : answer_line 119 (negsuc 21) ≡ 119 ∷ 32 ∷ 33 ∷ 50 ∷ 50 ∷ 10 ∷ []
unfolding digits
refused = refl

abbrev device : Geometry
device = record { n = 3; p = 2; s = 4; w = 1; e = 3; limit = 10 }

mapped : entry_text device 3 ≡ 32 ∷ 49 ∷ 46 ∷ 49 ∷ []
unfolding digits
mapped = refl

unmapped : entry_text device empty ≡ 32 ∷ 45 ∷ []
unmapped = refl

-- the letters of lower hex, and the answer that is no i64 when negated
letters : hex (171 ∷ 205 ∷ 239 ∷ []) ≡ 97 ∷ 98 ∷ 99 ∷ 100 ∷ 101 ∷ 102 ∷ []
unfolding hex
letters = refl

least : answer_line 119 (negsuc 9223372036854775807)
    ≡ 119 ∷ 32 ∷ 33 ∷ 57 ∷ 50 ∷ 50 ∷ 51 ∷ 51 ∷ 55 ∷ 50 ∷ 48 ∷ 51 ∷ 54 ∷ 56 ∷ 53 ∷ 52 ∷ 55 ∷ 55 ∷ 53 ∷ 56 ∷ 48 ∷ 56 ∷ 10 ∷ []
unfolding digits
least = refl

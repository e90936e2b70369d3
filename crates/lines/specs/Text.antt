-- Document 01, "Trace program": what its lines say, in ASCII.
use Rattle.std.specs.Prelude.{ℕ, zero, suc, ◌+◌, ◌/◌, ◌%◌, cond, List, [], ◌∷◌, ◌++◌, ltb, eqb, ℤ, pos, negsuc}
use Rattle.model.specs.declared.Geometry.{Geometry}
use Rattle.model.specs.Numbers.{empty, seg_of, page_of}

-- a number's digits in base 10, the most significant first, no zero in front; of more than k digits the last k
unfoldable pub digits : ℕ → ℕ → List ℕ
digits zero n = []
digits (suc k) n =
    let front = digits k (n / 10) in
    cond (ltb n 10) ((48 + n) ∷ []) (front ++ ((48 + n % 10) ∷ []))

-- twenty digits hold every number below 2^64
abbrev pub decimal : ℕ → List ℕ
decimal n = digits 20 n

-- "the answer in decimal, or `!` and the refusal number"
abbrev pub answer_text : ℤ → List ℕ
answer_text (pos n) = decimal n
answer_text (negsuc r) = 33 ∷ decimal (r + 1)

-- "a space and the answer"; every line ends in a line feed
abbrev pub line : ℕ → List ℕ → List ℕ
line letter text = letter ∷ (32 ∷ (text ++ (10 ∷ [])))

abbrev pub answer_line : ℕ → ℤ → List ℕ
answer_line letter r = line letter (answer_text r)

-- "its bytes in lower hex"
abbrev pub glyph : ℕ → ℕ
glyph d = cond (ltb d 10) (48 + d) (87 + d)

unfoldable pub hex : List ℕ → List ℕ
hex [] = []
hex (b ∷ bs) = glyph (b / 16) ∷ (glyph (b % 16) ∷ hex bs)

-- "`m` and each entry as segment.page or `-`": a space and one entry
abbrev pub entry_text : Geometry → ℕ → List ℕ
entry_text G word = 32 ∷ cond (eqb word empty) (45 ∷ []) (decimal (seg_of G word) ++ (46 ∷ decimal (page_of G word)))

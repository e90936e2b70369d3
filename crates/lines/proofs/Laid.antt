-- Texts laid into a line, one behind another; and the texts of digits, of bytes in hex and of an entry of the map, part by part.
use Prim.Native.Nat.{ℕ, ◌+◌, ◌*◌, ◌/◌, ◌%◌, ◌≤◌, ◌<◌}
use native.Mathlib.Nat.{add-zero}
use native.Mathlib.Numerals.{add-one}
use native.Mathlib.Omega.{arith}
use mathlib.Core.Path.{◌≡◌, refl, sym, ap, ◌∙◌}
use mathlib.Core.Bool.{true, false}
use mathlib.Core.List.{List, [], ◌∷◌, ◌++◌}
use lib.Dec.{eqb}
use lib.ListN.{length, set, take, get_or, length-append}
use lib.Seq.{take-suc, length-take-le}
use Rattle.model.specs.Lists.{splice}
use Rattle.checkpoint.proofs.Lay.{lay_none, lay_next, lay_store}
use Rattle.model.specs.declared.Geometry.{Geometry}
use Rattle.model.specs.Numbers.{empty, seg_of, page_of}
use Rattle.lines.specs.declared.Line.{Line}
use Rattle.lines.specs.Laying.{Laid}
use Rattle.lines.specs.Text.{decimal, glyph, hex, entry_text}

-- the first byte of a text
pub first : (d : List ℕ) (at v : ℕ) → at < length d → set d at v ≡ splice at (v ∷ []) d
first d at v h = lay_store d [] at at v (sym (lay_none d at)) (add-zero at) h

-- no text
pub laid_none : (a : Line) → Laid a a []
laid_none a = record { bytes = sym (lay_none a.out.now a.end); end = sym (add-zero a.end); size = refl }

-- a text behind another
pub laid_next : {a b c : Line} {s t : List ℕ} → Laid a b s → Laid b c t → a.end ≤ length a.out.now → Laid a c (s ++ t)
laid_next {a} {b} {c} {s} {t} l m h = record {
  bytes = m.bytes ∙ lay_next a.out.now s t a.end b.end l.bytes h (sym l.end);
  end = omega (arith, length-append s t);
  size = m.size ∙ l.size;
}

-- the same line and the same text under another name
pub laid_at : {a a' b : Line} {t : List ℕ} → a ≡ a' → Laid a b t → Laid a' b t
laid_at e l = rw (← e) l

pub laid_as : {a b : Line} {s t : List ℕ} → s ≡ t → Laid a b s → Laid a b t
laid_as {a} {b} e l = rw (← e) l

-- an entry of the map that is empty, and one with a segment and a page: their texts by the word
module _ (G : Geometry) (word : ℕ) where
  pub entry_none : eqb word empty ≡ true → entry_text G word ≡ 32 ∷ (45 ∷ [])
  entry_none e = rw e

  pub entry_some : eqb word empty ≡ false → entry_text G word ≡ 32 ∷ (decimal (seg_of G word) ++ (46 ∷ decimal (page_of G word)))
  entry_some e = rw e

-- two digits for each byte
pub hex-length : (bs : List ℕ) → length (hex bs) ≡ 2 * length bs
unfolding hex
hex-length [] = refl
hex-length (b ∷ bs) = omega (arith, hex-length bs)

hex-append : (bs cs : List ℕ) → hex (bs ++ cs) ≡ hex bs ++ hex cs
unfolding hex
hex-append [] cs = refl
hex-append (b ∷ bs) cs = ap (λ t. glyph (b / 16) ∷ (glyph (b % 16) ∷ t)) (hex-append bs cs)

pub hex_so_far : (bs : List ℕ) (i : ℕ) → i ≤ length bs → length (hex (take i bs)) ≡ 2 * i
hex_so_far bs i h = hex-length (take i bs) ∙ ap (λ k. 2 * k) (length-take-le i bs h)

pub hex_none : (bs : List ℕ) → hex (take 0 bs) ≡ []
unfolding hex
hex_none bs = refl

pub hex_more : (bs : List ℕ) (i : ℕ) → i < length bs → hex (take (i + 1) bs) ≡ hex (take i bs) ++ (glyph (get_or bs i 0 / 16) ∷ (glyph (get_or bs i 0 % 16) ∷ []))
unfolding hex
hex_more bs i h = ap hex (ap (λ k. take k bs) (add-one i) ∙ take-suc bs i 0 h) ∙ hex-append (take i bs) (get_or bs i 0 ∷ [])

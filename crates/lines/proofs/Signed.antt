-- The text of an answer by its sign.
use Prim.Native.Nat.{ℕ, ◌+◌, ◌≤◌}
use native.Mathlib.Numerals.{add-one}
use native.Mathlib.Omega.{arith}
use mathlib.Core.Path.{◌≡◌, sym, ap, ◌∙◌}
use mathlib.Core.Bool.{true, false}
use mathlib.Core.List.{◌∷◌}
use lib.IntN.{ℤ, pos, negsuc, nat_abs}
use lib.ListN.{length}
use borrow.Author.Tests.{ltb-true}
use lib.Signed.{lt_z}
use mir.Syntax.{w64}
use mir.Val.{SFits, of_z, to_z}
use mir.ValLaws.{to_z_pos, to_z-of_z}
use Rattle.lines.specs.Text.{decimal, answer_text}
use Rattle.lines.proofs.Digits.{twenty}

-- r as it stands in a word
abbrev pub held : ℤ → ℤ
held r = to_z w64 (of_z w64 r)

-- the sign as the code tests it
module _ (n : ℕ) (f : SFits w64 (pos n)) where
  pub not_below : lt_z (held (pos n)) (pos 0) ≡ true → ⊥
  not_below t = omega (arith, ltb-true n 0 (ap (λ z. lt_z z (pos 0)) (sym (to_z_pos w64 n f.sfits)) ∙ t))

-- the text of a number below 0 and of another, where x is the number without its sign; and the length of any text
module _ (x : ℕ) where
  pub refused : (r : ℤ) → SFits w64 r → lt_z (held r) (pos 0) ≡ true → x ≡ nat_abs (held r) → answer_text r ≡ 33 ∷ decimal x
  refused (pos n) f t e = absurd (not_below n f t)
  refused (negsuc k) f t e = ap (λ n. 33 ∷ decimal n) (add-one k ∙ sym (e ∙ ap nat_abs (to_z-of_z w64 (negsuc k) f)))

  pub answered : (r : ℤ) → SFits w64 r → lt_z (held r) (pos 0) ≡ false → x ≡ nat_abs (held r) → answer_text r ≡ decimal x
  answered (pos n) f t e = ap decimal (sym (e ∙ ap nat_abs (to_z-of_z w64 (pos n) f)))
  answered (negsuc k) f t e =
      let below : lt_z (held (negsuc k)) (pos 0) ≡ true = ap (λ z. lt_z z (pos 0)) (to_z-of_z w64 (negsuc k) f) in
      cc

pub text_length : (r : ℤ) → SFits w64 r → length (answer_text r) ≤ 21
text_length (pos n) f = omega (arith, twenty n (omega (arith, f.sfits)))
text_length (negsuc k) f = omega (arith, twenty (k + 1) (omega (arith, f.sfits)))

-- The use marks by the free counts: one turn of `mark_used`.
use Prim.Native.Nat.{ℕ, zero, suc, ◌+◌, ◌*◌, ◌-◌, ◌≤◌, ◌<◌}
use native.Mathlib.Nat.{suc-mul, mul-le-mul_right}
use native.Mathlib.Numerals.{add-one}
use native.Mathlib.Omega.{arith}
use mathlib.Core.Path.{◌≡◌, refl, sym, ap, ap₂, ◌∙◌}
use mathlib.Core.List.{List, [], ◌∷◌, ◌++◌, append_assoc, append-nil}
use borrow.Rule.Slice.PartMut.{put_mid}
use lib.ListN.{length, take, replicate, length-append, length-replicate, replicate-append-replicate}
use lib.Seq.{take-suc, take-length, length-take-le}
use Rattle.model.specs.Lists.{splice, zeros}
use Rattle.model.specs.Tables.{at, region}
use Rattle.model.specs.Checkpoint.{used_by}
use Rattle.checkpoint.proofs.Lay.{lay_none, lay_length, lay_fill, lay_next}
use Rattle.model.proofs.Slots.{whole-splice}

used_append : (p : ℕ) (xs ys : List ℕ) → used_by p (xs ++ ys) ≡ used_by p xs ++ used_by p ys
unfolding used_by
used_append p [] ys = refl
used_append p (x ∷ xs) ys =
    ap (λ r. replicate (p - x) 1 ++ replicate x 0 ++ r) (used_append p xs ys) ∙ sym (append_assoc (replicate (p - x) 1 ++ replicate x 0) (used_by p xs) (used_by p ys))

used_long : (p : ℕ) (xs : List ℕ) → ((g : ℕ) → at xs g ≤ p) → length (used_by p xs) ≡ length xs * p
unfolding used_by
used_long p [] h = omega arith
used_long p (x ∷ xs) h =
    simp length-append
    (omega (arith, length-replicate {A = ℕ} (p - x) 1, length-replicate {A = ℕ} x 0, h 0, used_long p xs (λ g. h (suc g)), suc-mul (length xs) p))

-- no page is used where every page is clear
pub used_none : (p n : ℕ) → used_by p (replicate n p) ≡ zeros (n * p)
unfolding used_by
used_none p zero =
    let z : 0 ≡ zero * p = omega arith in
    ap zeros z
used_none p (suc n) =
    let z : p - p ≡ 0 = omega arith in
    let s : p + n * p ≡ suc n * p = omega (arith, suc-mul n p) in
    ap₂ (λ k r. replicate k 1 ++ zeros p ++ r) z (used_none p n) ∙ replicate-append-replicate p (n * p) 0 ∙ ap zeros s

take_le : (p : ℕ) (xs : List ℕ) (k : ℕ) → ((g : ℕ) → at xs g ≤ p) → (g : ℕ) → at (take k xs) g ≤ p
take_le p xs zero h g = omega arith
take_le p [] (suc k) h g = omega arith
take_le p (x ∷ xs) (suc k) h zero = h 0
take_le p (x ∷ xs) (suc k) h (suc g) = take_le p xs k (λ j. h (suc j)) g

pub mark_none : (p : ℕ) (free d : List ℕ) → d ≡ splice 0 (used_by p (take 0 free)) d
unfolding used_by
mark_none p free d = sym (lay_none d 0)

module _ (p : ℕ) (free d₀ : List ℕ) (le : (g : ℕ) → at free g ≤ p) (long : length d₀ ≡ length free * p) (g : ℕ)
    (d : List ℕ) (e : d ≡ splice 0 (used_by p (take g free)) d₀) where
  abbrev U : List ℕ
  U = used_by p (take g free)

  -- segment g's end, and its first place that is clear
  abbrev end : ℕ
  end = g * p + p

  abbrev middle : ℕ
  middle = end - at free g

  abbrev ones : List ℕ
  ones = replicate (p - at free g) 1

  module _ (h : g < length free) where
    front : length U ≡ g * p
    front = used_long p (take g free) (take_le p free g le) ∙ ap (λ k. k * p) (length-take-le g free (omega arith))

    fits : end ≤ length d₀
    fits = omega (arith, long, suc-mul g p, mul-le-mul_right p h)

    long_d : length d ≡ length d₀
    long_d = ap length e ∙ lay_length d₀ U 0 (omega (arith, front, fits))

    -- the marks of segment g: its used pages, then its clear ones
    pub mark_more : {a b : List ℕ} → a ≡ replicate (length (region (g * p) (middle - g * p) d)) 1
        → b ≡ replicate (length (region middle (end - middle) (put_mid (g * p) (middle - g * p) d a))) 0
        → put_mid middle (end - middle) (put_mid (g * p) (middle - g * p) d a) b ≡ splice 0 (used_by p (take (g + 1) free)) d₀
    unfolding used_by
    mark_more {a} {b} ea eb =
        let x : List ℕ = put_mid (g * p) (middle - g * p) d a in
        let n : g * p + (p - at free g) ≡ middle = omega (arith, le g) in
        let ex : x ≡ splice (g * p) ones d = lay_fill d (g * p) middle (p - at free g) 1 n (omega (arith, long_d, fits)) ea in
        let lo : length ones ≡ p - at free g = length-replicate (p - at free g) 1 in
        let lx : length x ≡ length d = ap length ex ∙ lay_length d ones (g * p) (omega (arith, long_d, fits)) in
        let l : length (U ++ ones) ≡ middle = length-append U ones ∙ omega (arith, front) in
        let next : take (g + 1) free ≡ take g free ++ (at free g ∷ []) = ap (λ k. take k free) (add-one g) ∙ take-suc free g 0 h in
        lay_fill x middle end (at free g) 0 (omega (arith, le g)) (omega (arith, long_d, fits)) eb
        ∙ lay_next d₀ (U ++ ones) (replicate (at free g) 0) 0 middle
        (ex ∙ lay_next d₀ U ones 0 (g * p) e (omega arith) (omega (arith, front)))
        (omega arith)
        (omega (arith, l))
        ∙ ap (λ z. splice 0 z d₀)
        (append_assoc U ones (replicate (at free g) 0)
        ∙ ap (λ z. U ++ z) (sym (append-nil (ones ++ replicate (at free g) 0)))
        ∙ sym (ap (used_by p) next ∙ used_append p (take g free) (at free g ∷ [])))

  pub mark_end : g ≡ length free → d ≡ used_by p free
  mark_end h =
      e
      ∙ ap (λ k. splice 0 (used_by p k) d₀) (ap (λ k. take k free) h ∙ take-length free)
      ∙ whole-splice (used_by p free) d₀ (used_long p free le ∙ sym long)

-- What the definitions of a number say, case by case.
use Prim.Native.Nat.{ℕ, zero, suc, ◌+◌, ◌-◌, ◌*◌, ◌<◌, ◌≤◌}
use mathlib.Core.Path.{◌≡◌, refl}
use mathlib.Core.List.{List}
use native.Mathlib.Omega.{arith}
use native.Mathlib.Numerals.{sub-one}
use lib.ListN.{length, get_or}
use borrow.Author.Tests.{lt-ltb, le-ltb}
use Rattle.std.proofs.Common.{Some, None}
use Rattle.numbers.specs.Groups.{longer, groups}

pub longer_none : (b : ℕ) → longer b None ≡ None
unfolding longer
longer_none b = refl

pub longer_zero : (b x next : ℕ) → x ≡ 0 → longer b (Some (x, next)) ≡ None
unfolding longer
longer_zero b x next e = rw (le-ltb 0 x (omega (arith, e)))

pub longer_large : (b x next : ℕ) → 144115188075855872 ≤ x → longer b (Some (x, next)) ≡ None
unfolding longer
longer_large b x next h = rw (lt-ltb 0 x (omega (arith, h)), le-ltb x 144115188075855872 h)

pub longer_fits : (b x next : ℕ) → 0 < x → x < 144115188075855872 → longer b (Some (x, next)) ≡ Some (b - 128 + 128 * x, next)
unfolding longer
longer_fits b x next l h = rw (lt-ltb 0 x l, lt-ltb x 144115188075855872 h)

module _ (s : List ℕ) where
  pub groups_none : (at : ℕ) → groups s 0 at ≡ None
  unfolding groups
  groups_none at = refl

  pub groups_end : (k at : ℕ) → length s ≤ at → groups s k at ≡ None
  unfolding groups
  groups_end zero at h = refl
  groups_end (suc k) at h = rw (le-ltb at (length s) h)

  pub groups_last
      : (k at : ℕ)
      → 0 < k
      → at < length s
      → get_or s at 0 < 128
      → groups s k at ≡ Some (get_or s at 0, at + 1)
  unfolding groups
  groups_last zero at a h l = absurd (omega (arith, a))
  groups_last (suc k) at a h l = rw (lt-ltb at (length s) h, lt-ltb (get_or s at 0) 128 l)

  pub groups_more
      : (k at : ℕ)
      → 0 < k
      → at < length s
      → 128 ≤ get_or s at 0
      → groups s k at ≡ longer (get_or s at 0) (groups s (k - 1) (at + 1))
  unfolding groups
  groups_more zero at a h l = absurd (omega (arith, a))
  groups_more (suc k) at a h l = rw (lt-ltb at (length s) h, le-ltb (get_or s at 0) 128 l, sub-one (suc k))

-- A record by its number. The bad segments, from any of them: no more, none where a number is bad, and one more.
use Prim.Native.Nat.{ℕ, zero, suc, ◌-◌, ◌<◌}
use mathlib.Core.Path.{◌≡◌, sym, ap}
use mathlib.Core.Bool.{Bool, ◌&&◌}
use mathlib.Core.List.{List}
use native.Mathlib.Omega.{arith}
use native.Mathlib.Numerals.{sub-one}
use lib.Dec.{ltb}
use lib.ListN.{set}
use Rattle.std.proofs.Common.{Some, None}
use Rattle.numbers.specs.Groups.{number}
use Rattle.records.specs.Trace.{marking, record_of}

module _ (xs : List ℕ) (n at : ℕ) (inside : Bool) (bad : List ℕ) where
  pub marking_done : (k : ℕ) → k ≡ 0 → marking xs n k at inside bad ≡ (Some (at, inside), bad)
  unfolding marking
  marking_done k e = rw e

  pub marking_short : (k : ℕ) → 0 < k → number xs at ≡ None → marking xs n k at inside bad ≡ (None, bad)
  unfolding marking
  marking_short zero h e = absurd (omega arith)
  marking_short (suc k) h e = rw e

  pub marking_more
      : (k : ℕ) {g next : ℕ}
      → 0 < k
      → number xs at ≡ Some (g, next)
      → marking xs n k at inside bad ≡ marking xs n (k - 1) next (inside && ltb g n) (set bad g 1)
  unfolding marking
  marking_more zero h e = absurd (omega arith)
  marking_more (suc k) h e = rw (e, sub-one (suc k))

-- a record by its number
pub of_kind : (xs : List ℕ) (at : ℕ) {kind k : ℕ} → kind ≡ k → record_of xs k at ≡ record_of xs kind at
of_kind xs at e = ap (λ k. record_of xs k at) (sym e)

-- What a number that was read tells of its bytes: the last group alone, or a group with the high bit on before a number of fewer groups.
-- So the place after a number is past its own and not past the end.
use Prim.Native.Nat.{ℕ, zero, suc, ◌+◌, ◌-◌, ◌*◌, ◌<◌, ◌≤◌}
use mathlib.Core.Path.{◌≡◌, sym, ◌∙◌}
use mathlib.Core.Logic.{◌⊎◌, inl, inr, ⊎_elim}
use mathlib.Core.List.{List}
use native.Mathlib.Decide.{dec_lt}
use native.Mathlib.Omega.{arith}
use native.Mathlib.Numerals.{sub-one}
use lib.ListN.{length, get_or}
use Rattle.std.proofs.Common.{Option, Some, None}
use Rattle.std.proofs.lemmas.Option.{some_pair_parts}
use Rattle.numbers.specs.Groups.{longer, groups, number}
use Rattle.numbers.proofs.Laws.{longer_none, longer_zero, longer_large, longer_fits, groups_none, groups_end, groups_last, groups_more}

pub less? : (a b : ℕ) → (a < b) ⊎ (b ≤ a)
less? a b = go (dec_lt a b)
  where
    go : Dec (a < b) → (a < b) ⊎ (b ≤ a)
    go (yes e) = inl e
    go (no h) = inr (omega arith)

-- what the groups behind a group b make, where b before them is a number
pub record Higher (b x next : ℕ) (behind : Option (ℕ × ℕ)) : Type 0 where
  pub higher : ℕ
  pub read : behind ≡ Some (higher, next)
  pub above : 0 < higher
  pub below : higher < 144115188075855872
  pub value : x ≡ b - 128 + 128 * higher

pub longer-number : (b x next : ℕ) (behind : Option (ℕ × ℕ)) → longer b behind ≡ Some (x, next) → Higher b x next behind
longer-number b x next None e = let f = longer_none b in cc
longer-number b x next (Some (y, end)) e = go (less? 0 y) (less? y 144115188075855872)
  where
    go : (0 < y) ⊎ (y ≤ 0) → (y < 144115188075855872) ⊎ (144115188075855872 ≤ y) → Higher b x next (Some (y, end))
    go (inr z) _ = let f = longer_zero b y end (omega arith) in cc
    go (inl _) (inr l) = let f = longer_large b y end l in cc
    go (inl a) (inl l) =
        let parts = some_pair_parts _ _ _ _ (sym (longer_fits b y end a l) ∙ e) in
        record { higher = y; read = cc (parts.1); above = a; below = l; value = sym parts.0 }

module _ (s : List ℕ) where
  pub record Last (at x next : ℕ) : Type 0 where
    pub there : at < length s
    pub low : get_or s at 0 < 128
    pub value : x ≡ get_or s at 0
    pub end : next ≡ at + 1

  pub record More (allowed at x next : ℕ) : Type 0 where
    pub there : at < length s
    pub high : 128 ≤ get_or s at 0
    pub behind : Higher (get_or s at 0) x next (groups s allowed (at + 1))

  -- a number that was read, by its first group
  pub by_group : (k at x next : ℕ) → groups s (suc k) at ≡ Some (x, next) → Last at x next ⊎ More k at x next
  by_group k at x next e = go (less? at (length s)) (less? (get_or s at 0) 128)
    where
      go : (at < length s) ⊎ (length s ≤ at) → (get_or s at 0 < 128) ⊎ (128 ≤ get_or s at 0) → Last at x next ⊎ More k at x next
      go (inr h) _ = let f = groups_end s (suc k) at h in cc
      go (inl h) (inl l) =
          let parts = some_pair_parts _ _ _ _ (sym (groups_last s (suc k) at (omega arith) h l) ∙ e) in
          inl record { there = h; low = l; value = sym parts.0; end = sym parts.1 }
      go (inl h) (inr l) =
          let f = groups_more s (suc k) at (omega arith) h l in
          inr record { there = h; high = l; behind = longer-number _ x next _ (rw (sub-one (suc k)) at (sym f ∙ e)) }

  pub groups-place : (k at x next : ℕ) → groups s k at ≡ Some (x, next) → (at < next) × (next ≤ length s)
  groups-place zero at x next e = let f = groups_none s at in cc
  groups-place (suc k) at x next e =
      ⊎_elim
      (λ l. (omega arith, omega arith))
      (λ m. let i = groups-place k (at + 1) m.behind.higher next m.behind.read in (omega arith, i.1))
      (by_group k at x next e)

  -- the place after a number is past its own, and not past the end
  pub number-place : {at x next : ℕ} → number s at ≡ Some (x, next) → (at < next) × (next ≤ length s)
  number-place {at} {x} {next} e = groups-place 10 at x next e

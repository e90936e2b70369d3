-- A number is read exactly where its shortest form stands: what was read is the bytes `coded` gives, and those bytes are read as their number.
use Prim.Native.Nat.{ℕ, zero, suc, ◌+◌, ◌-◌, ◌*◌, ◌/◌, ◌%◌, ◌^◌, ◌<◌, ◌≤◌}
use mathlib.Core.Path.{◌≡◌, sym, ap, ◌∙◌}
use mathlib.Core.Logic.{⊎_elim}
use mathlib.Core.List.{List, [], ◌∷◌, ◌++◌}
use native.Mathlib.Omega.{arith}
use native.Mathlib.Numerals.{add-one, sub-one}
use native.Mathlib.Nat.{pow-suc}
use lib.ListN.{length, get_or, drop, length-drop}
use lib.Seq.{drop-cons}
use borrow.Author.Tests.{lt-ltb, le-ltb}
use Rattle.std.proofs.Common.{Some}
use Rattle.numbers.specs.Groups.{groups, number, coded}
use Rattle.numbers.proofs.Laws.{longer_fits, groups_none, groups_last, groups_more}
use Rattle.numbers.proofs.Places.{less?, Last, More, by_group}

coded_last : (k x : ℕ) → x < 128 → coded (suc k) x ≡ x ∷ []
unfolding coded
coded_last k x h = rw (lt-ltb x 128 h)

coded_more : (k x : ℕ) → 128 ≤ x → coded (suc k) x ≡ (128 + x % 128) ∷ coded k (x / 128)
unfolding coded
coded_more k x h = rw (le-ltb x 128 h)

-- the group at a place, and what stands behind it
first : (s : List ℕ) (at : ℕ) → at < length s → drop at s ≡ get_or s at 0 ∷ drop (at + 1) s
first s at h = rw (add-one, drop-cons s at 0)

-- what was read, in bytes
module _ (s : List ℕ) (byte : (i : ℕ) → get_or s i 0 < 256) where
  below : (k at x next : ℕ) → groups s k at ≡ Some (x, next) → x < 18446744073709551616
  below zero at x next e = let f = groups_none s at in cc
  below (suc k) at x next e =
      ⊎_elim
      (λ l. omega (arith, l.value, l.low))
      (λ m. omega (arith, m.behind.value, m.behind.below, byte at))
      (by_group s k at x next e)

  last_coded : (k at x next : ℕ) → Last s at x next → drop at s ≡ coded (suc k) x ++ drop next s
  last_coded k at x next l = rw (l.value, l.end, coded_last k (get_or s at 0) l.low) (first s at l.there)

  more-coded
      : (k at x next : ℕ) (m : More s k at x next)
      → drop (at + 1) s ≡ coded k m.behind.higher ++ drop next s
      → drop at s ≡ coded (suc k) x ++ drop next s
  more-coded k at x next m i =
      let b = get_or s at 0 in
      let high : 128 ≤ x = omega (arith, m.behind.value, m.behind.above) in
      let low : 128 + x % 128 ≡ b = omega (arith, m.behind.value, m.high, byte at) in
      let behind : x / 128 ≡ m.behind.higher = omega (arith, m.behind.value, m.high, byte at) in
      rw (coded_more k x high, low, behind, ← i) (first s at m.there)

  groups-coded : (k at x next : ℕ) → groups s k at ≡ Some (x, next) → drop at s ≡ coded k x ++ drop next s
  groups-coded zero at x next e = let f = groups_none s at in cc
  groups-coded (suc k) at x next e =
      ⊎_elim
      (λ l. last_coded k at x next l)
      (λ m. more-coded k at x next m (groups-coded k (at + 1) m.behind.higher next m.behind.read))
      (by_group s k at x next e)

  -- a number that was read is below 2^64, and its bytes are its shortest form
  pub number-coded
      : (at x next : ℕ)
      → number s at ≡ Some (x, next)
      → (x < 18446744073709551616) × (drop at s ≡ coded 10 x ++ drop next s)
  number-coded at x next e = (below 10 at x next e, groups-coded 10 at x next e)

-- bytes that begin with a group: there is one, it is that, and the others stand behind it
record Begins (s : List ℕ) (at b : ℕ) (behind : List ℕ) : Type 0 where
  there : at < length s
  group : get_or s at 0 ≡ b
  others : drop (at + 1) s ≡ behind

begins : (s : List ℕ) (at b : ℕ) (behind : List ℕ) → drop at s ≡ b ∷ behind → Begins s at b behind
begins s at b behind e =
    let long : length s - at ≡ suc (length behind) = sym (length-drop at s) ∙ ap length e in
    let there : at < length s = omega arith in
    let f = sym (first s at there) ∙ e in
    record { there = there; group = cc; others = cc }

-- bytes, as what is read from them
module _ (s rest : List ℕ) where
  last-read
      : (k at x : ℕ)
      → x < 128
      → drop at s ≡ coded (suc k) x ++ rest
      → groups s (suc k) at ≡ Some (x, at + length (coded (suc k) x))
  last-read k at x l e =
      let c = coded_last k x l in
      let f : Begins s at x rest = begins s at x rest (rw c at e) in
      let low : get_or s at 0 < 128 = omega (arith, f.group) in
      rw (groups_last s (suc k) at (omega arith) f.there low, f.group, c)

  more-read
      : (k at x : ℕ)
      → 128 ≤ x
      → x < 18446744073709551616
      → drop at s ≡ coded (suc k) x ++ rest
      → (drop (at + 1) s ≡ coded k (x / 128) ++ rest → groups s k (at + 1) ≡ Some (x / 128, at + 1 + length (coded k (x / 128))))
      → groups s (suc k) at ≡ Some (x, at + length (coded (suc k) x))
  more-read k at x l b e i =
      let c = coded_more k x l in
      let behind = coded k (x / 128) in
      let f : Begins s at (128 + x % 128) (behind ++ rest) = begins s at (128 + x % 128) (behind ++ rest) (rw c at e) in
      let high : 128 ≤ get_or s at 0 = omega (arith, f.group) in
      let value : 128 + x % 128 - 128 + 128 * (x / 128) ≡ x = omega arith in
      let end : at + 1 + length behind ≡ at + suc (length behind) = omega arith in
      rw (
        groups_more s (suc k) at (omega arith) f.there high,
        sub-one (suc k),
        i f.others,
        f.group,
        longer_fits (128 + x % 128) (x / 128) (at + 1 + length behind) (omega arith) (omega arith),
        value,
        c,
        end,
      )

  coded-groups
      : (k at x : ℕ)
      → x < 128 ^ suc k
      → x < 18446744073709551616
      → drop at s ≡ coded (suc k) x ++ rest
      → groups s (suc k) at ≡ Some (x, at + length (coded (suc k) x))
  coded-groups zero at x h b e = last-read 0 at x (omega arith) e
  coded-groups (suc k) at x h b e =
      ⊎_elim
      (λ l. last-read (suc k) at x l e)
      (λ l. more-read (suc k) at x l b e (coded-groups k (at + 1) (x / 128) (omega (arith, pow-suc 128 (suc k))) (omega arith)))
      (less? x 128)

  -- the shortest form of a number below 2^64 is read as that number
  pub coded-number
      : (at x : ℕ)
      → x < 18446744073709551616
      → drop at s ≡ coded 10 x ++ rest
      → number s at ≡ Some (x, at + length (coded 10 x))
  coded-number at x b e = coded-groups 9 at x (omega arith) b e

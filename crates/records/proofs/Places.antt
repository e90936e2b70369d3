-- A record that is found ends behind the place where it begins, and the bytes of a write stand in the trace.
use Prim.Native.Nat.{ℕ, ◌+◌, ◌<◌, ◌≤◌}
use mathlib.Core.Path.{◌≡◌, refl}
use mathlib.Core.Bool.{Bool, true, false, cond}
use mathlib.Core.List.{List}
use native.Mathlib.Omega.{arith}
use lib.Dec.{eqb, leb}
use lib.ListN.{length}
use borrow.Author.Tests.{leb-true}
use Rattle.std.proofs.Common.{Option, Some, None}
use Rattle.numbers.specs.Groups.{number}
use Rattle.numbers.proofs.Places.{number-place}
use Rattle.records.specs.Trace.{Record, Write, Within, after, write_record, read_record, list_record, record_of, next_record}

-- what is told of a record that is found from a place
abbrev pub Placed : List ℕ → ℕ → Option (Record × ℕ) → Type 0
Placed xs at None = Unit {0}
Placed xs at (Some (e, next)) = (at < next) × Within xs e

module _ (xs : List ℕ) where
  -- from a place further on, behind a number, and by a test
  sooner : (at a : ℕ) (x : Option (Record × ℕ)) → at < a → Placed xs a x → Placed xs at x
  sooner at a None h p = tt
  sooner at a (Some (e, next)) h p = (omega (arith, h, p.0), p.1)

  behind
      : (at a : ℕ) (f : ℕ → ℕ → Option (Record × ℕ))
      → ((x next : ℕ) → a < next → next ≤ length xs → Placed xs at (f x next))
      → Placed xs at (after (number xs a) None f)
  behind at a f h = go (number xs a) refl
    where
      go : (r : Option (ℕ × ℕ)) → number xs a ≡ r → Placed xs at (after r None f)
      go None e = tt
      go (Some (x, next)) e = let p = number-place xs e in h x next p.0 p.1

  tested : (at : ℕ) (t : Bool) (x y : Option (Record × ℕ)) → (t ≡ true → Placed xs at x) → Placed xs at y → Placed xs at (cond t x y)
  tested at true x y p q = p refl
  tested at false x y p q = q

  write_placed : (at : ℕ) → Placed xs at (write_record xs at)
  unfolding write_record
  write_placed at =
      behind at at _ λ sector a h _. behind at a _ λ len b l _.
      tested at (leb (b + len) (length xs)) (Some (Write sector len b, b + len)) None
      (λ e. (omega (arith, h, l), leb-true (b + len) (length xs) e)) tt

  read_placed : (at : ℕ) → Placed xs at (read_record xs at)
  unfolding read_record
  read_placed at = behind at at _ λ sector a h _. behind at a _ λ len b l _. (omega (arith, h, l), tt)

  list_placed : (at : ℕ) → Placed xs at (list_record xs at)
  unfolding list_record
  list_placed at = behind at at _ λ m a h _. (h, tt)

  pub record_placed : (at : ℕ) → Placed xs at (next_record xs at)
  unfolding record_of
  record_placed at =
      behind at at _ λ kind a h _.
      tested at (eqb kind 0) _ _ (λ _. sooner at a (write_record xs a) h (write_placed a))
      (tested at (eqb kind 1) _ _ (λ _. sooner at a (read_record xs a) h (read_placed a))
      (tested at (eqb kind 2) _ _ (λ _. (h, tt))
      (tested at (eqb kind 3) _ _ (λ _. sooner at a (list_record xs a) h (list_placed a))
      (tested at (eqb kind 4) _ _ (λ _. (h, tt))
      (tested at (eqb kind 5) _ _ (λ _. (h, tt))
      (tested at (eqb kind 6) _ _ (λ _. (h, tt)) tt))))))

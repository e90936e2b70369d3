-- 02, M-101: "under the new one answers equal the old after 28 and 121 are read as 14".
use Prim.Native.Nat.{ℕ, zero, suc, ◌≤◌, ◌<◌}
use native.Mathlib.Omega.{arith}
use mathlib.Core.Path.{◌≡◌, refl}
use borrow.Author.Tests.{ne_eqb}
use Rattle.model.specs.Numbers.{Numbers, Old, New, Answer, Ok, Err, Cause, Wrong, Unsound, Unmapped, NoRoom, Device, CopyNoRoom, CopyDevice, Erase, Reason}
use Rattle.model.specs.Numbers.{chosen, refusal, number, as_old}
use Rattle.model.specs.Causes.{kind_of, OfReason, ReasonsIn}

-- A reason 28 would be read as 14. A call's are at most 9.
pub read_as_old : (a : Answer) → ReasonsIn (λ r. r ≤ 11) a → as_old (number New a) ≡ number Old a
read_as_old (Ok m) h = refl
read_as_old (Err Wrong) h = refl
read_as_old (Err Unsound) h = refl
read_as_old (Err Unmapped) h = refl
read_as_old (Err NoRoom) h = refl
read_as_old (Err Device) h = refl
read_as_old (Err CopyNoRoom) h = refl
read_as_old (Err CopyDevice) h = refl
read_as_old (Err Erase) h = refl
read_as_old (Err (Reason zero)) h = refl
read_as_old (Err (Reason (suc r))) h = rw (ne_eqb r 27 (omega arith), ne_eqb r 120 (omega arith))

-- and every refusal number is small, if the reasons are
chosen_small : (N : Numbers) (old new : ℕ) → old < 4096 → new < 4096 → chosen N old new < 4096
chosen_small Old old new h i = h
chosen_small New old new h i = i

pub refusal_small : (N : Numbers) (c : Cause) → OfReason (λ r. r < 4096) (kind_of c) → refusal N c < 4096
refusal_small N Wrong h = omega arith
refusal_small N Unsound h = omega arith
refusal_small N Unmapped h = omega arith
refusal_small N NoRoom h = chosen_small N _ _ (omega arith) (omega arith)
refusal_small N Device h = omega arith
refusal_small N CopyNoRoom h = chosen_small N _ _ (omega arith) (omega arith)
refusal_small N CopyDevice h = chosen_small N _ _ (omega arith) (omega arith)
refusal_small N Erase h = omega arith
refusal_small N (Reason r) h = h

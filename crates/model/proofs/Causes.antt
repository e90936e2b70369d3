-- Laws of the kinds of refusals.
use Prim.Native.Nat.{ℕ}
use Rattle.model.specs.Numbers.{Answer, Ok, Err, Cause, Wrong, Unsound, Unmapped, NoRoom, Device, CopyNoRoom, CopyDevice, Erase, Reason}
use Rattle.model.specs.Causes.{Failing, for_room, at_device, Kind, in_tests, in_read, in_write, in_copy, in_erase, in_file, kind_of, OfReason, ReasonsIn}
use Rattle.model.specs.PageGc.{of_copy}

-- a copy's cause has the kind of its write's, moved to the copy: for room or at the device alike
pub kind_copied : (P : Kind → Type 0) → ((f : Failing) → P (in_write f) → P (in_copy f)) → (c : Cause) → P (kind_of c) → P (kind_of (of_copy c))
kind_copied P h Wrong p = p
kind_copied P h Unsound p = p
kind_copied P h Unmapped p = p
kind_copied P h NoRoom p = h for_room p
kind_copied P h Device p = h at_device p
kind_copied P h CopyNoRoom p = p
kind_copied P h CopyDevice p = p
kind_copied P h Erase p = p
kind_copied P h (Reason r) p = p

of_reason : {P Q : ℕ → Type 0} → ((r : ℕ) → P r → Q r) → (k : Kind) → OfReason P k → OfReason Q k
of_reason h in_tests p = p
of_reason h in_read p = p
of_reason h (in_write f) p = p
of_reason h (in_copy f) p = p
of_reason h in_erase p = p
of_reason h (in_file r) p = h r p

pub reasons_in : {P Q : ℕ → Type 0} → ((r : ℕ) → P r → Q r) → (a : Answer) → ReasonsIn P a → ReasonsIn Q a
reasons_in h (Ok m) p = p
reasons_in h (Err c) p = of_reason h (kind_of c) p

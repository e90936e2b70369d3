-- Where a call is refused. A set of causes is a set of their kinds.
use Rattle.std.specs.Prelude.{ℕ}
use Rattle.model.specs.Numbers.{Answer, Ok, Err, Cause, Wrong, Unsound, Unmapped, NoRoom, Device, CopyNoRoom, CopyDevice, Erase, Reason}

-- 02, M-101: "whether a copy failed for room (28) or at the device (121)"; a write fails in the same two ways
pub data Failing : Type 0 where
  for_room : Failing
  at_device : Failing

-- in the tests before its deed; in a read, of an unmapped page; in a write's page, or a copy's; in a collection's erase; in a checkpoint's tests
pub data Kind : Type 0 where
  in_tests : Kind
  in_read : Kind
  in_write : Failing → Kind
  in_copy : Failing → Kind
  in_erase : Kind
  in_file : (reason : ℕ) → Kind

abbrev pub kind_of : Cause → Kind
kind_of Wrong = in_tests
kind_of Unsound = in_tests
kind_of Unmapped = in_read
kind_of NoRoom = in_write for_room
kind_of Device = in_write at_device
kind_of CopyNoRoom = in_copy for_room
kind_of CopyDevice = in_copy at_device
kind_of Erase = in_erase
kind_of (Reason r) = in_file r

abbrev pub AtDevice : Failing → Type 0
AtDevice for_room = ⊥
AtDevice at_device = Unit {0}

-- a collection is refused because its copy is
abbrev pub ByCopy : Kind → Type 0
ByCopy in_tests = ⊥
ByCopy in_read = ⊥
ByCopy (in_write f) = ⊥
ByCopy (in_copy f) = Unit {0}
ByCopy in_erase = ⊥
ByCopy (in_file r) = ⊥

-- what is said of a reason alone: of a kind, and of an answer
abbrev pub OfReason : (ℕ → Type 0) → Kind → Type 0
OfReason P in_tests = Unit {0}
OfReason P in_read = Unit {0}
OfReason P (in_write f) = Unit {0}
OfReason P (in_copy f) = Unit {0}
OfReason P in_erase = Unit {0}
OfReason P (in_file r) = P r

abbrev pub ReasonsIn : (ℕ → Type 0) → Answer → Type 0
ReasonsIn P (Ok m) = Unit {0}
ReasonsIn P (Err c) = OfReason P (kind_of c)

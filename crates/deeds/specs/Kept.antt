-- What is kept from record to record and lent in parts, as the definitions' `Kept`.
use Rattle.std.specs.Prelude.{◌≡◌, length}
use Rattle.lending.specs.Unit.{recorder_of}
use Rattle.lending.specs.Unit as unit
use Rattle.deeds.specs.declared.KeptMut.{KeptMut}
use Rattle.deeds.specs.Deeds.{Kept, kept}

abbrev pub kept_of : KeptMut → Kept
kept_of k = kept (recorder_of k.unit) k.out.now k.file.now k.stored

-- the geometry and the places lent are the same, and as long: what a call leaves lies where it was lent
pub record Same (a b : KeptMut) : Type 0 where
  pub unit : unit.Same a.unit b.unit
  pub out : b.out.ghost_name ≡ a.out.ghost_name
  pub file : b.file.ghost_name ≡ a.file.ghost_name
  pub out_len : length b.out.now ≡ length a.out.now
  pub file_len : length b.file.now ≡ length a.file.now

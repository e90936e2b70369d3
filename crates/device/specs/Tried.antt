-- How the device promises an operation that it may refuse.
use Rattle.std.specs.Prelude.{◌≡◌, Bool, cond, Result, Ok, Err}
use Rattle.model.specs.declared.Cause.{Cause}
use Rattle.model.specs.Device.{Flash}

-- an operation that may be done or not answered r: done, it leaves `done`; "A refused operation changes nothing."
pub record Tried (may : Bool) (why : Cause) (done before : Flash) (r : Result (Unit {0}) Cause) (after : Flash) : Type 0 where
  pub ok : r ≡ cond may (Ok tt) (Err why)
  pub left : after ≡ cond may done before

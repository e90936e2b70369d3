-- What an operation's answer says: done, it was allowed, and left what it makes; refused, it was not, and changed nothing. Assumes nothing.
use mathlib.Core.Path.{◌≡◌, refl}
use mathlib.Core.Bool.{Bool, true, false}
use Rattle.std.specs.Prelude.{Result, Ok, Err}
use Rattle.model.specs.declared.Cause.{Cause}
use Rattle.model.specs.Device.{Flash}
use Rattle.device.specs.Tried.{Tried}

module _ {why : Cause} {done before after : Flash} where
  pub tried_ok : (may : Bool) → Tried may why done before (Ok tt) after → (may ≡ true) × (after ≡ done)
  tried_ok true t = (refl, t.left)
  tried_ok false t = let k : ◌≡◌ {A = Result (Unit {0}) Cause} (Ok tt) (Err why) = t.ok in cc

  pub tried_err : (may : Bool) {e : Cause} → Tried may why done before (Err e) after → (may ≡ false) × (e ≡ why) × (after ≡ before)
  tried_err true {e} t = let k : ◌≡◌ {A = Result (Unit {0}) Cause} (Err e) (Ok tt) = t.ok in cc
  tried_err false {e} t = let k : ◌≡◌ {A = Result (Unit {0}) Cause} (Err e) (Err why) = t.ok in (refl, (cc), t.left)

-- What the tests of a collection answer, and the place of a sector.
use Rattle.std.specs.Prelude.{ℕ, ◌+◌, Bool, cond, ◌&&◌, leb, ltb, Result, Ok, Err}
use Rattle.model.specs.declared.Geometry.{Geometry}
use Rattle.model.specs.declared.LogicalPage.{LogicalPage}
use Rattle.model.specs.declared.Cause.{Cause}
use Rattle.model.specs.declared.Cause.TheVariants.{Wrong, Unsound}
use Rattle.model.specs.Numbers.{logical_page, offset}

-- "Order: geometry and sizes, soundness"
abbrev pub tested : (sizes sound : Bool) → Result (Unit {0}) Cause
tested sizes sound = cond sizes (cond sound (Ok tt) (Err Unsound)) (Err Wrong)

-- "logical page = sector / s, offset = sector mod s", where the map has that page, and the length ends within it
abbrev pub within : Geometry → (sector len : ℕ) → Result (LogicalPage × ℕ) Cause
within G sector len =
    cond (ltb (logical_page G sector) G.e && leb (offset G sector + len) G.s)
    (Ok (record { 0 = logical_page G sector }, offset G sector))
    (Err Wrong)

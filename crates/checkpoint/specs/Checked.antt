-- What the tests of a file answer, by the number of the first that fails.
use Rattle.std.specs.Prelude.{ℕ, zero, suc, Result, Ok, Err}
use Rattle.model.specs.declared.Cause.{Cause}
use Rattle.model.specs.declared.Cause.TheVariants.{Reason}

-- 0 for a file that passes
abbrev pub checked : ℕ → Result (Unit {0}) Cause
checked zero = Ok tt
checked (suc r) = Err (Reason (suc r))

-- `write_record` meets its contract: the place after a number is not past the end, so what is left is a difference.
use Rattle.std.proofs.Common.{◌+◌, ◌≤◌, length, sym, arith}
use Rattle.std.proofs.lemmas.Grind.{common_steps}
use Rattle.numbers.proofs.Places.{number-place}
use Rattle.records.specs.Trace.{write_record}
use Rattle.records.proofs.write_record.Goals as goal

-- the bytes begin in the trace, or at its end
pub overflow_sub-xs : goal.overflow_sub-xs
overflow_sub-xs c = (number-place c.args.xs.now (sym c.in_ok-len.ensures)).1

pub returns : goal.returns
unfolding write_record
returns c =
    let begins = number-place c.args.xs.now (sym c.in_ok-len.ensures) in
    let within : c.in_ok-len.bytes + c.in_ok-len.len ≤ length c.args.xs.now = omega (arith, begins.1) in
    grind (arith, common_steps)

-- `put_decimal` meets its contract: the last digit behind those of x / 10, of which a number below 10 has none.
use Rattle.std.proofs.Common.{length, sym, ap, arith}
use Rattle.lines.proofs.Digits.{decimal_one, decimal_more, decimal_length}
use Rattle.lines.proofs.Laid.{laid_next, laid_at, laid_as}
use Rattle.lines.proofs.Line.+put_decimal.Goals as goal
use Rattle.lines.proofs.Line.+put_decimal.Goals.{then-x-ge10, else-x-ge10}

pub put_decimal-requires : goal.put_decimal-requires
put_decimal-requires t c = (omega arith, omega (arith, decimal_length c.args.x c.if-x-ge10.true c.ranges.x.fits))

pub put-requires : goal.put-requires
put-requires t c =
    elim c.if-x-ge10.branch [
      | then-x-ge10 w ↦ rw w.self-is (omega (arith, decimal_length c.args.x w.if-x-ge10.true c.ranges.x.fits))
      | else-x-ge10 w ↦ rw w.self-is (omega (arith, ap length (decimal_one c.args.x w.if-x-ge10.false)))
    ]

pub returns-clause-laid : goal.returns-clause-laid
returns-clause-laid t c =
    elim c.if-x-ge10.branch [
      | then-x-ge10 w ↦
          laid_as (sym (decimal_more c.args.x w.if-x-ge10.true c.ranges.x.fits))
          (laid_next w.put_decimal.ensures.laid (laid_at w.self-is c.put.ensures.laid) (omega arith))
      | else-x-ge10 w ↦ laid_as (sym (decimal_one c.args.x w.if-x-ge10.false)) (laid_at w.self-is c.put.ensures.laid)
    ]

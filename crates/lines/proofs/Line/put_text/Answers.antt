-- `put_text` meets its contract: `!` in front of a number below 0, and the digits without the sign.
use Rattle.std.proofs.Common.{sym, arith}
use Rattle.lines.proofs.Signed.{refused, answered}
use Rattle.lines.proofs.Laid.{laid_next, laid_at, laid_as}
use Rattle.lines.proofs.Line.put_text.Goals as goal
use Rattle.lines.proofs.Line.put_text.Goals.{then-r-lt0, else-r-lt0}

pub returns-clause-laid : goal.returns-clause-laid
returns-clause-laid c =
    elim c.if-r-lt0.branch [
      | then-r-lt0 w ↦
          laid_as (sym (refused c.unsigned_abs.result c.args.r c.ranges.r w.if-r-lt0.true c.unsigned_abs.ensures.value))
          (laid_next w.put.ensures.laid (laid_at w.self-is c.put_decimal.ensures.laid) (omega arith))
      | else-r-lt0 w ↦
          laid_as (sym (answered c.unsigned_abs.result c.args.r c.ranges.r w.if-r-lt0.false c.unsigned_abs.ensures.value))
          (laid_at w.self-is c.put_decimal.ensures.laid)
    ]

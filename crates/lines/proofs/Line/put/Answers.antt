-- `put` meets its contract: a byte is stored where the line ends.
use Rattle.std.proofs.Common.{refl, length-set, arith}
use Rattle.lines.proofs.Laid.{first}
use Rattle.lines.proofs.Line.put.Goals as goal

pub returns-clause-laid : goal.returns-clause-laid
returns-clause-laid c =
    let l = c.args.self.now in
    record { bytes = first l.out.now l.end c.args.byte (omega arith); end = refl; size = length-set l.out.now l.end c.args.byte }

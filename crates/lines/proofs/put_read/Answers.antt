-- `put_read` meets its contract: letter and space, the digits, the line feed.
use Rattle.std.proofs.Common.{◌∙◌, arith, rules}
use Rattle.lines.proofs.Laid.{laid_next, hex-length}
use Rattle.lines.proofs.put_read.Goals as goal

pub put_hex-requires : goal.put_hex-requires
put_hex-requires c = omega (arith, hex-length c.args.bytes.now)

pub put-requires-3 : goal.put-requires-3
put-requires-3 c = omega (arith, hex-length c.args.bytes.now)

pub returns-clause-laid : goal.returns-clause-laid
returns-clause-laid c =
    let told = laid_next c.put_hex.ensures.laid c.put-3.ensures.laid (omega arith) in
    let spaced = laid_next c.put-2.ensures.laid told (omega arith) in
    let line = laid_next c.put.ensures.laid spaced (omega arith) in
    (search rules) ∙ line.bytes

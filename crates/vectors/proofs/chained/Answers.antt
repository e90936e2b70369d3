-- `vectors::chained` meets its contract: the state after three parts is that after the third, from that after the first two.
use Rattle.std.proofs.Common.{◌++◌, lit<}
use Rattle.crc32.proofs.Laws.{crc_append, after-append}
use Rattle.vectors.proofs.chained.Goals as goal

pub returns : goal.returns
returns c =
    let a = c.args.a.now in
    let b = c.args.b.now in
    cc (crc_append (a ++ b) c.args.c.now, after-append 0xffff_ffff a b (lit< tt))

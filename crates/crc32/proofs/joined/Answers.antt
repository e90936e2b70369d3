-- `crc32::joined` meets its contract: the state after two texts is that after the second, from that after the first.
use Rattle.crc32.proofs.Laws.{crc_append}
use Rattle.crc32.proofs.joined.Goals as goal

pub returns : goal.returns
returns c = cc (crc_append c.args.a.now c.args.b.now)

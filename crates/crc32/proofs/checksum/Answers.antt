-- `crc32::checksum` meets its contract: the definition is the division from the state all ones, complemented.
use Rattle.crc32.proofs.Laws.{crc_after}
use Rattle.crc32.proofs.checksum.Goals as goal

pub returns : goal.returns
returns c = cc (crc_after c.args.s.now)

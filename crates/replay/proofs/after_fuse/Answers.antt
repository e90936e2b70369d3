-- `after_fuse` meets its contract: the library's bytes are the long word's.
use Rattle.std.proofs.Common.{ap, ◌∙◌}
use Rattle.crc32.specs.Crc32.{after}
use Rattle.checkpoint.proofs.Bytes.{long_is}
use Rattle.replay.proofs.after_fuse.Goals as goal

pub returns : goal.returns
returns c = c.update.ensures ∙ ap (after c.args.state) (c.to_le_bytes.ensures ∙ long_is c.args.fuse)

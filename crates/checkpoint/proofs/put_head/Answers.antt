-- `put_head` meets its contract: each field is laid in right behind the one before it.
use Rattle.checkpoint.proofs.Encoded.{six_fields}
use Rattle.checkpoint.proofs.put_head.Goals as goal

pub returns : goal.returns
returns c = cc (six_fields c.args.geo c.args.alloc c.args.d.now)

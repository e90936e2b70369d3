-- `crc32::update` meets its contract: nothing follows s.
use Rattle.std.proofs.Common.{arith, ◌∙◌}
use Rattle.crc32.specs.Crc32.{after}
use Rattle.crc32.proofs.Laws.{after_nil, after_lt}
use Rattle.crc32.proofs.update.Goals as goal

pub returns : goal.returns
returns c =
    c.after_both.ensures ∙ after_nil (after c.args.state c.args.s.now) (after_lt c.args.state c.args.s.now (omega arith))

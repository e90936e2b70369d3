-- `device::FlashMut::erase` meets its contract. Assumes nothing.
use Rattle.std.proofs.Common.{arith}
use Rattle.device.proofs.Laws.{erase_worn, erase_out, erase_done}
use Rattle.device.proofs.FlashMut.erase.Goals.{then-counts-g-via-then-counts-g, then-counts-g-via-else-counts-g+then-self-eq0}
use Rattle.device.proofs.FlashMut.erase.Goals as goal

pub returns-then-counts-g-clause-tried : goal.returns-then-counts-g-clause-tried
returns-then-counts-g-clause-tried c =
    elim c.then-counts-g.branch [
      | then-counts-g-via-then-counts-g w ↦ erase_worn _ _ _ (omega arith)
      | then-counts-g-via-else-counts-g+then-self-eq0 w ↦ erase_out _ _ _ w.if-counts-g.false w.if-self-eq0.true
    ]

pub returns-clause-tried : goal.returns-clause-tried
returns-clause-tried c = erase_done _ _ _ c.if-counts-g.false c.if-self-eq0.false (c.blank_segment.ensures.blank c.args.counts.now _)

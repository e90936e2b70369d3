-- `device::FlashMut::format` meets its contract. Assumes nothing.
use Rattle.std.proofs.Common.{arith, rules}
use Rattle.device.proofs.Formatting.{goes_on, stops, ends}
use Rattle.device.proofs.FlashMut.format.Goals as goal

pub returns-then-self-eq0-clause-formatted : goal.returns-then-self-eq0-clause-formatted
returns-then-self-eq0-clause-formatted c = stops c.loop-g.invariant.left c.if-self-eq0.true

pub loop-g-preserved : goal.loop-g-preserved
loop-g-preserved c =
    let s = c.loop-g.invariant.same in
    let b = c.blank_segment.ensures.blank c.loop-g.counts 0 in
    record {
      same = search rules;
      left = goes_on c.loop-g.invariant.left c.loop-g-test.true (omega arith) (rw s.geo at b);
    }

pub returns-clause-formatted : goal.returns-clause-formatted
returns-clause-formatted c = ends c.loop-g.invariant.left (omega arith)

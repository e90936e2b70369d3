-- `mark_used` meets its contract: the marks of the segments passed are laid in.
use Rattle.std.proofs.Common.{arith}
use Rattle.checkpoint.proofs.Marking.{mark_none, mark_more, mark_end}
use Rattle.checkpoint.proofs.mark_used.Goals as goal

pub loop-g-init : goal.loop-g-init
loop-g-init c = mark_none c.args.p c.args.free.now c.args.used.now

pub loop-g-preserved : goal.loop-g-preserved
loop-g-preserved c =
    mark_more c.args.p c.args.free.now c.args.used.now c.requires.1 c.requires.0 c.loop-g.g c.loop-g.used c.loop-g.invariant c.loop-g-test.true
    (c.fill.ensures.after (λ y h. h))
    (c.fill-in-loop-g.ensures.after (λ y h. h))

pub returns : goal.returns
returns c =
    mark_end c.args.p c.args.free.now c.args.used.now c.requires.1 c.requires.0 c.loop-g.g c.loop-g.used c.loop-g.invariant (omega arith)

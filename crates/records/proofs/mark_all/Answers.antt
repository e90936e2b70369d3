-- Marking from the start ends as marking from here: a turn marks one number, and none that has no mark.
use Rattle.std.proofs.Common.{◌≡◌, ◌-◌, ◌+◌, arith}
use Rattle.records.proofs.Laws.{marking_more}
use Rattle.records.proofs.mark_all.Goals as goal

pub loop-preserved : goal.loop-preserved
loop-preserved c =
    let left : c.args.count - c.loop.counter - 1 ≡ c.args.count - (c.loop.counter + 1) = omega arith in
    grind (arith, marking_more)

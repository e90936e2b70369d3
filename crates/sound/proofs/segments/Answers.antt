-- The segment tested is right, and the marks are as they came.
use Rattle.std.proofs.Common.{◌∙◌, below_more}
use Rattle.sound.proofs.segments.Goals as goal

pub loop-g-preserved : goal.loop-g-preserved
loop-g-preserved c =
    record {
      kept = c.segment.ensures.seen_unchanged ∙ c.loop-g.invariant.kept;
      each = below_more _ c.loop-g.g c.loop-g.invariant.each c.if-not-segment.ensures.says;
    }

-- `after_words` meets its contract: each slice of words is taken in after those before it, and none is left at the end.
use Rattle.std.proofs.Common.{◌∙◌, arith}
use Rattle.replay.proofs.Joined.{no_words, next_words}
use Rattle.replay.proofs.after_words.Goals as goal

pub loop-part-preserved : goal.loop-part-preserved
loop-part-preserved c =
    let steps = c.in-Some.ensures.steps in
    let before = c.loop-part.invariant in
    record {
      size = steps.0 ∙ before.size;
      fits = omega arith;
      left = next_words c.loop-part.crc _ _ _ before.fits steps.1.0 c.after_part-crc.ensures ∙ before.left;
    }

pub returns : goal.returns
returns c = no_words c.loop-part.crc _ c.loop-part.invariant.fits c.in-None.ensures.steps.1.0 ∙ c.loop-part.invariant.left

-- The parts that are tested are those of the tables, and a segment is right where its counts, its marks and its slots are.
use Rattle.model.proofs.View.{used_is}
use Rattle.sound.proofs.Says.{says_iff, says_not}
use Rattle.sound.proofs.segment.Goals as goal

pub returns-then-marks-clause-says : goal.returns-then-marks-clause-says
returns-then-marks-clause-says c =
    let w = c.args.tables.now in
    rw (
      ← c.free.ensures.part,
      ← c.valid.ensures.part,
      ← c.lens.ensures.part,
      ← c.flags.ensures.part,
      ← c.lists.ensures.part,
      ← c.map.ensures.part,
      used_is w.geo w.tab.now w.used.now,
      ← c.span.ensures,
      ← c.part.ensures,
      ← c.part-then-marks.ensures,
    )
    (says_iff c.slots.result (λ x. record { numbers = c.if-not-right.ensures; marks = c.if-marks.ensures; slots = x }) (λ r. r.slots) c.slots.ensures.says)

pub returns-else-marks-clause-says : goal.returns-else-marks-clause-says
returns-else-marks-clause-says c =
    let w = c.args.tables.now in
    says_not _ c.if-marks.false
    (λ r. c.if-marks.ensures (rw (← c.free.ensures.part, used_is w.geo w.tab.now w.used.now, ← c.part.ensures) at r).marks)

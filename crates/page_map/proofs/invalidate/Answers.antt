-- The two tests are the definition's `due`: `invalidate-due`, `invalidate_flagged`, `invalidate_open`; and a due segment has room: `due_room`.
use Rattle.std.proofs.Common.{ap, ◌∙◌}
use Rattle.model.specs.Tables.{set_used}
use Rattle.tables.specs.Parts.{tables_of}
use Rattle.page_map.proofs.Drop.{counted_aside, seg, due_room, invalidate-due, invalidate_flagged, invalidate_open, invalidate_aside}
use Rattle.page_map.proofs.invalidate.Goals as goal
use Rattle.page_map.proofs.invalidate.Goals.{else-t-g-eq0-via-then-t-g-eq0+else-t-g-eq0-2, else-t-g-eq0-via-else-t-g-eq0}

pub enqueue-requires : goal.enqueue-requires
enqueue-requires c =
    let t = c.args.t.now in
    let m = c.requires.mapped in
    let C = counted_aside t c.requires.sound in
    let room =
    due_room t.geo (tables_of t) c.args.l.0 c.args.g _ c.unlink.ensures.unlinked C m.0 m.1 c.if-t-g-eq0.true c.if-t-g-eq0-2.true in
    record { room = rw c.unlink.ensures.same.geo (seg C c.args.l.0 c.args.g m.0 m.1, room) }

pub returns-then-t-g-eq0-2-clause-invalidated : goal.returns-then-t-g-eq0-2-clause-invalidated
returns-then-t-g-eq0-2-clause-invalidated c =
    let t = c.args.t.now in
    c.enqueue.ensures.queued
    ∙ invalidate-due t.geo (tables_of t) c.args.l.0 c.args.g _ c.unlink.ensures.unlinked c.if-t-g-eq0.true c.if-t-g-eq0-2.true

pub returns-else-t-g-eq0-clause-invalidated : goal.returns-else-t-g-eq0-clause-invalidated
returns-else-t-g-eq0-clause-invalidated c =
    let t = c.args.t.now in
    let is = c.unlink.ensures.unlinked in
    elim c.else-t-g-eq0.branch [
      | else-t-g-eq0-via-then-t-g-eq0+else-t-g-eq0-2 w ↦
          invalidate_flagged t.geo (tables_of t) c.args.l.0 c.args.g _ is w.if-t-g-eq0.true w.if-t-g-eq0-2.false
      | else-t-g-eq0-via-else-t-g-eq0 w ↦ invalidate_open t.geo (tables_of t) c.args.l.0 c.args.g _ is w.if-t-g-eq0.false
    ]

pub returns-then-t-g-eq0-2-clause-any_marks : goal.returns-then-t-g-eq0-2-clause-any_marks
returns-then-t-g-eq0-2-clause-any_marks c = λ u.
    let t = c.args.t.now in
    ap (set_used u) (returns-then-t-g-eq0-2-clause-invalidated c) ∙ invalidate_aside t.geo c.args.l.0 u (tables_of t) c.args.g

pub returns-else-t-g-eq0-clause-any_marks : goal.returns-else-t-g-eq0-clause-any_marks
returns-else-t-g-eq0-clause-any_marks c = λ u.
    let t = c.args.t.now in
    ap (set_used u) (returns-else-t-g-eq0-clause-invalidated c) ∙ invalidate_aside t.geo c.args.l.0 u (tables_of t) c.args.g

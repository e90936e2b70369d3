-- Each turn is the definition's: `walk_queued`, `walk_passed`; and at the end nothing is left: `walk_end`.
use Rattle.std.proofs.Common.{sym, ap, ◌∙◌, arith, rules}
use Rattle.model.specs.Tables.{set_used}
use Rattle.tables.specs.Parts.{tables_of}
use Rattle.requeue.proofs.Laws.{walk_queued, walk_passed, walk_end, queue_aside}
use Rattle.requeue.proofs.queue_all.Goals as goal
use Rattle.requeue.proofs.queue_all.Goals.{then-is_dead, else-is_dead}

pub loop-g-preserved : goal.loop-g-preserved
loop-g-preserved c =
    let G = c.args.t.now.geo in
    let start = tables_of c.args.t.now in
    let g = c.loop-g.g in
    let t = tables_of c.loop-g.t in
    let W = c.loop-g.invariant.walked in
    let geo = c.loop-g.invariant.same.geo in
    elim c.if-is_dead.branch [
      | then-is_dead w ↦
          let dead = rw geo at (sym c.is_dead.ensures ∙ w.if-is_dead.true) in
          rw w.t-is record { same = search rules; walked = rw w.queue_last.ensures.queued (walk_queued G start g t W c.loop-g-test.true dead) }
      | else-is_dead w ↦
          let live = rw geo at (sym c.is_dead.ensures ∙ w.if-is_dead.false) in
          rw w.t-is record { same = c.loop-g.invariant.same; walked = walk_passed G start g t W c.loop-g-test.true live }
    ]

pub returns-clause-queued : goal.returns-clause-queued
returns-clause-queued c =
    walk_end c.args.t.now.geo (tables_of c.args.t.now) c.loop-g.g (tables_of c.loop-g.t) c.loop-g.invariant.walked (omega arith)

pub returns-clause-any_marks : goal.returns-clause-any_marks
returns-clause-any_marks c = λ u.
    let G = c.args.t.now.geo in
    ap (set_used u) (returns-clause-queued c) ∙ queue_aside G u G.n 0 (tables_of c.args.t.now)

-- One law for each way on: `walk_bad`, `walk_full`, `walk_here`, `walk_end`.
use Rattle.std.proofs.Common.{ℕ, ◌+◌, ◌-◌, ◌%◌, List, Some, sym, ap₂, ◌∙◌, arith}
use Rattle.model.specs.Tables.{at}
use Rattle.model.specs.PageMap.{spot}
use Rattle.page_map.proofs.Walk.{find_is, walk_bad, walk_full, walk_here, walk_end}
use Rattle.page_map.proofs.find_page.Goals as goal
use Rattle.page_map.proofs.find_page.Goals.{else-bad-segment-eq0-via-then-bad-segment-eq0+else-free-ne0, else-bad-segment-eq0-via-else-bad-segment-eq0}

pub loop-i-init : goal.loop-i-init
loop-i-init c = λ t h. find_is _ _ _

pub loop-i-preserved : goal.loop-i-preserved
loop-i-preserved c = λ t h.
    let G = c.args.geo in
    let bad = c.args.bad.now in
    let i = c.loop-i.i in
    c.loop-i.invariant t h
    ∙ elim c.else-bad-segment-eq0.branch [
      | else-bad-segment-eq0-via-then-bad-segment-eq0+else-free-ne0 w ↦
          walk_full G bad t i c.loop-i-test.true (rw h.alloc_is w.if-bad-segment-eq0.true) (rw (h.free_is, h.alloc_is) w.if-free-ne0.false)
      | else-bad-segment-eq0-via-else-bad-segment-eq0 w ↦ walk_bad G bad t i c.loop-i-test.true (rw h.alloc_is w.if-bad-segment-eq0.false)
    ]

pub returns-after-loop-i : goal.returns-after-loop-i
returns-after-loop-i c = λ t S h.
    sym (c.loop-i.invariant t h ∙ walk_end c.args.geo c.args.bad.now t c.loop-i.i (omega arith))

pub returns-then-free-ne0 : goal.returns-then-free-ne0
returns-then-free-ne0 c = λ t S h.
    let G = c.args.geo in
    let i = c.loop-i.i in
    let found =
    walk_here G c.args.bad.now t i c.loop-i-test.true S (rw h.alloc_is c.if-bad-segment-eq0.true) (rw (h.free_is, h.alloc_is) c.if-free-ne0.true) in
    sym
    (c.loop-i.invariant t h
    ∙ found
    ∙ ap₂ (λ (f : List ℕ) (a : ℕ). Some (spot ((a + i) % G.n) (G.p - at f ((a + i) % G.n)))) h.free_is h.alloc_is)

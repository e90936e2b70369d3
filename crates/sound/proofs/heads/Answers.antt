-- Each test that fails is one that right tables pass, and with all of them passed the tables are right.
use Rattle.std.proofs.Common.{ap, sym, ◌∙◌, ◌-◌, length, arith}
use Rattle.model.specs.Tables.{at, region}
use Rattle.sound.proofs.Says.{says_iff, says_not}
use Rattle.sound.proofs.Counts.{every_says, part_each, each_part}
use Rattle.sound.proofs.heads.Goals as goal

pub returns-then-every-clause-says : goal.returns-then-every-clause-says
returns-then-every-clause-says c =
    let k = c.queued-count.result in
    let q = c.queue-queue.result.now in
    let count = c.queued-count.ensures in
    let queue = c.queue-queue.ensures.part in
    let zero = every_says 0 (region k (length q - k) q) _ c.if-every.ensures in
    says_iff c.queued.result
    (λ x.
    record {
      alloc = omega (arith, c.alloc.ensures);
      fits = omega (arith, count);
      behind = λ i b l. ap (λ y. at y i) (sym queue) ∙ part_each 0 q k (length q - k) (omega arith) zero i (omega (arith, count)) (omega arith);
      queue = x;
    })
    (λ h. h.queue)
    (rw (queue, count, c.free.ensures.part, c.flags.ensures.part) at c.queued.ensures.says)

pub returns-else-every-clause-says : goal.returns-else-every-clause-says
returns-else-every-clause-says c =
    let k = c.queued-count.result in
    let q = c.queue-queue.result.now in
    let count = c.queued-count.ensures in
    says_not _ c.if-every.false
    (λ h.
    every_says 0 (region k (length q - k) q) _ c.if-every.ensures
    (each_part 0 q k (length q - k) (omega arith)
    (λ i a l. ap (λ y. at y i) c.queue-queue.ensures.part ∙ h.behind i (omega (arith, count)) (omega arith))))

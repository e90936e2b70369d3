-- `collect` with scratch of its own meets its contract.
use Rattle.std.proofs.Common.{arith, []}
use Rattle.model.specs.Entry.{lent, collection}
use Rattle.lending.specs.Unit.{recorder_of}
use Rattle.lending.proofs.Laws.{cut, does, three}
use Rattle.lending.proofs.UnitMut.collect.Goals as goal

pub returns-clause-done : goal.returns-clause-done
returns-clause-done c =
    let a = c.args in
    does (λ s. collection a.self.now.geo a.bad.now (lent (recorder_of a.self.now) [] s))
    c.collect.ensures.answered (three (cut 512 (omega arith) (omega arith)) (cut 2048 (omega arith) (omega arith)) (cut 1024 (omega arith) (omega arith)))

-- `write` with scratch of its own meets its contract.
use Rattle.std.proofs.Common.{arith, [], length}
use Rattle.model.specs.Entry.{lent, write}
use Rattle.lending.specs.Unit.{recorder_of}
use Rattle.lending.proofs.Laws.{cut, does, two}
use Rattle.lending.proofs.UnitMut.write.Goals as goal

pub returns-clause-done : goal.returns-clause-done
returns-clause-done c =
    let a = c.args in
    does (λ s. write a.self.now.geo a.bad.now a.sector (length a.xs.now) a.xs.now (lent (recorder_of a.self.now) [] s))
    c.write.ensures.answered (two (cut 512 (omega arith) (omega arith)) (cut 2048 (omega arith) (omega arith)))

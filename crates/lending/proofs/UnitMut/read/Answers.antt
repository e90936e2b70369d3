-- `read` with scratch of its own meets its contract. The rest of the flash is passed by.
use Rattle.std.proofs.Common.{arith, [], ◌∷◌}
use Rattle.model.specs.Lists.{zeros}
use Rattle.model.specs.Device.{flash}
use Rattle.model.specs.Entry.{recorder, lent, seen_scratch, read}
use Rattle.model.proofs.Frame.{read_alone}
use Rattle.lending.proofs.Laws.{cut, does, one, beside}
use Rattle.lending.proofs.UnitMut.read.Goals as goal

pub returns-clause-done : goal.returns-clause-done
returns-clause-done c =
    let a = c.args in
    let u = a.self.now in
    let f = flash u.bytes.now u.marks.now u.counts.now u.fuse.now in
    beside f (read_alone a.self.now.geo f a.sector a.len u.tab.now u.used.now a.out.now (zeros (seen_scratch a.self.now.geo) ∷ []))
    (does (λ s. read a.self.now.geo a.sector a.len (lent (recorder u.tab.now u.used.now (flash u.bytes.now [] [] 0)) a.out.now s))
    c.read.ensures.answered (one (cut 2048 (omega arith) (omega arith))))

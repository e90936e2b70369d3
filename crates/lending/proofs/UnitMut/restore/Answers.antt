-- `restore` with scratch of its own meets its contract. The flash is passed by.
use Rattle.std.proofs.Common.{arith, [], ◌∷◌}
use Rattle.model.specs.Lists.{zeros}
use Rattle.model.specs.Tables.{pages}
use Rattle.model.specs.Device.{flash}
use Rattle.model.specs.Entry.{recorder, lent, no_flash, restoring}
use Rattle.model.proofs.Frame.{restoring_alone}
use Rattle.lending.proofs.Laws.{cut, does, one, beside}
use Rattle.lending.proofs.UnitMut.restore.Goals as goal

pub returns-clause-done : goal.returns-clause-done
returns-clause-done c =
    let a = c.args in
    let u = a.self.now in
    let f = flash u.bytes.now u.marks.now u.counts.now u.fuse.now in
    beside f (restoring_alone a.self.now.geo f a.queueing a.file.now (lent (recorder u.tab.now u.used.now no_flash) [] (zeros (pages a.self.now.geo) ∷ [])))
    (does (λ s. restoring a.self.now.geo a.queueing a.file.now (lent (recorder u.tab.now u.used.now no_flash) [] s))
    c.restore.ensures.answered (one (cut 1024 (omega arith) (omega arith))))

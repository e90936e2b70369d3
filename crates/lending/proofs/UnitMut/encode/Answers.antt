-- `encode` with scratch of its own meets its contract. The flash is passed by.
use Rattle.std.proofs.Common.{arith, [], ◌∷◌}
use Rattle.model.specs.Lists.{zeros}
use Rattle.model.specs.Device.{flash}
use Rattle.model.specs.Entry.{recorder, lent, no_flash, seen_scratch, encoding}
use Rattle.model.proofs.Frame.{encoding_alone}
use Rattle.lending.proofs.Laws.{cut, does, one, beside}
use Rattle.lending.proofs.UnitMut.encode.Goals as goal

pub returns-clause-done : goal.returns-clause-done
returns-clause-done c =
    let a = c.args in
    let u = a.self.now in
    let f = flash u.bytes.now u.marks.now u.counts.now u.fuse.now in
    beside f (encoding_alone a.self.now.geo f (lent (recorder u.tab.now u.used.now no_flash) a.buffer.now (zeros (seen_scratch a.self.now.geo) ∷ [])))
    (does (λ s. encoding a.self.now.geo (lent (recorder u.tab.now u.used.now no_flash) a.buffer.now s))
    c.encode.ensures.answered (one (cut 2048 (omega arith) (omega arith))))

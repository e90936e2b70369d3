-- `device::FlashMut::program` meets its contract. Assumes nothing.
use Rattle.std.proofs.Common.{sym, ap₂, ◌+◌, ◌*◌, set}
use Rattle.model.specs.Device.{flash}
use Rattle.device.proofs.Laws.{page_laid, program_marked, program_out, program_done}
use Rattle.device.proofs.FlashMut.program.Goals.{then-not-clear_up-via-then-not-clear_up, then-not-clear_up-via-else-not-clear_up+then-self-eq0}
use Rattle.device.proofs.FlashMut.program.Goals as goal

pub returns-then-not-clear_up-clause-tried : goal.returns-then-not-clear_up-clause-tried
returns-then-not-clear_up-clause-tried c = λ counts.
    elim c.then-not-clear_up.branch [
      | then-not-clear_up-via-then-not-clear_up w ↦ program_marked _ _ _ _ (sym (w.if-not-clear_up.ensures counts))
      | then-not-clear_up-via-else-not-clear_up+then-self-eq0 w ↦
          program_out _ _ _ _ (sym (w.if-not-clear_up.ensures counts)) w.if-self-eq0.true
    ]

pub returns-clause-tried : goal.returns-clause-tried
returns-clause-tried c = λ counts.
    let a = c.args in
    let f = c.args.self.now in
    program_done _ _ _ _ (sym (c.if-not-clear_up.ensures counts)) c.if-self-eq0.false
    (ap₂ (λ b x. flash b (set f.marks.now (a.at.segment * f.geo.p + a.at.page) 1) counts x)
    (page_laid f.geo _ _ f.bytes.now c.copy_from_slice.ensures.after)
    c.burn.ensures)

-- `format` meets its contract, by the laws of formatting.
use Rattle.std.proofs.Common.{[], rules, subst}
use Rattle.model.specs.Numbers.{Ok}
use Rattle.model.specs.Device.{Flash, flash}
use Rattle.model.specs.Entry.{Answered, lent, recorder, formatting}
use Rattle.model.proofs.Guard.{good_test, flash_test}
use Rattle.guard.proofs.Rows.{told}
use Rattle.ftl.proofs.Opening.{formatting_wrong, formatting_size, formatting-done}
use Rattle.ftl.proofs.format.Goals.{then-not-good-via-then-not-good, then-not-good-via-else-not-good+then-not-flash_fits}
use Rattle.ftl.proofs.format.Goals as goal

pub returns-then-not-good-clause-answered : goal.returns-then-not-good-clause-answered
returns-then-not-good-clause-answered c =
    elim c.then-not-good.branch [
      | then-not-good-via-then-not-good w ↦ formatting_wrong _ _ (told c.good.ensures w.if-not-good.true)
      | then-not-good-via-else-not-good+then-not-flash_fits w ↦ formatting_size _ _ (told w.flash_fits.ensures w.if-not-flash_fits.true)
    ]

pub flash_fits-requires : goal.flash_fits-requires
flash_fits-requires c = good_test _ (told c.good.ensures c.if-not-good.false)

pub invariant_of-flash : goal.invariant_of-flash
invariant_of-flash c =
    let a = c.args in
    let F = flash_test a.geo (flash a.bytes.now a.marks.now a.counts.now a.fuse.now) (told c.flash_fits.ensures c.if-not-flash_fits.false) in
    record { good = good_test _ (told c.good.ensures c.if-not-good.false); bytes_len = F.bytes; marks_len = F.marks }

pub returns-clause-answered : goal.returns-clause-answered
returns-clause-answered c =
    let done =
    formatting-done _ _ (told c.good.ensures c.if-not-good.false) (told c.flash_fits.ensures c.if-not-flash_fits.false) _ (c.format.ensures.formatted _) in
    subst (λ (f : Flash). Answered (formatting c.args.geo (lent (recorder [] [] (flash c.args.bytes.now c.args.marks.now c.args.counts.now c.args.fuse.now)) [] [])) (lent (recorder [] [] f) [] []) (Ok 0)) (search rules) done

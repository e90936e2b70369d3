-- `restore` meets its contract: each test and reason that refuses, then the tables of the file, and their queue.
use Rattle.std.proofs.Common.{[], sym, rules, ◌∙◌, arith}
use Rattle.std.proofs.lemmas.Result.{err_from_is_err_and}
use Rattle.model.specs.Entry.{lent, recorder, no_flash}
use Rattle.model.proofs.Guard.{each, good_test, tables_test}
use Rattle.model.proofs.Sealed.{reason_most}
use Rattle.guard.proofs.Rows.{told}
use Rattle.ftl.proofs.Files.{restoring_wrong, restoring_size, restoring_reason, restoring-done, file_refused, file_taken}
use Rattle.ftl.proofs.Guards.{clean_is, handed_back}
use Rattle.ftl.proofs.restore.Goals.{then-not-good-via-then-not-good, then-not-good-via-else-not-good+then-not-restore_fits}
use Rattle.ftl.proofs.restore.Goals as goal

pub returns-then-not-good-clause-answered : goal.returns-then-not-good-clause-answered
returns-then-not-good-clause-answered c =
    elim c.then-not-good.branch [
      | then-not-good-via-then-not-good w ↦ restoring_wrong _ _ _ _ (told c.good.ensures w.if-not-good.true)
      | then-not-good-via-else-not-good+then-not-restore_fits w ↦ restoring_size _ _ _ _ (told w.restore_fits.ensures w.if-not-restore_fits.true)
    ]

pub restore_fits-requires : goal.restore_fits-requires
restore_fits-requires c = good_test _ (told c.good.ensures c.if-not-good.false)

pub check-requires : goal.check-requires
check-requires c = good_test _ (told c.good.ensures c.if-not-good.false)

pub returns-in_err-check-clause-answered : goal.returns-in_err-check-clause-answered
returns-in_err-check-clause-answered c =
    let a = c.args in
    let g = told c.good.ensures c.if-not-good.false in
    let e = told c.restore_fits.ensures c.if-not-restore_fits.false in
    let r = file_refused _ _ (sym c.in_err-check.ensures) in
    let p = err_from_is_err_and c.from_residual.result c.from_residual.ensures.1 in
    rw (p.1, p.2, ← r.1) (restoring_reason _ _ _ _ g e r.0)

pub returns-in_err-check-clause-countable : goal.returns-in_err-check-clause-countable
returns-in_err-check-clause-countable c =
    let r = file_refused _ _ (sym c.in_err-check.ensures) in
    let p = err_from_is_err_and c.from_residual.result c.from_residual.ensures.1 in
    rw (p.1, p.2, ← r.1) (omega (arith, reason_most c.args.geo c.args.file.now))

pub on_packed-requires-clause-good : goal.on_packed-requires-clause-good
on_packed-requires-clause-good c = good_test _ (told c.good.ensures c.if-not-good.false)

pub on_packed-requires-clause-tab_len : goal.on_packed-requires-clause-tab_len
on_packed-requires-clause-tab_len c =
    let a = c.args in
    let e = told c.restore_fits.ensures c.if-not-restore_fits.false in
    tables_test a.geo (lent (recorder a.tab.now a.used.now no_flash) [] []) (each _ e 0)

pub on_packed-requires-clause-may : goal.on_packed-requires-clause-may
on_packed-requires-clause-may c =
    let e = told c.restore_fits.ensures c.if-not-restore_fits.false in
    record { taken = clean_is _ c.args.taken.now (each _ e 1); passes = file_taken _ (sym c.in_ok-check.ensures) }

pub returns-clause-answered : goal.returns-clause-answered
returns-clause-answered c =
    let a = c.args in
    let g = told c.good.ensures c.if-not-good.false in
    let e = told c.restore_fits.ensures c.if-not-restore_fits.false in
    let t = tables_test a.geo (lent (recorder a.tab.now a.used.now no_flash) [] []) (each _ e 0) in
    rw c.on_packed.ensures.answer
    (restoring-done _ _ _ _ g e (file_taken _ (sym c.in_ok-check.ensures)) _ _ _
    (c.on_packed.auto.tab ∙ t.0)
    c.on_packed.ensures.left
    (handed_back _ _ _ (each _ e 1) (search rules)))

pub returns-clause-countable : goal.returns-clause-countable
returns-clause-countable c = rw c.on_packed.ensures.answer (omega arith)

-- `open` meets its contract, by the laws of opening.
use Rattle.std.proofs.Common.{◌≡◌, ◌∙◌, [], true, arith}
use Rattle.model.specs.Entry.{lent, recorder, no_flash, tables_fit}
use Rattle.model.proofs.Guard.{good_test, tables_test}
use Rattle.guard.proofs.Rows.{told}
use Rattle.ftl.proofs.Opening.{opening_wrong, opening_size, opening-done}
use Rattle.ftl.proofs.open.Goals.{then-not-good-via-then-not-good, then-not-good-via-else-not-good+then-not-tables_fit}
use Rattle.ftl.proofs.open.Goals as goal

pub returns-then-not-good-clause-answered : goal.returns-then-not-good-clause-answered
returns-then-not-good-clause-answered c =
    elim c.then-not-good.branch [
      | then-not-good-via-then-not-good w ↦ opening_wrong _ _ (told c.good.ensures w.if-not-good.true)
      | then-not-good-via-else-not-good+then-not-tables_fit w ↦ opening_size _ _ (told w.tables_fit.ensures w.if-not-tables_fit.true)
    ]

pub tables_fit-requires : goal.tables_fit-requires
tables_fit-requires c = good_test _ (told c.good.ensures c.if-not-good.false)

pub on_packed-requires-clause-good : goal.on_packed-requires-clause-good
on_packed-requires-clause-good c = good_test _ (told c.good.ensures c.if-not-good.false)

pub on_packed-requires-clause-tab_len : goal.on_packed-requires-clause-tab_len
on_packed-requires-clause-tab_len c =
    let x = lent (recorder c.args.tab.now c.args.used.now no_flash) [] [] in
    tables_test c.args.geo x (told c.tables_fit.ensures c.if-not-tables_fit.false)

pub returns-clause-answered : goal.returns-clause-answered
returns-clause-answered c =
    let x = lent (recorder c.args.tab.now c.args.used.now no_flash) [] [] in
    let f : tables_fit c.args.geo x ≡ true = told c.tables_fit.ensures c.if-not-tables_fit.false in
    rw c.on_packed.ensures.answer
    (opening-done _ x (told c.good.ensures c.if-not-good.false) f _ _ (c.on_packed.auto.tab ∙ (tables_test c.args.geo x f).0) c.on_packed.ensures.left)

pub returns-clause-countable : goal.returns-clause-countable
returns-clause-countable c = rw c.on_packed.ensures.answer (omega arith)

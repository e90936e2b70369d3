-- `write_page` meets its contract, by the laws of a page write: nothing found, the page spent, the page stored.
use Rattle.std.proofs.Common.{sym, ◌∙◌}
use Rattle.std.proofs.lemmas.Result.{err_from_is_err_and}
use Rattle.model.specs.Device.{state}
use Rattle.tables.specs.Parts.{tables_of}
use Rattle.tables.proofs.Parts.{marks_aside}
use Rattle.device.specs.Lent.{flash_of}
use Rattle.page_write.proofs.Laws.{within, spent_marks, spent_sound, spent_gap, wrote_none, wrote_spent, wrote_stored}
use Rattle.page_write.proofs.write_page.Goals as goal

pub returns-in_err-at-clause-done : goal.returns-in_err-at-clause-done
returns-in_err-at-clause-done c = λ counts.
    let a = c.args in
    let p = err_from_is_err_and c.from_residual.result c.from_residual.ensures.1 in
    let n = rw c.found.ensures at c.in_err-at.ensures.value in
    rw (p.1, p.2) (wrote_none a.t.now.geo a.bad.now a.l.0 a.off a.xs.now (state (tables_of a.t.now) (flash_of a.f.now counts)) n)

pub spend-requires-clause-in_bounds : goal.spend-requires-clause-in_bounds
spend-requires-clause-in_bounds c =
    within c.args.t.now c.requires.marks c.requires.sound c.args.bad.now c.in_ok-at.at (sym c.found.ensures ∙ c.in_ok-at.ensures.ok_part)

pub program-done-requires-clause-in_bounds : goal.program-done-requires-clause-in_bounds
program-done-requires-clause-in_bounds c =
    let w = within c.args.t.now c.requires.marks c.requires.sound c.args.bad.now c.in_ok-at.at (sym c.found.ensures ∙ c.in_ok-at.ensures.ok_part) in
    rw c.requires.one_geometry (w.0, w.1)

pub returns-in_err-done-clause-done : goal.returns-in_err-done-clause-done
returns-in_err-done-clause-done c = λ counts.
    let a = c.args in
    let st = state (tables_of a.t.now) (flash_of a.f.now counts) in
    let p = err_from_is_err_and c.from_residual-in_err-done.result c.from_residual-in_err-done.ensures.1 in
    let w = wrote_spent a.t.now.geo a.bad.now a.l.0 a.off a.xs.now st c.in_ok-at.at c.build_page.new.page
    (sym c.found.ensures ∙ c.in_ok-at.ensures.ok_part) (c.build_page.ensures counts) (flash_of c.program-done.new.self counts)
    c.spend.ensures.spent (rw c.requires.one_geometry at (c.in_err-done.ensures.tried counts)) in
    rw (p.1, p.2) w

pub remap-requires-clause-sound : goal.remap-requires-clause-sound
remap-requires-clause-sound c =
    marks_aside c.spend.new.t
    (spent_marks c.args.t.now c.requires.marks c.requires.sound c.args.bad.now c.in_ok-at.at (sym c.found.ensures ∙ c.in_ok-at.ensures.ok_part)
    c.spend.new.t c.spend.ensures.same c.spend.ensures.spent)
    (spent_sound c.args.t.now c.requires.marks c.requires.sound c.args.bad.now c.in_ok-at.at (sym c.found.ensures ∙ c.in_ok-at.ensures.ok_part)
    c.spend.new.t c.spend.ensures.same c.spend.ensures.spent)

pub remap-requires-clause-in_bounds : goal.remap-requires-clause-in_bounds
remap-requires-clause-in_bounds c =
    let w = within c.args.t.now c.requires.marks c.requires.sound c.args.bad.now c.in_ok-at.at (sym c.found.ensures ∙ c.in_ok-at.ensures.ok_part) in
    rw c.spend.ensures.same.geo (c.requires.in_page.0, w.0, w.1)

pub remap-requires-clause-room : goal.remap-requires-clause-room
remap-requires-clause-room c =
    spent_gap c.args.t.now c.requires.marks c.requires.sound c.args.bad.now c.in_ok-at.at (sym c.found.ensures ∙ c.in_ok-at.ensures.ok_part)
    c.spend.new.t c.spend.ensures.same c.spend.ensures.spent

pub returns-clause-done : goal.returns-clause-done
returns-clause-done c = λ counts.
    let a = c.args in
    let st = state (tables_of a.t.now) (flash_of a.f.now counts) in
    wrote_stored a.t.now.geo a.bad.now a.l.0 a.off a.xs.now st c.in_ok-at.at c.build_page.new.page
    (sym c.found.ensures ∙ c.in_ok-at.ensures.ok_part) (c.build_page.ensures counts) (flash_of c.program-done.new.self counts)
    c.spend.ensures.spent (rw c.spend.ensures.same.geo at c.remap.ensures.remapped)
    (rw c.requires.one_geometry at (c.in_ok-done.ensures.tried counts))

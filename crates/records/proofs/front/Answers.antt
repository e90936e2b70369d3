-- `front` meets its contract: it is what a row of seven numbers makes of it.
use Rattle.std.proofs.Common.{sym, ap, ◌∙◌}
use Rattle.records.proofs.Fronts.{laid, front_row}
use Rattle.records.proofs.front.Goals as goal

pub returns-in_err-n : goal.returns-in_err-n
returns-in_err-n c = c.from_residual.ensures ∙ ap laid (sym c.in_err-n.was ∙ c.row.ensures) ∙ front_row c.args.xs.now

pub returns : goal.returns
returns c =
    let geo = c.of-geo.ensures in
    let seven = ap laid (sym c.in_ok-n.was ∙ c.row.ensures) ∙ front_row c.args.xs.now in
    rw geo seven

-- By the map's word: `forget_none`, `forget_some`.
use Rattle.std.proofs.Common.{sym, ap, ◌∙◌}
use borrow.Author.Tests.{eqb-true, eqb-false}
use Rattle.model.specs.declared.Spot.{Spot}
use Rattle.model.specs.Tables.{set_used}
use Rattle.tables.specs.Parts.{tables_of}
use Rattle.page_map.proofs.Drop.{map-word, forget_none, forget_some, forget_aside}
use Rattle.page_map.proofs.forget.Goals as goal

pub returns-then-is_empty-clause-forgotten : goal.returns-then-is_empty-clause-forgotten
returns-then-is_empty-clause-forgotten c =
    let t = c.args.t.now in
    let l = c.args.l.0 in
    let none = eqb-true _ _ (sym c.is_empty.ensures ∙ c.if-is_empty.true) in
    forget_none t.geo (tables_of t) l _ (map-word t l c.requires.l_lt_e) none

pub returns-clause-forgotten : goal.returns-clause-forgotten
returns-clause-forgotten c =
    let t = c.args.t.now in
    let l = c.args.l.0 in
    let some = eqb-false _ _ (sym c.is_empty.ensures ∙ c.if-is_empty.false) in
    let g = ap (λ (s : Spot). s.segment) c.spot_of-g.ensures in
    c.invalidate.ensures.invalidated ∙ forget_some t.geo (tables_of t) l _ (map-word t l c.requires.l_lt_e) some c.spot_of-g.result.segment g

pub returns-then-is_empty-clause-any_marks : goal.returns-then-is_empty-clause-any_marks
returns-then-is_empty-clause-any_marks c = λ u.
    let t = c.args.t.now in
    ap (set_used u) (returns-then-is_empty-clause-forgotten c) ∙ forget_aside t.geo c.args.l.0 u (tables_of t)

pub returns-clause-any_marks : goal.returns-clause-any_marks
returns-clause-any_marks c = λ u.
    let t = c.args.t.now in
    ap (set_used u) (returns-clause-forgotten c) ∙ forget_aside t.geo c.args.l.0 u (tables_of t)

-- `settle` meets its contract: one turn of the definition's walk.
use Rattle.std.proofs.Common.{◌≡◌, ◌*◌, ◌+◌, ◌<◌, ℕ, List, true, false, set, sym, refl, ◌∙◌, arith}
use Rattle.model.specs.declared.Spot.{Spot}
use Rattle.model.specs.Numbers.{empty, seg_of, page_of}
use Rattle.model.specs.PageMap.{spot}
use Rattle.model.specs.Tables.{Tables, at, set_map}
use Rattle.tables.specs.declared.TablesMut.{TablesMut}
use Rattle.tables.specs.Parts.{tables_of}
use Rattle.checkpoint.specs.Turns.{takes, listed, Turn}
use Rattle.checkpoint.proofs.Turning.{Room, room, Onward, turn_taken, turn_passed}
use Rattle.checkpoint.proofs.settle.Goals as goal

module _ (t : TablesMut) (l : ℕ) (s : List ℕ) (r : (l < t.geo.e) × Turn t.geo l (tables_of t) s) where
  -- the word of logical page l
  abbrev word : ℕ
  word = at t.map.now l

  module _ (yes : takes t.geo word (tables_of t) s ≡ true) (x : Spot) (e : x ≡ spot (seg_of t.geo word) (page_of t.geo word)) where
    has_room : Room t.geo (tables_of t) x
    has_room = room t.geo t.good l (tables_of t) s r.1 r.0 word refl yes x e

    taken : (t' : Tables) → t' ≡ listed t.geo l x.segment (tables_of t) → Onward t.geo l (tables_of t) t' (set s (x.segment * t.geo.p + x.page) 1)
    taken = turn_taken t.geo t.good l (tables_of t) s r.1 r.0 word refl yes x e

  passed : takes t.geo word (tables_of t) s ≡ false → Onward t.geo l (tables_of t) (set_map (set t.map.now l empty) (tables_of t)) s
  passed = turn_passed t.geo t.good l (tables_of t) s r.1 r.0 word refl

pub number_of-requires-clause-in_bounds : goal.number_of-requires-clause-in_bounds
number_of-requires-clause-in_bounds c =
    let R = has_room c.args.t.now c.args.l.0 c.args.taken.now c.requires (sym c.takes.ensures ∙ c.if-not-takes.false) _ c.spot_of-at.ensures in
    (R.seg, R.page)

pub bounds-taken-number_of : goal.bounds-taken-number_of
bounds-taken-number_of c =
    let R = has_room c.args.t.now c.args.l.0 c.args.taken.now c.requires (sym c.takes.ensures ∙ c.if-not-takes.false) _ c.spot_of-at.ensures in
    omega (arith, R.place, c.number_of.ensures, c.requires.1.marks_size)

pub list_page-requires-clause-in_bounds : goal.list_page-requires-clause-in_bounds
list_page-requires-clause-in_bounds c =
    let R = has_room c.args.t.now c.args.l.0 c.args.taken.now c.requires (sym c.takes.ensures ∙ c.if-not-takes.false) _ c.spot_of-at.ensures in
    (c.requires.0, R.seg)

pub list_page-requires-clause-room : goal.list_page-requires-clause-room
list_page-requires-clause-room c =
    let R = has_room c.args.t.now c.args.l.0 c.args.taken.now c.requires (sym c.takes.ensures ∙ c.if-not-takes.false) _ c.spot_of-at.ensures in
    (R.valid, R.lens)

pub returns-then-not-takes-clause-turn : goal.returns-then-not-takes-clause-turn
returns-then-not-takes-clause-turn c = (passed c.args.t.now c.args.l.0 c.args.taken.now c.requires (sym c.takes.ensures ∙ c.if-not-takes.true)).0

pub returns-then-not-takes-clause-ending : goal.returns-then-not-takes-clause-ending
returns-then-not-takes-clause-ending c = (passed c.args.t.now c.args.l.0 c.args.taken.now c.requires (sym c.takes.ensures ∙ c.if-not-takes.true)).1

pub returns-clause-turn : goal.returns-clause-turn
returns-clause-turn c =
    rw c.number_of.ensures
    (taken c.args.t.now c.args.l.0 c.args.taken.now c.requires (sym c.takes.ensures ∙ c.if-not-takes.false) _ c.spot_of-at.ensures _ c.list_page.ensures.listed).0

pub returns-clause-ending : goal.returns-clause-ending
returns-clause-ending c = (taken c.args.t.now c.args.l.0 c.args.taken.now c.requires (sym c.takes.ensures ∙ c.if-not-takes.false) _ c.spot_of-at.ensures _ c.list_page.ensures.listed).1

-- The list that gets the page has room: `list_room`.
use Rattle.std.proofs.Common.{ap, arith}
use Rattle.model.specs.Tables.{Tables, at}
use Rattle.page_map.proofs.Drop.{list_room}
use Rattle.page_map.proofs.remap.Goals as goal

pub place-requires : goal.place-requires
place-requires c =
    let t = c.args.t.now in
    let g = c.args.spot.segment in
    let b = c.requires.in_bounds in
    let room = list_room t c.requires.sound c.args.l.0 g c.requires.room in
    let lens = ap (λ (t : Tables). at t.lens g) c.forget.ensures.forgotten in
    record { in_bounds = rw c.forget.ensures.same.geo (b.0, b.1, b.2, omega (arith, room, lens)) }

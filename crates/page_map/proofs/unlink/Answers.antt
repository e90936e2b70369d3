-- The list comes back without l, which it holds once, and behind it are zeros: `list_once`, `list_part`.
use Rattle.std.proofs.Common.{◌≡◌, ◌+◌, ◌*◌, ◌-◌, ap, ◌∙◌, arith}
use Rattle.model.specs.Lists.{occ, without}
use Rattle.model.specs.Tables.{at, region}
use Rattle.model.proofs.Regions.{part_back}
use Rattle.page_map.proofs.Drop.{counted_aside, list_once, list_part}
use Rattle.page_map.proofs.unlink.Goals as goal

pub remove-requires : goal.remove-requires
remove-requires c =
    let t = c.args.t.now in
    let a = c.args.g * t.geo.p in
    let k = at t.lens.now c.args.g in
    let size : a + k - a ≡ k = omega arith in
    ap (λ n. occ c.args.l.0 (region a n t.lists.now)) size
    ∙ list_once (counted_aside t c.requires.sound) c.args.l.0 c.args.g c.requires.mapped.0 c.requires.mapped.1

pub returns-clause-unlinked : goal.returns-clause-unlinked
returns-clause-unlinked c =
    let t = c.args.t.now in
    let l = c.args.l.0 in
    let g = c.args.g in
    let back =
    part_back t.lists.now c.remove.new.slot (g * t.geo.p) (at t.lens.now g) (without l) c.remove.ensures
    ∙ list_part (counted_aside t c.requires.sound) l g c.requires.mapped.0 c.requires.mapped.1 in
    rw back

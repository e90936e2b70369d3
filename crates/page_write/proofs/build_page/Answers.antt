-- `build_page` meets its contract: zeros, or the page that the map's word names, and the bytes laid in.
use Rattle.std.proofs.Common.{◌∙◌}
use Rattle.device.specs.Lent.{flash_of}
use Rattle.page_write.proofs.Laws.{laid, old_zeros, old_read}
use Rattle.page_write.proofs.build_page.Goals.{then-not-is_empty, else-not-is_empty}
use Rattle.page_write.proofs.build_page.Goals as goal

pub returns : goal.returns
returns c = λ counts.
    let f = flash_of c.args.f.now counts in
    laid c.args.off c.args.xs.now c.copy_from_slice.ensures.after
    (elim c.if-not-is_empty.branch [
      | then-not-is_empty w ↦
          w.page-is ∙ rw (w.spot_of.ensures, c.requires.one_geometry) at w.read_page.ensures
          ∙ old_read c.args.t.now c.args.l.0 c.requires.in_page.0 f w.if-not-is_empty.ensures
      | else-not-is_empty w ↦
          w.page-is ∙ c.requires.lent ∙ old_zeros c.args.t.now c.args.l.0 c.requires.in_page.0 f w.if-not-is_empty.ensures
    ])

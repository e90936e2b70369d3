-- The parts, and what is left of them put together.
use Rattle.std.proofs.Common.{rules, sym, subst}
use Rattle.model.specs.Tables.{Tables, tables, view, Sized}
use Rattle.tables.proofs.Parts.{apart, laid_together}
use Rattle.tables.proofs.packed.on_packed.Goals as goal

pub on_parts-requires-clause-may : goal.on_parts-requires-clause-may
on_parts-requires-clause-may g c =
    let whole =
    apart c.args.geo c.args.tab.now c.args.used.now c.requires.tab_len.0
    c.split_at_mut-map.ensures.front c.split_at_mut-map.ensures.back
    c.split_at_mut-free.ensures.front c.split_at_mut-free.ensures.back
    c.split_at_mut-valid.ensures.front c.split_at_mut-valid.ensures.back
    c.split_at_mut-lens.ensures.front c.split_at_mut-lens.ensures.back
    c.split_at_mut-queue.ensures.front c.split_at_mut-queue.ensures.back
    c.split_at_mut-flags.ensures.front c.split_at_mut-flags.ensures.back
    c.split_at_mut-alloc.ensures.front c.split_at_mut-alloc.ensures.back
    c.split_at_mut-queued.ensures.front c.split_at_mut-queued.ensures.back in
    subst (λ (t : Tables). g.D.Deed.may c.args.geo t c.args.deed.now) (sym whole) c.requires.may

pub returns : goal.returns
returns g c =
    let whole =
    apart c.args.geo c.args.tab.now c.args.used.now c.requires.tab_len.0
    c.split_at_mut-map.ensures.front c.split_at_mut-map.ensures.back
    c.split_at_mut-free.ensures.front c.split_at_mut-free.ensures.back
    c.split_at_mut-valid.ensures.front c.split_at_mut-valid.ensures.back
    c.split_at_mut-lens.ensures.front c.split_at_mut-lens.ensures.back
    c.split_at_mut-queue.ensures.front c.split_at_mut-queue.ensures.back
    c.split_at_mut-flags.ensures.front c.split_at_mut-flags.ensures.back
    c.split_at_mut-alloc.ensures.front c.split_at_mut-alloc.ensures.back
    c.split_at_mut-queued.ensures.front c.split_at_mut-queued.ensures.back in
    let n = c.on_parts.new in
    let left = tables n.map n.free n.valid n.used n.lists n.lens n.queue n.flags n.alloc n.queued in
    let sizes : Sized c.args.geo left =
    record {
      map = search rules;
      free = search rules;
      valid = search rules;
      used = search rules;
      lists = search rules;
      lens = search rules;
      queue = search rules;
      flags = search rules;
    } in
    subst (λ (t : Tables). g.D.Deed.does c.args.geo (view c.args.geo c.args.tab.now c.args.used.now) c.args.deed.now c.on_parts.result t n.deed)
    (sym (laid_together c.args.geo left _ _ sizes (search rules) (search rules)))
    (subst (λ (t : Tables). g.D.Deed.does c.args.geo t c.args.deed.now c.on_parts.result left n.deed) whole c.on_parts.ensures)

-- `run` is safe: what a header says is taken.
use Rattle.std.proofs.Common.{arith}
use Rattle.std.proofs.lemmas.Grind.{common_steps}
use Rattle.records.proofs.Taken.{header-taken}
use Rattle.trace.proofs.Laws.{segments}
use Rattle.trace.proofs.run.Goals as goal

pub slice_bounds-bad-end : goal.slice_bounds-bad-end
slice_bounds-bad-end g c =
    omega (arith, segments c.in-Ok.geo (header-taken c.args.xs.now _ c.read_header.ensures c.in-Ok.is))

pub slice_bounds-play-end : goal.slice_bounds-play-end
slice_bounds-play-end g c =
    grind (arith, common_steps, segments c.in-Ok.geo (header-taken c.args.xs.now _ c.read_header.ensures c.in-Ok.is))

pub play-requires : goal.play-requires
play-requires g c = header-taken c.args.xs.now _ c.read_header.ensures c.in-Ok.is

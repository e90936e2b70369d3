-- `play` is safe: the memory at hand is enough for the device of a trace.
use Rattle.std.proofs.Common.{arith}
use Rattle.std.proofs.lemmas.Grind.{common_steps}
use Rattle.trace.proofs.Laws.{good, segments, words}
use Rattle.trace.proofs.play.Goals as goal

pub pages-pages-requires : goal.pages-pages-requires
pages-pages-requires g c = good c.args.geo c.requires

pub words-requires : goal.words-requires
words-requires g c = good c.args.geo c.requires

pub slice_bounds-tab-end-2 : goal.slice_bounds-tab-end-2
slice_bounds-tab-end-2 g c = grind (arith, common_steps, words c.args.geo c.requires)

pub slice_bounds-counts-end-2 : goal.slice_bounds-counts-end-2
slice_bounds-counts-end-2 g c = grind (arith, common_steps, segments c.args.geo c.requires)

pub follow-requires-clause-tab_len : goal.follow-requires-clause-tab_len
follow-requires-clause-tab_len g c = grind (arith, common_steps, words c.args.geo c.requires)

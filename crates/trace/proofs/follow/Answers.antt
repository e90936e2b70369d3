-- `follow` is safe: the geometry of a trace is good.
use Rattle.std.proofs.Common.{ap, ◌∙◌}
use Rattle.records.specs.Trace.{small?}
use Rattle.trace.proofs.Laws.{good}
use Rattle.trace.proofs.follow.Goals as goal

pub print_map-requires-clause-good : goal.print_map-requires-clause-good
print_map-requires-clause-good g c = good c.loop-at.kept.unit.geo (ap small? c.loop-at.invariant.unit.geo ∙ c.requires.geo_value)

-- `row` meets its contract: it begins with none of its numbers read, and a turn reads one more.
use Rattle.std.proofs.Common.{sym, ◌∙◌}
use Rattle.std.proofs.lemmas.List.{length-replicate}
use Rattle.numbers.proofs.Rows.{row_start, row_more}
use Rattle.numbers.proofs.row.Goals as goal

pub loop-x-init : goal.loop-x-init
loop-x-init g c = row_start c.args.s.now g.row.N c.args.at _ (length-replicate g.row.N 0)

pub loop-x-preserved : goal.loop-x-preserved
loop-x-preserved g c = row_more c.args.s.now c.loop-x.invariant c.loop-x-test.true (sym c.number.ensures ∙ c.in_ok-x.was)

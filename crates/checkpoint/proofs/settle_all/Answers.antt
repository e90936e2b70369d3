-- `settle_all` meets its contract: before each turn, what is left of the definition's walk gives the whole.
use Rattle.std.proofs.Common.{rules, arith}
use Rattle.tables.specs.Parts.{tables_of}
use Rattle.checkpoint.proofs.Turning.{walk_more, walk_end}
use Rattle.checkpoint.proofs.settle_all.Goals as goal

pub loop-l-preserved : goal.loop-l-preserved
loop-l-preserved c = record {
  same = search rules;
  walked =
      walk_more c.args.t.now.geo c.loop-l.t.geo c.loop-l.l (tables_of c.args.t.now) (tables_of c.loop-l.t) (tables_of c.settle.new.t) c.loop-l.taken
      c.settle.new.taken
      c.loop-l.invariant.same.geo
      c.loop-l.invariant.walked
      c.settle.ensures.turn
      c.settle.ensures.ending;
}

pub returns-clause-ending : goal.returns-clause-ending
returns-clause-ending c =
    walk_end c.args.t.now.geo c.loop-l.l (tables_of c.args.t.now) (tables_of c.loop-l.t) c.loop-l.taken (omega arith) c.loop-l.invariant.walked

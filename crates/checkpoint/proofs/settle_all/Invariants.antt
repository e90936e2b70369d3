-- Before each turn, what is left of the definition's walk gives the whole.
use Rattle.tables.specs.Parts.{tables_of, Same}
use Rattle.checkpoint.proofs.Turning.{Walked}
use Rattle.checkpoint.proofs.settle_all.Given as goal

abbrev pub invariant-loop-l : goal.invariant-loop-l
invariant-loop-l l = record {
  same : Same l.fn.t l.t;
  walked : Walked l.fn.t.geo l.l (tables_of l.fn.t) (tables_of l.t) l.taken;
}

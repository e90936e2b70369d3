-- Before each turn, what is left of the definition's walk gives the whole.
use Rattle.tables.specs.Parts.{tables_of, Same}
use Rattle.requeue.proofs.Laws.{Walked}
use Rattle.requeue.proofs.queue_all.Given as goal

abbrev pub invariant-loop-g : goal.invariant-loop-g
invariant-loop-g l =
    record {
      same : Same l.fn.t l.t;
      walked : Walked l.fn.t.geo (tables_of l.fn.t) l.g (tables_of l.t);
    }

-- Before each turn `counter` copies were made.
use Rattle.std.proofs.Common.{◌≡◌}
use Rattle.model.specs.Lists.{zeros}
use Rattle.page_gc.proofs.Copying.{Copying}
use Rattle.page_gc.proofs.drain.Given as goal

abbrev pub invariant-loop : goal.invariant-loop
invariant-loop l =
    record {
      copying : Copying l.bad l.v l.initial.t l.initial.f l.t l.f l.counter;
      clean : l.page ≡ zeros l.initial.t.geo.s;
    }

-- Before each turn k passes were counted.
use Rattle.std.proofs.Common.{◌≡◌}
use Rattle.model.specs.Lists.{zeros}
use Rattle.page_gc.proofs.Passes.{Listing}
use Rattle.page_gc.proofs.collect_list.Given as goal

abbrev pub invariant-loop-k : goal.invariant-loop-k
invariant-loop-k l =
    record {
      listing : Listing l.bad l.m l.initial.t l.initial.f l.initial.counts l.t l.f l.counts l.k;
      clean : (l.page ≡ zeros l.initial.t.geo.s) × (l.order ≡ zeros l.initial.t.geo.n);
    }

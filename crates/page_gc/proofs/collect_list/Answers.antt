-- `collect_list` meets its contract: its loop goes on as the definition does (`Listing`), pass by pass.
use Rattle.std.proofs.Common.{refl, arith}
use Rattle.std.proofs.lemmas.Result.{err_from_is_err_and}
use Rattle.page_gc.proofs.Passes.{listing_start, listing_end, listing_stops, listing_drained, listing_more}
use Rattle.page_gc.proofs.collect_list.Goals as goal

pub loop-k-init : goal.loop-k-init
loop-k-init c =
    let a = c.args in
    let r = c.requires in
    record { listing = listing_start a.bad.now a.m a.t.now a.f.now a.counts.now r.one_geometry r.marks r.sound r.counts_len.0; clean = (r.lent.1, r.counts_len.1) }

pub returns-in_err-collect-clause-done : goal.returns-in_err-collect-clause-done
returns-in_err-collect-clause-done c =
    let L = c.loop-k.invariant.listing in
    let n = c.collect.new in
    let p = err_from_is_err_and c.from_residual.result c.from_residual.ensures.1 in
    rw (p.1, p.2) (listing_stops L c.loop-k-test.true n.t n.f n.counts (rw L.same.geo at c.in_err-collect.ensures.done) _ refl)

pub returns-then-t-eq0-clause-done : goal.returns-then-t-eq0-clause-done
returns-then-t-eq0-clause-done c =
    let L = c.loop-k.invariant.listing in
    let n = c.collect.new in
    listing_drained L c.loop-k-test.true n.t n.f n.counts (rw L.same.geo at c.in_ok-collect.ensures.done) _ refl c.if-t-eq0.true

pub loop-k-preserved : goal.loop-k-preserved
loop-k-preserved c =
    let L = c.loop-k.invariant.listing in
    let p = c.collect in
    record {
      listing =
          listing_more L c.loop-k-test.true p.new.t p.new.f p.new.counts (rw L.same.geo at c.in_ok-collect.ensures.done) _ refl c.if-t-eq0.false
          p.ensures.same p.ensures.same_flash p.ensures.marks p.ensures.sound p.auto.counts;
      clean = rw L.same.geo at p.ensures.clean;
    }

pub returns-clause-done : goal.returns-clause-done
returns-clause-done c = listing_end c.loop-k.invariant.listing (omega arith)

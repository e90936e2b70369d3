-- `collect_threshold` meets its contract: nothing above the threshold, else the list.
use Rattle.std.proofs.Common.{refl, arith}
use Rattle.model.specs.Device.{state}
use Rattle.model.proofs.Turns.{threshold_above, threshold_below}
use Rattle.tables.specs.Parts.{tables_of}
use Rattle.device.specs.Lent.{flash_of}
use Rattle.page_gc.proofs.collect_threshold.Goals as goal

pub returns-then-threshold-total_free-clause-done : goal.returns-then-threshold-total_free-clause-done
returns-then-threshold-total_free-clause-done c =
    let a = c.args in
    rw (threshold_above a.t.now.geo a.bad.now a.threshold a.m (state (tables_of a.t.now) (flash_of a.f.now a.counts.now)) (omega arith))
    (record { answer = refl; left = refl })

pub returns-clause-done : goal.returns-clause-done
returns-clause-done c =
    let a = c.args in
    rw (threshold_below a.t.now.geo a.bad.now a.threshold a.m (state (tables_of a.t.now) (flash_of a.f.now a.counts.now)) (omega arith))
    c.collect_list.ensures.done

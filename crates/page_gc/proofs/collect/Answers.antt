-- `collect` meets its contract: nothing queued, a copy refused, the erase refused, or the victim reset.
use Rattle.std.proofs.Common.{refl, ◌∙◌, arith}
use Rattle.std.proofs.lemmas.Result.{err_from_is_err_and}
use Rattle.model.specs.Device.{state}
use Rattle.tables.specs.Parts.{tables_of}
use Rattle.device.specs.Lent.{flash_of}
use Rattle.page_gc.proofs.Passes.{took_marks, took_sound, took_victim, pass_none, pass_stops, pass_refused, pass_done, pass_kept}
use Rattle.page_gc.proofs.collect.Goals as goal

pub returns-then-t-eq0-clause-done : goal.returns-then-t-eq0-clause-done
returns-then-t-eq0-clause-done c = pass_none _ _ _ c.if-t-eq0.true

pub drain-requires-clause-marks : goal.drain-requires-clause-marks
drain-requires-clause-marks c =
    let t = c.take-v in
    took_marks c.args.t.now c.requires.marks c.requires.sound (omega arith) t.new.t t.ensures.same t.ensures.rest

pub drain-requires-clause-sound : goal.drain-requires-clause-sound
drain-requires-clause-sound c =
    let t = c.take-v in
    took_sound c.args.t.now c.requires.marks c.requires.sound (omega arith) t.new.t t.ensures.same t.ensures.rest

pub drain-requires-clause-victim : goal.drain-requires-clause-victim
drain-requires-clause-victim c =
    let t = c.take-v in
    took_victim c.args.t.now c.requires.marks c.requires.sound (omega arith) t.new.t t.ensures.same t.ensures.rest t.ensures.first

pub returns-in_err-drain-clause-done : goal.returns-in_err-drain-clause-done
returns-in_err-drain-clause-done c =
    let a = c.args in
    let t = c.take-v in
    let p = err_from_is_err_and c.from_residual.result c.from_residual.ensures.1 in
    let D = rw t.ensures.same.geo at (c.in_err-drain.ensures.done a.counts.now) in
    rw (p.1, p.2)
    (pass_stops a.t.now.geo a.bad.now (state (tables_of a.t.now) (flash_of a.f.now a.counts.now)) c.if-t-eq0.false t.ensures.first t.ensures.rest D _ refl)

pub erase-requires : goal.erase-requires
erase-requires c =
    let t = c.take-v in
    let v = took_victim c.args.t.now c.requires.marks c.requires.sound (omega arith) t.new.t t.ensures.same t.ensures.rest t.ensures.first in
    let seg = rw t.ensures.same.geo at v.0 in
    record { in_bounds = rw (c.drain.ensures.same_flash.geo, c.requires.one_geometry) (seg, c.requires.counts_len.0) }

pub returns-in_err-erase-clause-done : goal.returns-in_err-erase-clause-done
returns-in_err-erase-clause-done c =
    let a = c.args in
    let t = c.take-v in
    let p = err_from_is_err_and c.from_residual-in_err-erase.result c.from_residual-in_err-erase.ensures.1 in
    let D = rw t.ensures.same.geo at (c.in_ok-drain.ensures.done a.counts.now) in
    let E = rw (c.drain.ensures.same_flash.geo, c.requires.one_geometry) at c.in_err-erase.ensures.tried in
    rw (p.1, p.2)
    (pass_refused a.t.now.geo a.bad.now (state (tables_of a.t.now) (flash_of a.f.now a.counts.now)) c.if-t-eq0.false t.ensures.first t.ensures.rest D _ refl E)

pub returns-clause-done : goal.returns-clause-done
returns-clause-done c =
    let a = c.args in
    let t = c.take-v in
    let D = rw t.ensures.same.geo at (c.in_ok-drain.ensures.done a.counts.now) in
    let E = rw (c.drain.ensures.same_flash.geo, c.requires.one_geometry) at c.in_ok-erase.ensures.tried in
    let R = rw (c.drain.ensures.same.geo, t.ensures.same.geo) at c.reset_segment.ensures.reset in
    pass_done a.t.now.geo a.bad.now (state (tables_of a.t.now) (flash_of a.f.now a.counts.now)) c.if-t-eq0.false t.ensures.first t.ensures.rest D _ refl E R

-- what a finished pass keeps
pub returns-clause-marks : goal.returns-clause-marks
returns-clause-marks c =
    let a = c.args in
    let t = c.take-v in
    let same = c.reset_segment.ensures.same.geo ∙ c.drain.ensures.same.geo ∙ t.ensures.same.geo in
    let kept =
    pass_kept a.bad.now a.t.now a.f.now a.counts.now c.requires.marks c.requires.sound c.requires.one_geometry c.requires.counts_len.0
    c.reset_segment.new.t same (returns-clause-done c) in
    kept.0

pub returns-clause-sound : goal.returns-clause-sound
returns-clause-sound c =
    let a = c.args in
    let t = c.take-v in
    let same = c.reset_segment.ensures.same.geo ∙ c.drain.ensures.same.geo ∙ t.ensures.same.geo in
    let kept =
    pass_kept a.bad.now a.t.now a.f.now a.counts.now c.requires.marks c.requires.sound c.requires.one_geometry c.requires.counts_len.0
    c.reset_segment.new.t same (returns-clause-done c) in
    kept.1

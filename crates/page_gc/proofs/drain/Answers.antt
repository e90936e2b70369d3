-- `drain` meets its contract: its loop goes on as the definition does (`Copying`), copy by copy.
use Rattle.std.proofs.Common.{arith}
use Rattle.std.proofs.lemmas.Result.{err_from_is_err_and}
use Rattle.tables.proofs.Parts.{marks_aside}
use Rattle.page_gc.proofs.Copying.{copying_start, marks_here, sound_here, copying_empty, copying_end, known, marks_after, sound_after, copying_more, copying_stops}
use Rattle.page_gc.proofs.drain.Goals as goal

pub loop-init : goal.loop-init
loop-init c =
    let r = c.requires in
    record {
      copying = copying_start c.args.bad.now c.args.v c.args.t.now c.args.f.now r.one_geometry r.marks r.sound r.victim.0 r.victim.1 r.victim.2;
      clean = r.lent.1;
    }

pub returns-then-t-v-eq0-clause-done : goal.returns-then-t-v-eq0-clause-done
returns-then-t-v-eq0-clause-done c = copying_empty c.loop.invariant.copying c.if-t-v-eq0.true

pub returns-then-t-v-eq0-clause-marks : goal.returns-then-t-v-eq0-clause-marks
returns-then-t-v-eq0-clause-marks c = marks_here c.loop.invariant.copying

pub returns-then-t-v-eq0-clause-sound : goal.returns-then-t-v-eq0-clause-sound
returns-then-t-v-eq0-clause-sound c = sound_here c.loop.invariant.copying

pub last_listed-l-requires-clause-sound : goal.last_listed-l-requires-clause-sound
last_listed-l-requires-clause-sound c = marks_aside _ (marks_here c.loop.invariant.copying) (sound_here c.loop.invariant.copying)

pub write_page-requires-clause-marks : goal.write_page-requires-clause-marks
write_page-requires-clause-marks c = marks_here c.loop.invariant.copying

pub write_page-requires-clause-sound : goal.write_page-requires-clause-sound
write_page-requires-clause-sound c = sound_here c.loop.invariant.copying

pub write_page-requires-clause-in_page : goal.write_page-requires-clause-in_page
write_page-requires-clause-in_page c =
    let C = c.loop.invariant.copying in
    let l = rw C.same.geo at c.last_listed-l.ensures in
    let k = known C c.if-t-v-eq0.false _ l in
    rw C.same.geo (k, omega arith)

pub returns-in_err-map_err-clause-done : goal.returns-in_err-map_err-clause-done
returns-in_err-map_err-clause-done c = λ counts.
    let C = c.loop.invariant.copying in
    let w = c.write_page in
    let p = err_from_is_err_and c.from_residual.result c.from_residual.ensures.1 in
    rw (p.1, p.2)
    (copying_stops C c.if-t-v-eq0.false _ (rw C.same.geo at c.last_listed-l.ensures) w.result w.new.t w.new.f w.ensures.same w.ensures.same_flash
    (rw C.same.geo at w.ensures.done) (omega arith) c.in_err-map_err.ensures.cases counts)

pub returns-in_err-map_err-clause-marks : goal.returns-in_err-map_err-clause-marks
returns-in_err-map_err-clause-marks c =
    let C = c.loop.invariant.copying in
    let w = c.write_page in
    marks_after C c.if-t-v-eq0.false _ (rw C.same.geo at c.last_listed-l.ensures) w.result w.new.t w.new.f w.ensures.same w.ensures.same_flash
    (rw C.same.geo at w.ensures.done)

pub returns-in_err-map_err-clause-sound : goal.returns-in_err-map_err-clause-sound
returns-in_err-map_err-clause-sound c =
    let C = c.loop.invariant.copying in
    let w = c.write_page in
    sound_after C c.if-t-v-eq0.false _ (rw C.same.geo at c.last_listed-l.ensures) w.result w.new.t w.new.f w.ensures.same w.ensures.same_flash
    (rw C.same.geo at w.ensures.done)

pub loop-preserved : goal.loop-preserved
loop-preserved c =
    let C = c.loop.invariant.copying in
    let w = c.write_page in
    record {
      copying =
          copying_more C c.if-t-v-eq0.false _ (rw C.same.geo at c.last_listed-l.ensures) w.result w.new.t w.new.f w.ensures.same
          w.ensures.same_flash (rw C.same.geo at w.ensures.done) (omega arith) c.in_ok-map_err.ensures.variant;
      clean = rw C.same.geo at w.ensures.clean;
    }

pub returns-clause-done : goal.returns-clause-done
returns-clause-done c = copying_end c.loop.invariant.copying (omega arith)

pub returns-clause-marks : goal.returns-clause-marks
returns-clause-marks c = marks_here c.loop.invariant.copying

pub returns-clause-sound : goal.returns-clause-sound
returns-clause-sound c = sound_here c.loop.invariant.copying

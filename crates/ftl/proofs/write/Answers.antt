-- `write` meets its contract: each test that fails, then the write.
use Rattle.std.proofs.lemmas.Result.{err_from_is_err_and}
use Rattle.std.proofs.Common.{arith, rules, subst}
use borrow.Author.Tests.{le-leb, lt-leb}
use Rattle.model.specs.Device.{Flash, flash, state}
use Rattle.model.specs.Tables.{view}
use Rattle.model.specs.Contract.{Done}
use Rattle.model.specs.Entry.{recorder}
use Rattle.model.proofs.Guard.{good_test}
use Rattle.guard.proofs.Rows.{told}
use Rattle.ftl.proofs.Passing.{passed, held}
use Rattle.ftl.proofs.Places.{placed, misplaced}
use Rattle.ftl.proofs.Writing.{sent_fits, inner, answer_fits, wrong_geometry, wrong_size, too_short, unsound, refused_place, done}
use Rattle.ftl.proofs.write.Goals.{then-not-good-via-then-not-good, then-not-good-via-else-not-good+then-not-all_fit, then-not-good-via-else-not-good+else-not-all_fit+then-xs-len}
use Rattle.ftl.proofs.write.Goals as goal

pub returns-then-not-good-clause-answered : goal.returns-then-not-good-clause-answered
returns-then-not-good-clause-answered c =
    elim c.then-not-good.branch [
      | then-not-good-via-then-not-good w ↦ wrong_geometry _ _ _ _ _ _ _ _ (told c.good.ensures w.if-not-good.true)
      | then-not-good-via-else-not-good+then-not-all_fit w ↦
          wrong_size _ _ _ _ _ _ _ _ (told c.good.ensures w.if-not-good.false) (told w.all_fit.ensures w.if-not-all_fit.true)
      | then-not-good-via-else-not-good+else-not-all_fit+then-xs-len w ↦
          too_short _ _ _ _ _ _ _ _ (told c.good.ensures w.if-not-good.false) (told w.all_fit.ensures w.if-not-all_fit.false) (lt-leb _ _ w.if-xs-len.true)
    ]

pub all_fit-requires : goal.all_fit-requires
all_fit-requires c = good_test _ (told c.good.ensures c.if-not-good.false)

pub sound-requires : goal.sound-requires
sound-requires c =
    let a = c.args in
    let x = recorder a.tab.now a.used.now (flash a.bytes.now a.marks.now a.counts.now a.fuse.now) in
    let P =
    passed a.geo a.bad.now x a.page.now a.seen.now (told c.good.ensures c.if-not-good.false) (told c.all_fit.ensures c.if-not-all_fit.false) in
    record { good = P.good; tab_len = (P.words_size, P.used_size, P.seen_clean) }

pub returns-then-not-sound-clause-answered : goal.returns-then-not-sound-clause-answered
returns-then-not-sound-clause-answered c =
    unsound _ _ _ _ _ _ _ _ (passed _ _ _ _ _ (told c.good.ensures c.if-not-good.false) (told c.all_fit.ensures c.if-not-all_fit.false))
    (le-leb _ _ c.if-xs-len.false) _ c.sound.ensures.seen_after (told c.sound.ensures.value c.if-not-sound.true)

pub within_page-requires : goal.within_page-requires
within_page-requires c = good_test _ (told c.good.ensures c.if-not-good.false)

pub returns-in_err-l-clause-answered : goal.returns-in_err-l-clause-answered
returns-in_err-l-clause-answered c =
    let p = err_from_is_err_and c.from_residual.result c.from_residual.ensures.1 in
    let m = misplaced c.args.geo c.args.sector c.args.len _ c.in_err-l.ensures in
    rw (p.1, p.2, m.1)
    (refused_place _ _ _ _ _ _ _ _ (passed _ _ _ _ _ (told c.good.ensures c.if-not-good.false) (told c.all_fit.ensures c.if-not-all_fit.false))
    (le-leb _ _ c.if-xs-len.false) _ c.sound.ensures.seen_after (told c.sound.ensures.value c.if-not-sound.false) m.0)

pub returns-in_err-l-clause-countable : goal.returns-in_err-l-clause-countable
returns-in_err-l-clause-countable c =
    let p = err_from_is_err_and c.from_residual.result c.from_residual.ensures.1 in
    rw (p.1, p.2, (misplaced c.args.geo c.args.sector c.args.len _ c.in_err-l.ensures).1) tt

pub on_packed-requires-clause-good : goal.on_packed-requires-clause-good
on_packed-requires-clause-good c = good_test _ (told c.good.ensures c.if-not-good.false)

pub on_packed-requires-clause-tab_len : goal.on_packed-requires-clause-tab_len
on_packed-requires-clause-tab_len c =
    let a = c.args in
    let x = recorder a.tab.now a.used.now (flash a.bytes.now a.marks.now a.counts.now a.fuse.now) in
    let P =
    passed a.geo a.bad.now x a.page.now a.seen.now (told c.good.ensures c.if-not-good.false) (told c.all_fit.ensures c.if-not-all_fit.false) in
    (P.words_size, P.used_size)

pub on_packed-requires-clause-may : goal.on_packed-requires-clause-may
on_packed-requires-clause-may c =
    let a = c.args in
    let x = recorder a.tab.now a.used.now (flash a.bytes.now a.marks.now a.counts.now a.fuse.now) in
    let P =
    passed a.geo a.bad.now x a.page.now a.seen.now (told c.good.ensures c.if-not-good.false) (told c.all_fit.ensures c.if-not-all_fit.false) in
    let L = placed a.geo a.sector a.len _ c.in_ok-l.ensures in
    record {
      good = P.good;
      bytes_len = P.ready.bytes_size;
      marks_len = P.ready.marks_size;
      sound = (held _ _ x _ a.seen.now P (told c.sound.ensures.value c.if-not-sound.false)).tables.sound;
      bad_len = P.ready.bad_size;
      page = P.ready.page_clean;
      inside = L.page<;
      within = rw L.offset_is (sent_fits _ a.len _ a.xs.now c.if-xs-len.false L.room);
    }

pub returns-clause-answered : goal.returns-clause-answered
returns-clause-answered c =
    let a = c.args in
    let x = recorder a.tab.now a.used.now (flash a.bytes.now a.marks.now a.counts.now a.fuse.now) in
    let P =
    passed a.geo a.bad.now x a.page.now a.seen.now (told c.good.ensures c.if-not-good.false) (told c.all_fit.ensures c.if-not-all_fit.false) in
    let L = placed a.geo a.sector a.len _ c.in_ok-l.ensures in
    let E = c.on_packed.ensures in
    done _ _ _ _ _ _ _ _ P (le-leb _ _ c.if-xs-len.false) _ c.sound.ensures.seen_after (told c.sound.ensures.value c.if-not-sound.false) L.inside L.room
    _ _ _ _ c.on_packed.auto.tab (search rules) _
    (subst
    (λ (f : Flash). Done (inner a.geo a.bad.now x a.page.now a.seen.now a.sector a.len a.xs.now) c.on_packed.result
    (state (view a.geo c.on_packed.new.tab c.on_packed.new.used) f))
    (search rules) (rw (L.page_is, L.offset_is) at (E.done a.counts.now)))

pub returns-clause-countable : goal.returns-clause-countable
returns-clause-countable c =
    let a = c.args in
    let x = recorder a.tab.now a.used.now (flash a.bytes.now a.marks.now a.counts.now a.fuse.now) in
    let P =
    passed a.geo a.bad.now x a.page.now a.seen.now (told c.good.ensures c.if-not-good.false) (told c.all_fit.ensures c.if-not-all_fit.false) in
    let L = placed a.geo a.sector a.len _ c.in_ok-l.ensures in
    answer_fits a.geo a.bad.now x a.page.now a.seen.now a.sector a.len a.xs.now _ _ (rw (L.page_is, L.offset_is) at (c.on_packed.ensures.done a.counts.now))
    (sent_fits _ a.len _ a.xs.now c.if-xs-len.false L.room) (omega (arith, P.good.s≤))

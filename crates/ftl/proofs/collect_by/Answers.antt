-- `collect_by` meets its contract: a test that fails, then the collection.
use Rattle.std.proofs.Common.{rules, sym, subst}
use Rattle.std.proofs.lemmas.Result.{err_from_is_err_and}
use Rattle.model.specs.Device.{Flash, state}
use Rattle.model.specs.Tables.{view}
use Rattle.model.specs.Contract.{Done}
use Rattle.ftl.specs.Calls.{flash_with, passes_of}
use Rattle.model.specs.Entry.{recorder}
use Rattle.ftl.proofs.Collecting.{all_tested, refused_by, refusal_known, done}
use Rattle.guard.specs.Countable.{Countable}
use Rattle.ftl.proofs.Answers.{passes_countable}
use Rattle.ftl.proofs.Passing.{held, counted}
use Rattle.ftl.proofs.collect_by.Goals as goal

pub returns-in_err-collection_tests-clause-answered : goal.returns-in_err-collection_tests-clause-answered
returns-in_err-collection_tests-clause-answered c =
    let a = c.args in
    let x = recorder a.tab.now a.used.now (flash_with a.deed.now) in
    let t = c.in_err-collection_tests.ensures in
    let p = err_from_is_err_and c.from_residual.result c.from_residual.ensures.1 in
    let o = passes_of a.geo a.deed.now.bad.now a.deed.now.passes (state (view a.geo a.tab.now a.used.now) x.flash) in
    rw (p.1, p.2, t.seen_unchanged)
    (refused_by a.geo a.deed.now.bad.now x a.deed.now.page.now a.seen.now a.deed.now.order.now o c.in_err-collection_tests.field-0.0 (sym (t.tested)))

pub returns-in_err-collection_tests-clause-countable : goal.returns-in_err-collection_tests-clause-countable
returns-in_err-collection_tests-clause-countable c =
    let p = err_from_is_err_and c.from_residual.result c.from_residual.ensures.1 in
    rw (p.1, p.2) (refusal_known _ _ _ (sym (c.in_err-collection_tests.ensures.tested)))

pub on_packed-requires-clause-good : goal.on_packed-requires-clause-good
on_packed-requires-clause-good c =
    let a = c.args in
    let x = recorder a.tab.now a.used.now (flash_with a.deed.now) in
    let P = all_tested a.geo a.deed.now.bad.now x a.deed.now.page.now a.seen.now a.deed.now.order.now (sym (c.in_ok-collection_tests.ensures.tested)) in
    P.passed.good

pub on_packed-requires-clause-tab_len : goal.on_packed-requires-clause-tab_len
on_packed-requires-clause-tab_len c =
    let a = c.args in
    let x = recorder a.tab.now a.used.now (flash_with a.deed.now) in
    let P = all_tested a.geo a.deed.now.bad.now x a.deed.now.page.now a.seen.now a.deed.now.order.now (sym (c.in_ok-collection_tests.ensures.tested)) in
    (P.passed.words_size, P.passed.used_size)

pub on_packed-requires-clause-may : goal.on_packed-requires-clause-may
on_packed-requires-clause-may c =
    let a = c.args in
    let x = recorder a.tab.now a.used.now (flash_with a.deed.now) in
    let P = all_tested a.geo a.deed.now.bad.now x a.deed.now.page.now a.seen.now a.deed.now.order.now (sym (c.in_ok-collection_tests.ensures.tested)) in
    record {
      good = P.passed.good;
      bytes_len = P.passed.ready.bytes_size;
      marks_len = P.passed.ready.marks_size;
      sound = (held _ _ x _ a.seen.now P.passed P.sound).tables.sound;
      bad_len = P.passed.ready.bad_size;
      counts_len = P.passed.fit.counts;
      page = P.passed.ready.page_clean;
      order = P.order_clean;
    }

pub returns-clause-answered : goal.returns-clause-answered
returns-clause-answered c =
    let a = c.args in
    let x = recorder a.tab.now a.used.now (flash_with a.deed.now) in
    let P = all_tested a.geo a.deed.now.bad.now x a.deed.now.page.now a.seen.now a.deed.now.order.now (sym (c.in_ok-collection_tests.ensures.tested)) in
    let E = c.on_packed.ensures in
    done _ _ x _ _ _ _ P _ _ _ _ _ _ c.on_packed.auto.tab (search rules) c.collection_tests.ensures.seen_unchanged (search rules) _
    (subst
    (λ (f : Flash). Done (passes_of a.geo a.deed.now.bad.now a.deed.now.passes (state (view a.geo a.tab.now a.used.now) x.flash)) c.on_packed.result
    (state (view a.geo c.on_packed.new.tab c.on_packed.new.used) f))
    (search rules) E.done)

pub returns-clause-countable : goal.returns-clause-countable
returns-clause-countable c =
    let a = c.args in
    let x = recorder a.tab.now a.used.now (flash_with a.deed.now) in
    let P = all_tested a.geo a.deed.now.bad.now x a.deed.now.page.now a.seen.now a.deed.now.order.now (sym (c.in_ok-collection_tests.ensures.tested)) in
    let S = counted a.geo a.deed.now.bad.now x a.deed.now.page.now a.seen.now P.passed P.sound in
    subst Countable (sym c.on_packed.ensures.done.answer) (passes_countable a.geo P.passed.good a.deed.now.bad.now a.deed.now.passes _ S P.passed.fit)

-- `collection_tests` meets its contract: each test that fails, and all that pass.
use Rattle.std.proofs.Common.{sym, ◌∙◌}
use Rattle.ftl.specs.Calls.{flash_with}
use Rattle.model.specs.Entry.{recorder}
use Rattle.model.proofs.Guard.{good_test}
use Rattle.guard.proofs.Rows.{told}
use Rattle.ftl.proofs.Passing.{passed}
use Rattle.ftl.proofs.Collecting.{wrong_geometry, wrong_size, wrong_order, told_sound}
use Rattle.ftl.proofs.collection_tests.Goals.{then-not-good-via-then-not-good, then-not-good-via-else-not-good+then-not-all_fit, then-not-good-via-else-not-good+else-not-all_fit+then-not-clean_words}
use Rattle.ftl.proofs.collection_tests.Goals as goal

pub returns-then-not-good-clause-tested : goal.returns-then-not-good-clause-tested
returns-then-not-good-clause-tested c =
    let a = c.args in
    elim c.then-not-good.branch [
      | then-not-good-via-then-not-good w ↦
          wrong_geometry a.geo a.deed.now.bad.now (recorder a.tab.now a.used.now (flash_with a.deed.now)) a.deed.now.page.now a.seen.now
          a.deed.now.order.now (told c.good.ensures w.if-not-good.true)
      | then-not-good-via-else-not-good+then-not-all_fit w ↦
          wrong_size a.geo a.deed.now.bad.now (recorder a.tab.now a.used.now (flash_with a.deed.now)) a.deed.now.page.now a.seen.now a.deed.now.order.now
          (told c.good.ensures w.if-not-good.false) (told w.all_fit.ensures w.if-not-all_fit.true)
      | then-not-good-via-else-not-good+else-not-all_fit+then-not-clean_words w ↦
          wrong_order a.geo a.deed.now.bad.now (recorder a.tab.now a.used.now (flash_with a.deed.now)) a.deed.now.page.now a.seen.now a.deed.now.order.now
          (told c.good.ensures w.if-not-good.false) (told w.all_fit.ensures w.if-not-all_fit.false) (told w.clean_words.ensures w.if-not-clean_words.true)
    ]

pub all_fit-requires : goal.all_fit-requires
all_fit-requires c = good_test _ (told c.good.ensures c.if-not-good.false)

pub sound-requires : goal.sound-requires
sound-requires c =
    let a = c.args in
    let x = recorder a.tab.now a.used.now (flash_with a.deed.now) in
    let P = passed a.geo a.deed.now.bad.now x a.deed.now.page.now a.seen.now (told c.good.ensures c.if-not-good.false) (told c.all_fit.ensures c.if-not-all_fit.false) in
    record { good = P.good; tab_len = (P.words_size, P.used_size, P.seen_clean) }

pub returns-then-not-sound-clause-tested : goal.returns-then-not-sound-clause-tested
returns-then-not-sound-clause-tested c =
    let a = c.args in
    told_sound a.geo a.deed.now.bad.now (recorder a.tab.now a.used.now (flash_with a.deed.now)) a.deed.now.page.now a.seen.now a.deed.now.order.now
    (told c.good.ensures c.if-not-good.false) (told c.all_fit.ensures c.if-not-all_fit.false)
    (told c.clean_words.ensures c.if-not-clean_words.false) _ (told c.sound.ensures.value c.if-not-sound.true)

pub returns-then-not-sound-clause-seen_unchanged : goal.returns-then-not-sound-clause-seen_unchanged
returns-then-not-sound-clause-seen_unchanged c =
    let a = c.args in
    let x = recorder a.tab.now a.used.now (flash_with a.deed.now) in
    let P = passed a.geo a.deed.now.bad.now x a.deed.now.page.now a.seen.now (told c.good.ensures c.if-not-good.false) (told c.all_fit.ensures c.if-not-all_fit.false) in
    c.sound.ensures.seen_after ∙ sym P.seen_clean

pub returns-clause-tested : goal.returns-clause-tested
returns-clause-tested c =
    let a = c.args in
    told_sound a.geo a.deed.now.bad.now (recorder a.tab.now a.used.now (flash_with a.deed.now)) a.deed.now.page.now a.seen.now a.deed.now.order.now
    (told c.good.ensures c.if-not-good.false) (told c.all_fit.ensures c.if-not-all_fit.false)
    (told c.clean_words.ensures c.if-not-clean_words.false) _ (told c.sound.ensures.value c.if-not-sound.false)

pub returns-clause-seen_unchanged : goal.returns-clause-seen_unchanged
returns-clause-seen_unchanged c =
    let a = c.args in
    let x = recorder a.tab.now a.used.now (flash_with a.deed.now) in
    let P = passed a.geo a.deed.now.bad.now x a.deed.now.page.now a.seen.now (told c.good.ensures c.if-not-good.false) (told c.all_fit.ensures c.if-not-all_fit.false) in
    c.sound.ensures.seen_after ∙ sym P.seen_clean

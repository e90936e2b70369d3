-- `encode` meets its contract: each test that fails, then the file.
use Rattle.std.proofs.Common.{◌<◌, [], arith}
use borrow.Author.Tests.{leb-true}
use Rattle.model.specs.Checkpoint.{file_size}
use Rattle.model.specs.Entry.{lent, recorder, no_flash}
use Rattle.model.proofs.Guard.{each, good_test, tables_test}
use Rattle.guard.proofs.Rows.{told}
use Rattle.ftl.proofs.Files.{encoding_wrong, encoding_size, encoding_unsound, encoding-done, file_small}
use Rattle.ftl.proofs.Guards.{clean_is, handed_back}
use Rattle.ftl.proofs.encode.Goals.{then-not-good-via-then-not-good, then-not-good-via-else-not-good+then-not-encode_fits}
use Rattle.ftl.proofs.encode.Goals as goal

pub returns-then-not-good-clause-answered : goal.returns-then-not-good-clause-answered
returns-then-not-good-clause-answered c =
    elim c.then-not-good.branch [
      | then-not-good-via-then-not-good w ↦ encoding_wrong _ _ (told c.good.ensures w.if-not-good.true)
      | then-not-good-via-else-not-good+then-not-encode_fits w ↦ encoding_size _ _ (told w.encode_fits.ensures w.if-not-encode_fits.true)
    ]

pub encode_fits-requires : goal.encode_fits-requires
encode_fits-requires c = good_test _ (told c.good.ensures c.if-not-good.false)

pub sound-requires : goal.sound-requires
sound-requires c =
    let a = c.args in
    let e = told c.encode_fits.ensures c.if-not-encode_fits.false in
    let t = tables_test a.geo (lent (recorder a.tab.now a.used.now no_flash) [] []) (each _ e 0) in
    record {
      good = good_test _ (told c.good.ensures c.if-not-good.false);
      tab_len = (t.0, t.1, clean_is _ a.seen.now (each _ e 2));
    }

pub returns-then-not-sound-clause-answered : goal.returns-then-not-sound-clause-answered
returns-then-not-sound-clause-answered c =
    let e = told c.encode_fits.ensures c.if-not-encode_fits.false in
    encoding_unsound _ _ (told c.good.ensures c.if-not-good.false) e _ (handed_back _ _ _ (each _ e 2) c.sound.ensures.seen_after)
    (told c.sound.ensures.value c.if-not-sound.true)

pub encode-requires : goal.encode-requires
encode-requires c =
    let a = c.args in
    let e = told c.encode_fits.ensures c.if-not-encode_fits.false in
    record {
      good = good_test _ (told c.good.ensures c.if-not-good.false);
      tab_len = ((tables_test a.geo (lent (recorder a.tab.now a.used.now no_flash) [] []) (each _ e 0)).0, leb-true _ _ (each _ e 1));
    }

pub file_size-requires : goal.file_size-requires
file_size-requires c = good_test _ (told c.good.ensures c.if-not-good.false)

pub returns-clause-answered : goal.returns-clause-answered
returns-clause-answered c =
    let g = told c.good.ensures c.if-not-good.false in
    let e = told c.encode_fits.ensures c.if-not-encode_fits.false in
    rw c.file_size.ensures
    (encoding-done _ _ g e _ (handed_back _ _ _ (each _ e 2) c.sound.ensures.seen_after)
    (told c.sound.ensures.value c.if-not-sound.false)
    _ (c.encode.ensures c.args.used.now))

pub returns-clause-countable : goal.returns-clause-countable
returns-clause-countable c =
    let s : file_size c.args.geo < 9223372036854775808 = file_small c.args.geo (good_test _ (told c.good.ensures c.if-not-good.false)) in
    omega (arith, c.file_size.ensures, s)

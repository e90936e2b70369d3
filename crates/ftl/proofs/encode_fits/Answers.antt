-- `encode_fits` meets its contract, test by test.
use Rattle.std.proofs.Common.{arith}
use borrow.Author.Tests.{le-leb, lt-leb}
use Rattle.guard.proofs.Rows.{told, fails, rest, scratch_test}
use Rattle.ftl.proofs.encode_fits.Goals as goal

pub returns-then-not-tables_fit : goal.returns-then-not-tables_fit
returns-then-not-tables_fit c = fails _ 0 (told c.tables_fit.ensures c.if-not-tables_fit.true)

pub returns-then-buffer-file_size : goal.returns-then-buffer-file_size
returns-then-buffer-file_size c = fails _ 1 (lt-leb _ _ (omega arith))

pub returns : goal.returns
returns c =
    rest _ _ (told c.tables_fit.ensures c.if-not-tables_fit.false)
    (rest _ _ (le-leb _ _ (omega arith)) (scratch_test _ _ c.clean.ensures))

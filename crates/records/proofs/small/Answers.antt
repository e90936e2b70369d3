-- A good geometry has few pages, and few and small ones where the last product is asked.
use Rattle.std.proofs.Common.{sym, arith}
use Rattle.model.proofs.Guard.{good_test}
use Rattle.model.proofs.Held.{slots}
use Rattle.records.proofs.small.Goals as goal

pub overflow_mul-pages : goal.overflow_mul-pages
overflow_mul-pages c = omega (arith, slots (good_test c.args.geo (sym c.if-not-good.ensures)))

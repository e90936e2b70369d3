-- `size_of` is called with a good geometry: the test said so.
use Rattle.std.proofs.Common.{sym}
use Rattle.model.proofs.Guard.{good_test}
use Rattle.sizes.proofs.sized.Goals as goal

pub size_of-requires : goal.size_of-requires
size_of-requires c = good_test c.args.geo (sym c.if-good.ensures)

-- `device::burn` meets its contract. Assumes nothing.
use Rattle.device.proofs.Laws.{burn-endless, burn_less}
use Rattle.device.proofs.burn.Goals as goal

pub returns-then-fuse-ne-ENDLESS : goal.returns-then-fuse-ne-ENDLESS
returns-then-fuse-ne-ENDLESS c = burn_less _ c.if-fuse-ne-ENDLESS.true

pub returns-else-fuse-ne-ENDLESS : goal.returns-else-fuse-ne-ENDLESS
returns-else-fuse-ne-ENDLESS c = burn-endless _ c.if-fuse-ne-ENDLESS.false

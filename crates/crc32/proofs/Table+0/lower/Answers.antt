-- `crc32::Table::lower` meets its contract: the literal of the lower tables is the list that `lower` computes.
use Rattle.crc32.proofs.Rows.{lower}
use Rattle.crc32.proofs.Table+0.lower.Goals as goal

pub invariant_of-result : goal.invariant_of-result
invariant_of-result c = record { right = lower }

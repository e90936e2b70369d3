-- `crc32::Table::upper` meets its contract: the literal of the upper tables is the list that `upper` computes.
use Rattle.crc32.proofs.Rows.{upper}
use Rattle.crc32.proofs.Table+8.upper.Goals as goal

pub invariant_of-result : goal.invariant_of-result
invariant_of-result c = record { right = upper }

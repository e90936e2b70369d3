-- Answers whose number a signed word holds.
use Rattle.std.specs.Prelude.{◌<◌}
use Rattle.model.specs.Numbers.{Answer}
use Rattle.model.specs.Numbers.{Ok, Err}
use Rattle.model.specs.declared.Cause.{Cause}
use Rattle.model.specs.Causes.{kind_of, OfReason}

-- a reason is a small number
abbrev pub Known : Cause → Type 0
Known c = OfReason (λ r. r < 4096) (kind_of c)

abbrev pub Countable : Answer → Type 0
Countable (Ok m) = m < 9223372036854775808
Countable (Err c) = Known c

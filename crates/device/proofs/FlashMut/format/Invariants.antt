-- The segments below g have been formatted, which gave the flash as it is.
use Rattle.device.specs.Lent.{flash_of, Same}
use Rattle.device.proofs.Formatting.{Formatting}
use Rattle.device.proofs.FlashMut.format.Given as goal

abbrev pub invariant-loop-g : goal.invariant-loop-g
invariant-loop-g l =
    record {
      same : Same l.initial.self l.self;
      left : Formatting l.initial.self.geo (flash_of l.initial.self l.initial.counts) (flash_of l.self l.counts) l.g;
    }

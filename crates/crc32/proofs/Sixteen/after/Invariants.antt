-- The register is the state after the pairs before the index.
use Rattle.std.proofs.Common.{◌≡◌, ◌*◌, ◌^◌, ◌<◌, take}
use Rattle.crc32.specs.Crc32.{after}
use Rattle.crc32.proofs.Sixteen.after.Given as goal

abbrev pub invariant-loop-p : goal.invariant-loop-p
invariant-loop-p l = (l.crc < 2 ^ 32) × (l.crc ≡ after l.state (take (l.p-index * 16) l.s))

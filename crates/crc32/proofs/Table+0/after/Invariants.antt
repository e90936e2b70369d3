-- The register is the state after the words before the index, and then after the bytes before it.
use Rattle.std.proofs.Common.{◌≡◌, ◌+◌, ◌*◌, ◌/◌, ◌^◌, ◌<◌, length, take}
use Rattle.crc32.specs.Crc32.{after}
use Rattle.crc32.proofs.Table+0.after.Given as goal

abbrev pub invariant-loop-w : goal.invariant-loop-w
invariant-loop-w l = (l.crc < 2 ^ 32) × (l.crc ≡ after l.state (take (l.w-index * 8) l.s))

abbrev pub invariant-loop-b : goal.invariant-loop-b
invariant-loop-b l = (l.crc < 2 ^ 32) × (l.crc ≡ after l.state (take (length l.s / 8 * 8 + l.b-index) l.s))

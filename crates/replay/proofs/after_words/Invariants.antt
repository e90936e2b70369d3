-- What is left, taken in after the register's state, is all of the words taken in.
use Rattle.std.proofs.Common.{◌≡◌, ◌^◌, ◌<◌}
use Rattle.std.specs.Slice.Iter.{chunks_rest, chunks_size}
use Rattle.crc32.specs.Crc32.{after}
use Rattle.model.specs.Checkpoint.{words}
use Rattle.replay.proofs.after_words.Given as goal

abbrev pub invariant-loop-part : goal.invariant-loop-part
invariant-loop-part l = record {
  size : chunks_size l.part-iterator ≡ 2048;
  fits : l.crc < 2 ^ 32;
  left : after l.crc (words (chunks_rest l.part-iterator)) ≡ after l.state (words l.ws);
}

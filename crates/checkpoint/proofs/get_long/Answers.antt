-- `get_long` meets its contract: the library reads the long word of the bytes.
use Rattle.std.proofs.Common.{w64, ap, ◌∙◌}
use native.Mathlib.Nat.{add-sub_cancel_left}
use Rattle.std.specs.Int.{from_le_bytes}
use Rattle.model.specs.Tables.{region}
use Rattle.checkpoint.proofs.Bytes.{long_read}
use Rattle.checkpoint.proofs.get_long.Goals as goal

pub returns : goal.returns
returns c =
    let a = c.args in
    let e = c.copy_from_slice.ensures.after ∙ ap (λ k. region a.at k a.s.now) (add-sub_cancel_left a.at 8) in
    c.from_le_bytes.ensures ∙ ap (from_le_bytes w64) e ∙ long_read a.s.now a.at

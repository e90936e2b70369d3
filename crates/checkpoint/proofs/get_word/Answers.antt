-- `get_word` meets its contract: the library reads the word of the bytes.
use Rattle.std.proofs.Common.{w32, ap, ◌∙◌}
use native.Mathlib.Nat.{add-sub_cancel_left}
use Rattle.std.specs.Int.{from_le_bytes}
use Rattle.model.specs.Tables.{region}
use Rattle.checkpoint.proofs.Bytes.{word_read}
use Rattle.checkpoint.proofs.get_word.Goals as goal

pub returns : goal.returns
returns c =
    let a = c.args in
    let e = c.copy_from_slice.ensures.after ∙ ap (λ k. region a.at k a.s.now) (add-sub_cancel_left a.at 4) in
    c.from_le_bytes.ensures ∙ ap (from_le_bytes w32) e ∙ word_read a.s.now a.at

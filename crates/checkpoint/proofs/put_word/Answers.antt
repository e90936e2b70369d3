-- `put_word` meets its contract: the library's bytes are the word's.
use Rattle.std.proofs.Common.{◌+◌, ap, ◌∙◌, arith}
use Rattle.model.specs.Lists.{splice}
use Rattle.checkpoint.proofs.Bytes.{word_is}
use Rattle.checkpoint.proofs.Lay.{lay_part}
use Rattle.checkpoint.proofs.put_word.Goals as goal

pub returns : goal.returns
returns c =
    let a = c.args in
    let e = c.copy_from_slice.ensures.after ∙ c.to_le_bytes.ensures ∙ word_is a.x in
    lay_part a.d.now c.copy_from_slice.new.self a.at (a.at + 4) (omega arith) ∙ ap (λ b. splice a.at b a.d.now) e

-- `after_part` meets its contract: what is laid in at the front is what the CRC is taken over.
use Rattle.std.proofs.Common.{take, ap, ap₂, ◌∙◌, sym}
use Rattle.crc32.specs.Crc32.{after}
use Rattle.model.specs.Checkpoint.{words}
use Rattle.model.proofs.Bytes.{length-words}
use Rattle.model.proofs.Sealed.{take_spliced}
use Rattle.replay.proofs.after_part.Goals as goal

pub returns : goal.returns
returns c =
    let ws = c.args.ws.now in
    c.update.ensures
    ∙ ap (after c.args.state) (ap₂ take (sym (length-words ws)) c.put_words.ensures ∙ take_spliced (words ws) _)

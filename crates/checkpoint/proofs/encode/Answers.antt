-- `encode` meets its contract: the body is laid in, the head before it, the sum between them.
use Rattle.std.proofs.Common.{◌≡◌, ◌≤◌, ◌+◌, ◌*◌, length, take, ap, ◌∙◌, arith}
use lib.Seq.{length-take-le}
use Rattle.model.specs.Lists.{splice}
use Rattle.model.specs.Tables.{at, o_alloc}
use Rattle.checkpoint.proofs.Encoded.{encoded, body_is}
use Rattle.checkpoint.proofs.encode.Goals as goal

pub returns : goal.returns
returns c u =
    let G = c.args.geo in
    let w = c.args.tab.now in
    let d = c.args.buffer.now in
    let body = take (G.e + G.n) w in
    let long : length body ≡ G.e + G.n = length-take-le (G.e + G.n) w (omega (arith, c.requires.tab_len.0)) in
    let size : c.file_size-size.result ≡ 44 + 4 * length body = omega (arith, c.file_size-size.ensures) in
    let fits : 44 + 4 * length body ≤ length d = omega (arith, c.requires.tab_len.1) in
    c.put_word.ensures
    ∙ encoded G (at w (o_alloc G)) body d fits c.put_words.new.d c.put_head.new.d c.put_words.ensures c.put_head.ensures c.file_size-size.result
    c.file_crc-crc.result
    size
    c.file_crc-crc.ensures
    ∙ ap (λ z. splice 0 z d) (body_is G w u)

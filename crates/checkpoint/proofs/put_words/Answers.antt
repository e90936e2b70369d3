-- `put_words` meets its contract: the words passed are laid in.
use Rattle.std.proofs.Common.{◌∙◌, arith}
use Rattle.checkpoint.proofs.Lay.{put_none, put_more, put_end}
use Rattle.checkpoint.proofs.put_words.Goals as goal

pub loop-i-init : goal.loop-i-init
loop-i-init c = put_none c.args.d.now c.args.at c.args.ws.now

pub loop-i-preserved : goal.loop-i-preserved
loop-i-preserved c =
    c.put_word.ensures ∙ put_more c.args.d.now c.args.ws.now c.args.at c.loop-i.i c.loop-i.invariant c.loop-i-test.true (omega arith)

pub returns : goal.returns
returns c = put_end c.args.d.now c.args.ws.now c.args.at c.loop-i.i c.loop-i.invariant (omega arith)

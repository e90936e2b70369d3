-- `get_words` meets its contract: the words read are in front.
use Rattle.std.proofs.Common.{refl, arith}
use lib.Seq.{length-take-le}
use Rattle.model.specs.Checkpoint.{words_at}
use Rattle.checkpoint.proofs.Lay.{get_more, get_end}
use Rattle.checkpoint.proofs.get_words.Goals as goal

pub loop-i-init : goal.loop-i-init
unfolding words_at
loop-i-init c = refl

pub loop-i-preserved : goal.loop-i-preserved
loop-i-preserved c =
    get_more c.args.s.now c.loop-i.x-items c.args.at c.loop-i.i c.loop-i.invariant (omega arith) c.get_word.ensures

pub returns : goal.returns
returns c =
    let a = c.args in
    let n = length-take-le a.k a.d.now c.requires.0 in
    get_end a.s.now c.loop-i.x-items a.at c.loop-i.i c.loop-i.invariant a.d.now a.k (omega arith) (omega arith)

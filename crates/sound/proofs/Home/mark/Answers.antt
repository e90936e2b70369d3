-- An entry that passes the tests is right, and its page's mark is set.
use Rattle.std.proofs.Common.{◌∙◌, arith, below_more}
use Rattle.std.proofs.Math.Seq.{drop-set-lt}
use Rattle.sound.proofs.Marked.{marked_more}
use Rattle.sound.proofs.Passed.{Entry, page_key}
use Rattle.sound.proofs.Home.mark.Goals as goal

pub loop-l-preserved : goal.loop-l-preserved
loop-l-preserved c =
    let h = c.args.self.now in
    let list = c.args.list.now in
    let i = c.loop-l.l-index in
    let seen = c.loop-l.seen in
    let before = c.loop-l.invariant in
    let key = page_key list h.map.now h.first in
    record {
      kept = drop-set-lt h.used seen (key i) 1 (omega arith) ∙ before.kept;
      each = below_more (Entry list h.map.now h.first h.used) i before.each (omega arith);
      marked = marked_more key i seen before.marked (omega arith) c.if-seen-k-ne0.false;
    }

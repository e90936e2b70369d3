-- The words in use come back with g in front, and behind them are zeros: `push_alone`.
use Rattle.std.proofs.Common.{◌≡◌, ◌+◌, ◌++◌, drop, ap, ◌∙◌}
use Rattle.model.specs.Lists.{push_front}
use Rattle.page_map.proofs.Parts.{push_alone}
use Rattle.page_map.proofs.enqueue.Goals as goal

pub returns-clause-queued : goal.returns-clause-queued
returns-clause-queued c =
    let t = c.args.t.now in
    let k = t.queued.now in
    let R = c.requires.room.1 in
    let whole : c.push_front.new.queue ++ drop (k + 1) t.queue.now ≡ push_front c.args.g t.queue.now =
    ap (λ r. r ++ drop (k + 1) t.queue.now) c.push_front.ensures ∙ push_alone c.args.g k t.geo.n t.queue.now t.queue_len R.some R.blank in
    rw whole

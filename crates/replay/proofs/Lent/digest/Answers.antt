-- `digest` meets its contract: each part is taken in after those before it.
use Rattle.std.proofs.Common.{ℕ, ◌-◌, sym, ap, ◌∙◌}
use Rattle.crc32.proofs.Laws.{crc_after}
use Rattle.model.specs.Checkpoint.{long, words}
use Rattle.replay.proofs.Joined.{Taken, more}
use Rattle.replay.proofs.Lent.digest.Goals as goal

pub returns : goal.returns
returns c =
    let l = c.args.self.now in
    let tab : Taken (words l.tab.now) c.after_words-tab.result = record { is = c.after_words-tab.ensures } in
    let used = more tab l.used.now c.update-used.ensures in
    let bytes = more used l.bytes.now c.update-bytes.ensures in
    let marks = more bytes l.marks.now c.update-marks.ensures in
    let counts = more marks (words l.counts.now) c.after_words-counts.ensures in
    let fuse = more counts (long l.fuse.now) c.after_fuse-fuse.ensures in
    let bad = more fuse l.bad.now c.update-bad.ensures in
    let buffer = more bad l.buffer.now c.update-buffer.ensures in
    let page = more buffer l.page.now c.update-page.ensures in
    let seen = more page l.seen.now c.update-seen.ensures in
    let order = more seen (words l.order.now) c.after_words-order.ensures in
    let taken = more order l.taken.now c.update.ensures in
    ap (λ (x : ℕ). 4294967295 - x) taken.is ∙ sym (crc_after _)

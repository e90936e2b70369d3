-- `blank` is the test of every element.
use Rattle.std.proofs.Common.{◌∙◌}
use Rattle.sound.proofs.Counts.{all_blank}
use Rattle.sound.proofs.blank.Goals as goal

pub returns : goal.returns
returns c = c.every.ensures ∙ all_blank c.args.s.now

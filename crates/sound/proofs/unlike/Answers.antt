-- One is summed for each word that is not v, so the sum is no more than there are words.
use Rattle.std.proofs.Common.{rules, tests, arith}
use Rattle.std.proofs.lemmas.Iterator.{YieldsList-from_slice}
use Rattle.std.proofs.lemmas.Iterator.Adapters.{fits_from_length, at_most_from_yields_List}
use Rattle.sound.proofs.Counts.{unlike_sum}
use Rattle.sound.proofs.unlike.Goals as goal

pub sum-requires-clause-fits : goal.sum-requires-clause-fits
sum-requires-clause-fits c =
    fits_from_length _ _ 4294967295 _ (at_most_from_yields_List (YieldsList-from_slice c.args.s.now cc) (omega arith)) c.map.ensures.closure (omega arith)
    (λ x r q k. search (rules, tests))

pub returns : goal.returns
returns c = search (rules, unlike_sum)

-- `up_to` meets its contract: the words are tested one by one.
use Rattle.std.proofs.Common.{◌+◌, ◌*◌, leb, ap, ◌∙◌, refl, rules, arith}
use borrow.Author.Tests.{tests}
use Rattle.std.proofs.lemmas.Iterator.{YieldsList-from_range}
use Rattle.std.proofs.lemmas.Iterator.Search.{all_from_yields_List}
use Rattle.model.specs.Lists.{up_to}
use Rattle.model.specs.Checkpoint.{word_at, words_at}
use Rattle.checkpoint.proofs.Lay.{up_to_tests}
use Rattle.checkpoint.proofs.up_to.Goals as goal

pub returns : goal.returns
returns c =
    let a = c.args in
    let s = a.s.now in
    all_from_yields_List (λ i. leb (word_at s (a.at + 4 * i)) a.p) _ _ _ c.all.ensures.ran (YieldsList-from_range 0 a.k a.k refl (omega arith))
    (λ x b q h. search (rules, tests))
    ∙ up_to_tests a.p a.k s a.at 0
    ∙ ap (λ j. up_to a.p (words_at a.k s j)) (omega arith)

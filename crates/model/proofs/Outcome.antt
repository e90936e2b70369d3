-- One outcome: a promise that everything lent and the answer are what a definition says leaves no room for two.
use mathlib.Core.Path.{◌≡◌, sym, ap, ◌∙◌}
use lib.IntN.{ℤ}
use Rattle.model.specs.Numbers.{Answer, number}
use Rattle.model.specs.declared.Numbers.{Numbers}
use Rattle.model.specs.Entry.{Lent, Outcome, Answered, PromiseIn}

-- an answer told as a number, under either choice
pub told_in : (N : Numbers) {o : Outcome} {x : Lent} {a : Answer} → Answered o x a → PromiseIn N o x (number N a)
told_in N p = record { left_is = p.left_is; answer_is = ap (number N) p.answer_is }

pub one_outcome : {N : Numbers} {o : Outcome} {x x' : Lent} {r r' : ℤ} → PromiseIn N o x r → PromiseIn N o x' r' → (x ≡ x') × (r ≡ r')
one_outcome p q = (p.left_is ∙ sym q.left_is, p.answer_is ∙ sym q.answer_is)

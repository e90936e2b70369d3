-- `do_record` meets its contract: a record that is found at a place ends behind it, and the bytes of a write stand in the trace.
use Rattle.std.proofs.Common.{ℕ, ◌<◌, ◌≡◌, List, Some, arith, sym, subst}
use Rattle.std.proofs.lemmas.Grind.{common_steps}
use Rattle.model.specs.Lists.{splice}
use Rattle.records.specs.declared.Record.{Record}
use Rattle.records.specs.Trace.{Within, next_record}
use Rattle.records.proofs.Places.{Placed, record_placed}
use Rattle.deeds.proofs.do_record.Goals as goal

found : (xs : List ℕ) (at : ℕ) {e : Record} {next : ℕ} → Some (e, next) ≡ next_record xs at → (at < next) × Within xs e
found xs at q = subst (Placed xs at) (sym q) (record_placed xs at)

pub perform-answer-requires : goal.perform-answer-requires
perform-answer-requires c = (found c.args.xs.now c.args.at c.in_ok-rec.ensures).1

pub returns-clause-ahead : goal.returns-clause-ahead
unfolding splice
returns-clause-ahead c =
    let line = c.put_line-length.ensures in
    ((found c.args.xs.now c.args.at c.in_ok-rec.ensures).0, grind (arith, common_steps, line.length, line.laid))

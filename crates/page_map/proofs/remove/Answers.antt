-- By where x stands: `without_at`; and it stands somewhere.
use Rattle.std.proofs.Common.{ℕ, ◌≡◌, ◌≢◌, ◌<◌, length, get_or, ◌∙◌, sym, arith, rules}
use Rattle.model.proofs.Counts.{occ_index}
use Rattle.page_map.proofs.Parts.{without_at}
use Rattle.page_map.proofs.remove.Goals as goal

pub returns-in-Some : goal.returns-in-Some
returns-in-Some c = c.close_up.ensures ∙ sym (without_at c.args.x c.args.slot.now c.in-Some.i c.requires (search rules) (search rules))

pub returns-in_default : goal.returns-in_default
returns-in_default c =
    let s = c.args.slot.now in
    let none : (k : ℕ) → k < length s → get_or s k 0 ≢ c.args.x = search rules in
    let some : (i : ℕ) × (i < length s) × (get_or s i 0 ≡ c.args.x) = occ_index c.args.x 0 s (omega arith) in
    absurd (none some.0 some.1 some.2)

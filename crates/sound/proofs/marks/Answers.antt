-- The front is all ones, the rest all zeros.
use Rattle.std.proofs.Common.{ℕ, ◌-◌, ◌≤◌, List, length, take, arith}
use Rattle.model.specs.Tables.{region}
use Rattle.sound.specs.Steps.{Every, Marks}
use Rattle.sound.proofs.Says.{says_iff, says_not}
use Rattle.sound.proofs.Counts.{every_says, part_each, each_part}
use Rattle.sound.proofs.marks.Goals as goal

module _ (used : List ℕ) (u : ℕ) (h : u ≤ length used) where
  rest : Marks used u → Every 0 (region u (length used - u) used)
  rest m = each_part 0 used u (length used - u) (omega arith) (λ k a l. m.none k a (omega arith))

  front : Marks used u → Every 1 (take u used)
  front m = each_part 1 used 0 u (omega arith) (λ k a l. m.ones k (omega arith))

  both : Every 1 (take u used) → Every 0 (region u (length used - u) used) → Marks used u
  both ones none =
      record {
        ones = λ k l. part_each 1 used 0 u (omega arith) ones k (omega arith) (omega arith);
        none = λ k a l. part_each 0 used u (length used - u) (omega arith) none k a (omega arith);
      }

pub returns-then-every : goal.returns-then-every
returns-then-every c =
    let s = c.args.used.now in
    let u = c.args.u in
    says_iff c.every-then-every.result (both s u c.requires (every_says 1 (take u s) _ c.if-every.ensures)) (rest s u c.requires)
    (every_says 0 (region u (length s - u) s) _ c.every-then-every.ensures)

pub returns-else-every : goal.returns-else-every
returns-else-every c =
    let s = c.args.used.now in
    let u = c.args.u in
    says_not _ c.if-every.false (λ m. every_says 1 (take u s) _ c.if-every.ensures (front s u c.requires m))

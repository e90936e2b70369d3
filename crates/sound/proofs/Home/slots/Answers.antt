-- The slots behind are all zeros, and those in front as `listed` says; where there are none, nothing is left to show.
use Rattle.std.proofs.Common.{ℕ, ◌-◌, ◌≤◌, ◌≡◌, List, length, take, sym, subst, arith}
use borrow.Author.Tests.{eq-eqb}
use Rattle.model.specs.Tables.{region}
use Rattle.sound.specs.Steps.{Every, Entries, Slots}
use Rattle.sound.proofs.Says.{says_iff, says_holds, says_not}
use Rattle.sound.proofs.Counts.{every_says, part_each, each_part}
use Rattle.sound.proofs.Home.slots.Goals as goal

module _ (list : List ℕ) (len : ℕ) (map : List ℕ) (first u : ℕ) (h : len ≤ length list) where
  both : Every 0 (region len (length list - len) list) → Entries (take len list) map first u → Slots list len map first u
  both none es =
      record {
        past = λ i a l. part_each 0 list len (length list - len) (omega arith) none i a (omega arith);
        entries = es;
      }

  rest : Slots list len map first u → Every 0 (region len (length list - len) list)
  rest s = each_part 0 list len (length list - len) (omega arith) (λ i a l. s.past i a (omega arith))

  empty : len ≡ 0 → Entries (take len list) map first u
  empty e =
      subst (λ k. Entries (take k list) map first u) (sym e)
      record {
        within = λ i l. absurd (omega arith);
        above = λ i l. absurd (omega arith);
        below = λ i l. absurd (omega arith);
        apart = λ i j l m q. absurd (omega arith);
      }

pub returns-else-len-eq0-clause-says : goal.returns-else-len-eq0-clause-says
returns-else-len-eq0-clause-says c =
    let a = c.args in
    let s = a.list.now in
    says_iff c.listed.result
    (both s a.len a.self.now.map.now a.self.now.first a.self.now.used c.requires.len_in_bounds
    (every_says 0 (region a.len (length s - a.len) s) _ c.if-every.ensures))
    (λ x. x.entries)
    c.listed.ensures.says

pub returns-else-every-clause-says : goal.returns-else-every-clause-says
returns-else-every-clause-says c =
    let a = c.args in
    let s = a.list.now in
    says_not _ c.if-every.false
    (λ x.
    every_says 0 (region a.len (length s - a.len) s) _ c.if-every.ensures
    (rest s a.len a.self.now.map.now a.self.now.first a.self.now.used c.requires.len_in_bounds x))

pub returns-then-len-eq0-clause-says : goal.returns-then-len-eq0-clause-says
returns-then-len-eq0-clause-says c =
    let a = c.args in
    let s = a.list.now in
    says_holds _ (eq-eqb _ _ c.if-len-eq0.true)
    (both s a.len a.self.now.map.now a.self.now.first a.self.now.used c.requires.len_in_bounds
    (every_says 0 (region a.len (length s - a.len) s) _ c.if-every.ensures)
    (empty s a.len a.self.now.map.now a.self.now.first a.self.now.used c.requires.len_in_bounds c.if-len-eq0.true))

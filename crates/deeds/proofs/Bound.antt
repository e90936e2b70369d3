-- The bound of `lines` is never reached: any two bounds above the number of bytes left give the same lines.
use Prim.Native.Nat.{ℕ, zero, suc, ◌-◌, ◌<◌}
use mathlib.Core.Path.{◌≡◌, refl, ap}
use mathlib.Core.Bool.{Bool, true, false, cond}
use mathlib.Core.List.{List, ◌++◌}
use native.Mathlib.Omega.{arith}
use lib.Dec.{ltb}
use lib.ListN.{length, take}
use borrow.Author.Tests.{ltb-true}
use Rattle.model.specs.declared.Geometry.{Geometry}
use Rattle.std.proofs.Common.{Option, Some, None, Ok}
use Rattle.records.specs.declared.Record.{Record}
use Rattle.records.specs.Trace.{next_record}
use Rattle.records.proofs.Places.{Placed, record_placed}
use Rattle.deeds.specs.Deeds.{Kept, kept_after, line_after}
use Rattle.deeds.specs.Output.{fresh, turn, lines, said}

-- two ways to go on agree if they do where the test holds
agree : (a b : ℕ) (on on' last : List ℕ) → (a < b → on ≡ on') → cond (ltb a b) on last ≡ cond (ltb a b) on' last
agree a b on on' last same = go (ltb a b) refl
  where
    go : (t : Bool) → ltb a b ≡ t → cond t on last ≡ cond t on' last
    go true e = same (ltb-true a b e)
    go false e = refl

module _ (G : Geometry) (bad xs : List ℕ) where
  -- a turn goes on behind its place only
  turn-goes-on
      : (at : ℕ) (k : Kept) (x : Option (Record × ℕ)) (f g : ℕ → Kept → List ℕ)
      → Placed xs at x
      → ((next : ℕ) (k : Kept) → at < next → f next k ≡ g next k)
      → turn G bad xs k x f ≡ turn G bad xs k x g
  turn-goes-on at k None f g p h = refl
  turn-goes-on at k (Some (e, next)) f g p h = ap (λ rest. line_after G bad xs k e ++ rest) (h next (kept_after G bad xs k e) p.0)

  -- the bytes left are `length xs - at`; each record takes one of them at least
  pub bound_enough
      : (left left' at : ℕ) (k : Kept)
      → length xs - at < left
      → length xs - at < left'
      → lines G bad xs left at k ≡ lines G bad xs left' at k
  unfolding lines
  bound_enough zero left' at k h h' = absurd (omega arith)
  bound_enough (suc left) zero at k h h' = absurd (omega arith)
  bound_enough (suc left) (suc left') at k h h' =
      agree at (length xs) _ _ _ λ inside.
      turn-goes-on at k (next_record xs at) (lines G bad xs left) (lines G bad xs left') (record_placed xs at) λ next k' further.
      bound_enough left left' next k' (omega arith) (omega arith)

-- so all that follows a header is the same for every bound above the trace's length
pub any-bound
    : (xs marks : List ℕ) (G : Geometry) (first bound : ℕ)
    → length xs < bound
    → let bad = take G.n marks in said xs (Ok (G, first)) marks ≡ lines G bad xs bound first (fresh G bad xs)
any-bound xs marks G first bound h =
    let bad = take G.n marks in
    bound_enough G bad xs (suc (length xs)) bound first (fresh G bad xs) (omega arith) (omega arith)

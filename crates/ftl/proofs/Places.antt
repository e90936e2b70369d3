-- The place of a sector: what `within` answered, and a call refused by it.
use Prim.Native.Nat.{ℕ, ◌+◌, ◌<◌, ◌≤◌}
use native.Mathlib.Nat.{mod-lt}
use native.Mathlib.Omega.{arith}
use mathlib.Core.Path.{◌≡◌, refl}
use mathlib.Core.Bool.{Bool, true, false, cond, ◌&&◌}
use lib.Dec.{ltb, leb}
use borrow.Author.Tests.{ltb-true, leb-true}
use Rattle.std.specs.Prelude.{Result}
use Rattle.model.specs.declared.Geometry.{Geometry}
use Rattle.model.specs.declared.LogicalPage.{LogicalPage}
use Rattle.model.specs.declared.Cause.{Cause}
use Rattle.model.specs.declared.Cause.TheVariants.{Wrong}
use Rattle.model.specs.Numbers.{Ok, Err, logical_page, offset}
use Rattle.model.specs.Entry.{Lent, Outcome, refused, guarded}
use Rattle.model.proofs.Refusals.{guarded_page, guarded_overrun}
use Rattle.ftl.specs.Tests.{within}

pub guarded_place : (a b c d : Bool) (x : Lent) (o : Outcome) → a ≡ true → b ≡ true → (c && d) ≡ false → guarded a b c d x o ≡ refused Wrong x
guarded_place a b false d x o p q e = guarded_page a b false d x o p q refl
guarded_place a b true d x o p q e = guarded_overrun a b true d x o p q refl e

abbrev pub inside? : Geometry → (sector : ℕ) → Bool
inside? G sector = ltb (logical_page G sector) G.e

abbrev pub room? : Geometry → (sector len : ℕ) → Bool
room? G sector len = leb (offset G sector + len) G.s

-- the offset lies in the page
pub offset_lt : (G : Geometry) (sector : ℕ) → 0 < G.s → offset G sector < G.s
offset_lt G sector h = mod-lt sector h

module _ (G : Geometry) (sector len : ℕ) where
  abbrev place : LogicalPage × ℕ
  place = (record { 0 = logical_page G sector }, offset G sector)

  abbrev answer : Bool → Result (LogicalPage × ℕ) Cause
  answer b = cond b (Ok place) (Err Wrong)

  -- what the place says when it lies inside
  pub record Placed (l : LogicalPage) (off : ℕ) : Type 0 where
    pub inside : inside? G sector ≡ true
    pub room : room? G sector len ≡ true
    pub page_is : l.0 ≡ logical_page G sector
    pub offset_is : off ≡ offset G sector
    pub page< : l.0 < G.e
    pub end≤ : off + len ≤ G.s

  pub placed : (r : LogicalPage × ℕ) → Ok r ≡ within G sector len → Placed r.0 r.1
  placed r = go (inside? G sector) (room? G sector len) refl refl
    where
      go : (a b : Bool) → inside? G sector ≡ a → room? G sector len ≡ b → Ok r ≡ answer (a && b) → Placed r.0 r.1
      go true true p q e =
          let z : r ≡ place = cc in
          rw z (record { inside = p; room = q; page_is = refl; offset_is = refl; page< = ltb-true _ _ p; end≤ = leb-true _ _ q })
      go true false p q e = absurd (let z : ◌≡◌ {A = ℕ} 0 1 = cc in omega arith)
      go false b p q e = absurd (let z : ◌≡◌ {A = ℕ} 0 1 = cc in omega arith)

  pub misplaced : (c : Cause) → Err c ≡ within G sector len → ((inside? G sector && room? G sector len) ≡ false) × (c ≡ Wrong)
  misplaced c = go (inside? G sector && room? G sector len) refl
    where
      go : (b : Bool) → (inside? G sector && room? G sector len) ≡ b → Err c ≡ answer b → ((inside? G sector && room? G sector len) ≡ false) × (c ≡ Wrong)
      go false p e = (p, cc)
      go true p e = absurd (let z : ◌≡◌ {A = ℕ} 0 1 = cc in omega arith)

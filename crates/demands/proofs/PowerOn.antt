-- At power on, before the file is restored: every call that does no device operation may be made. So a read, an encoding, and a restore of any
-- file that is refused.
use Prim.Native.Nat.{ℕ}
use mathlib.Core.Path.{◌≡◌, sym, subst}
use mathlib.Core.Logic.{inr}
use mathlib.Core.List.{List, []}
use Rattle.model.specs.declared.Geometry.{Geometry}
use Rattle.model.specs.Entry.{Recorder, lent}
use Rattle.model.specs.declared.Queueing.{Queueing}
use Rattle.model.specs.History.{Call, Format, Open, Read, Write, Collect, CollectList, CollectThreshold, Encode, Restore, run, after, map_in, Spares, IsRefused}
use Rattle.model.specs.History.{Keeps, lost, Since, called}
use Rattle.model.proofs.Entry.{read_unit, encoding_unit, restored-flash}

module _ {G : Geometry} {bad : List ℕ} {r₀ : Recorder} {file : List ℕ} {r : Recorder} (h : Since G bad r₀ file lost r) where
  pub powered : (c : Call) → (run G bad c r).ops ≡ [] → Keeps file c (run G bad c r).answer → Since G bad r₀ file lost (after G bad c r)
  powered c q k = called h c (inr q) k (subst (Spares G (map_in G r₀)) (sym q) tt)

  -- a call's kind
  abbrev IsOpen : Call → Type 0
  IsOpen Open = Unit {0}
  IsOpen Format = ⊥
  IsOpen (Read sector len o s) = ⊥
  IsOpen (Write sector len d s) = ⊥
  IsOpen (Collect s) = ⊥
  IsOpen (CollectList m s) = ⊥
  IsOpen (CollectThreshold t m s) = ⊥
  IsOpen (Encode b s) = ⊥
  IsOpen (Restore q b s) = ⊥

  abbrev IsRestore : Call → Type 0
  IsRestore (Restore q b s) = Unit {0}
  IsRestore Open = ⊥
  IsRestore Format = ⊥
  IsRestore (Read sector len o s) = ⊥
  IsRestore (Write sector len d s) = ⊥
  IsRestore (Collect s) = ⊥
  IsRestore (CollectList m s) = ⊥
  IsRestore (CollectThreshold t m s) = ⊥
  IsRestore (Encode b s) = ⊥

  pub powered_read : (sector len : ℕ) (o : List ℕ) (s : List (List ℕ)) → Since G bad r₀ file lost (after G bad (Read sector len o s) r)
  powered_read sector len o s =
      powered (Read sector len o s) (read_unit G sector len (lent r o s)).1
      (record { no_opening = λ e. absurd (subst IsOpen (sym e) tt); no_other = λ q b t e. absurd (subst IsRestore (sym e) tt) })

  pub powered_encode : (b : List ℕ) (s : List (List ℕ)) → Since G bad r₀ file lost (after G bad (Encode b s) r)
  powered_encode b s =
      powered (Encode b s) (encoding_unit G (lent r b s)).1
      (record { no_opening = λ e. absurd (subst IsOpen (sym e) tt); no_other = λ q c t e. absurd (subst IsRestore (sym e) tt) })

  pub powered_restore : (q : Queueing) (b : List ℕ) (s : List (List ℕ)) → IsRefused (run G bad (Restore q b s) r).answer → Since G bad r₀ file lost (after G bad (Restore q b s) r)
  powered_restore q b s n =
      powered (Restore q b s) (restored-flash G bad q b s r).1
      (record { no_opening = λ e. absurd (subst IsOpen (sym e) tt); no_other = λ _ c t e. inr n })

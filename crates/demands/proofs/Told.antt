-- 02, M-101, of the functions that run: the new numbers beside the old, and what they tell. Each premise `PromiseIn …` is the `ensures` of the C name of
-- a write or a collection under that choice, and follows from that of crates/ftl, as in Demands; the other calls have one number under both (`one_number`).
use Prim.Native.Nat.{ℕ, zero, suc, ◌≤◌}
use native.Mathlib.Omega.{arith}
use mathlib.Core.Path.{◌≡◌, refl, sym, ap, ◌∙◌, subst}
use mathlib.Core.Logic.{◌⊎◌, inl, inr, ◌≢◌}
use mathlib.Core.Bool.{Bool, true, false, cond}
use mathlib.Core.List.{List, []}
use lib.Dec.{eqb}
use lib.IntN.{ℤ, pos, negsuc}
use borrow.Author.Tests.{eqb-true}
use Rattle.model.specs.declared.Geometry.{Geometry}
use Rattle.model.specs.declared.Numbers.TheVariants.{Old, New}
use Rattle.model.specs.Numbers.{Answer}
use Rattle.model.specs.Numbers.{Ok, Err}
use Rattle.model.specs.declared.Cause.TheVariants.{Wrong, Unsound, Unmapped, NoRoom, Device, CopyNoRoom, CopyDevice, Erase, Reason}
use Rattle.model.specs.Numbers.{endless, number, as_old}
use Rattle.model.specs.Causes.{kind_of, ByCopy}
use Rattle.model.specs.Checkpoint.{reason_of}
use Rattle.model.specs.Entry.{Recorder, Lent, lent, Outcome, PromiseIn, state_of, formatting, opening, read, encoding, restoring}
use Rattle.model.specs.History.{Call, Format, Open, Read, Write, Collect, CollectList, CollectThreshold, Encode, Restore}
use Rattle.model.specs.History.{lit, run, InService, OnlyFuse}
use Rattle.model.proofs.Guard.{guarded_by, unless_by}
use Rattle.model.proofs.Causes.{reasons_in}
use Rattle.model.proofs.Told.{read_as_old}
use Rattle.demands.specs.Given.{Exactly}
use Rattle.demands.specs.When.{DeedWhen, When}
use Rattle.demands.proofs.Exactly.{answers_of}
use Rattle.demands.proofs.Signs.{Fair, fair, unlike, unlike_count}
use Rattle.demands.proofs.Unchanged.{formats_all}
use Rattle.demands.proofs.Served.{fuse_alone, never_refused}

-- the answers that have a number of the new choice: -28 room, a write's or a copy's; -121 a copy at the device; -14 none
record Tells (a : Answer) (z : ℤ) : Type 0 where
  room : z ≡ negsuc 27 → (a ≡ Err NoRoom) ⊎ (a ≡ Err CopyNoRoom)
  device : z ≡ negsuc 120 → a ≡ Err CopyDevice
  neither : z ≢ negsuc 13

others : (a : Answer) (k : ℕ) → k ≢ 27 → k ≢ 120 → k ≢ 13 → Tells a (negsuc k)
others a k x y z = record { room = unlike k 27 x; device = unlike k 120 y; neither = unlike k 13 z }

reason_tells : (r : ℕ) → (1 ≤ r) × (r ≤ 9) → Tells (Err (Reason r)) (number New (Err (Reason r)))
reason_tells zero h = absurd (omega (arith, h.0))
reason_tells (suc k) h = others (Err (Reason (suc k))) k (omega (arith, h.1)) (omega (arith, h.1)) (omega (arith, h.1))

tells : (a : Answer) → Fair a → Tells a (number New a)
tells (Ok m) h = record { room = unlike_count m 27; device = unlike_count m 120; neither = unlike_count m 13 }
tells (Err NoRoom) h = record { room = λ _. inl refl; device = unlike 27 120 (omega arith); neither = unlike 27 13 (omega arith) }
tells (Err CopyNoRoom) h = record { room = λ _. inr refl; device = unlike 27 120 (omega arith); neither = unlike 27 13 (omega arith) }
tells (Err CopyDevice) h = record { room = unlike 120 27 (omega arith); device = λ _. refl; neither = unlike 120 13 (omega arith) }
tells (Err Wrong) h = others _ 21 (omega arith) (omega arith) (omega arith)
tells (Err Unsound) h = others _ 116 (omega arith) (omega arith) (omega arith)
tells (Err Unmapped) h = others _ 60 (omega arith) (omega arith) (omega arith)
tells (Err Device) h = others _ 4 (omega arith) (omega arith) (omega arith)
tells (Err Erase) h = others _ 4 (omega arith) (omega arith) (omega arith)
tells (Err (Reason r)) h = reason_tells r h

-- read as 14, and not 14
as_14 : (z : ℤ) → as_old z ≡ negsuc 13 → z ≢ negsuc 13 → (z ≡ negsuc 27) ⊎ (z ≡ negsuc 120)
as_14 (pos m) e n = unlike_count m 13 e
as_14 (negsuc k) e n = go (eqb k 27) refl (eqb k 120) refl e
  where
    go : (a : Bool) → eqb k 27 ≡ a → (b : Bool) → eqb k 120 ≡ b → cond a (negsuc 13) (cond b (negsuc 13) (negsuc k)) ≡ negsuc 13
        → (negsuc k ≡ negsuc 27) ⊎ (negsuc k ≡ negsuc 120)
    go true p b q e = inl (ap negsuc (eqb-true k 27 p))
    go false p true q e = inr (ap negsuc (eqb-true k 120 q))
    go false p false q e = absurd (n e)

abbrev OfCopy : Answer → Type 0
OfCopy (Ok m) = ⊥
OfCopy (Err c) = ByCopy (kind_of c)

-- the calls that are handed no choice
abbrev pub Untold : Call → Type 0
Untold Format = Unit {0}
Untold Open = Unit {0}
Untold (Read sector len o s) = Unit {0}
Untold (Encode b s) = Unit {0}
Untold (Restore q b s) = Unit {0}
Untold (Write sector len d s) = ⊥
Untold (Collect s) = ⊥
Untold (CollectList m s) = ⊥
Untold (CollectThreshold t m s) = ⊥

module _ (G : Geometry) (bad : List ℕ) where
  -- "under the new one answers equal the old after 28 and 121 are read as 14", and all that was lent is left the same
  pub told_apart : (c : Call) (r : Recorder) {x x' : Lent} {z z' : ℤ} → PromiseIn Old (run G bad c r) x z → PromiseIn New (run G bad c r) x' z'
      → (x' ≡ x) × (as_old z' ≡ z)
  told_apart c r P Q = (
    Q.left_is ∙ sym P.left_is,
    ap as_old Q.answer_is ∙ read_as_old (run G bad c r).answer (reasons_in (λ k p. omega (arith, p.1)) (run G bad c r).answer (fair G bad c r)) ∙ sym P.answer_is,
  )

  module _ (c : Call) (r : Recorder) {x : Lent} {z : ℤ} (P : PromiseIn New (run G bad c r) x z) where
    means : Tells (run G bad c r).answer z
    means = subst (Tells (run G bad c r).answer) (sym P.answer_is) (tells (run G bad c r).answer (fair G bad c r))

    -- -28 exactly when a write, or a copy, finds no segment outside the bad list with a free page
    pub full_told : Exactly (z ≡ negsuc 27) (When G bad c r (Err NoRoom) ⊎ When G bad c r (Err CopyNoRoom))
    full_told = record { only = λ e. only (means.room e); whenever = whenever }
      where
        only : ((run G bad c r).answer ≡ Err NoRoom) ⊎ ((run G bad c r).answer ≡ Err CopyNoRoom)
            → When G bad c r (Err NoRoom) ⊎ When G bad c r (Err CopyNoRoom)
        only (inl e) = inl ((answers_of G bad c r (Err NoRoom)).only e)
        only (inr e) = inr ((answers_of G bad c r (Err CopyNoRoom)).only e)

        whenever : When G bad c r (Err NoRoom) ⊎ When G bad c r (Err CopyNoRoom) → z ≡ negsuc 27
        whenever (inl h) = P.answer_is ∙ ap (number New) ((answers_of G bad c r (Err NoRoom)).whenever h)
        whenever (inr h) = P.answer_is ∙ ap (number New) ((answers_of G bad c r (Err CopyNoRoom)).whenever h)

    -- -121 exactly when the device refuses a copy
    pub device_told : Exactly (z ≡ negsuc 120) (When G bad c r (Err CopyDevice))
    device_told =
        record {
          only = λ e. (answers_of G bad c r (Err CopyDevice)).only (means.device e);
          whenever = λ h. P.answer_is ∙ ap (number New) ((answers_of G bad c r (Err CopyDevice)).whenever h);
        }

    -- "Field staff read 14 as a wiring fault": it is not given
    pub never_14 : z ≢ negsuc 13
    never_14 = means.neither

  -- "in 14's place 28 for writes, 28 or 121 for collections": the old number is 14 exactly when the new one is 28 or 121
  pub in_its_place : (c : Call) (r : Recorder) {x x' : Lent} {z z' : ℤ} → PromiseIn Old (run G bad c r) x z → PromiseIn New (run G bad c r) x' z'
      → Exactly (z ≡ negsuc 13) ((z' ≡ negsuc 27) ⊎ (z' ≡ negsuc 120))
  in_its_place c r {z = z} {z' = z'} P Q = record { only = λ e. as_14 z' ((told_apart c r P Q).1 ∙ e) (never_14 c r Q); whenever = back }
    where
      back : (z' ≡ negsuc 27) ⊎ (z' ≡ negsuc 120) → z ≡ negsuc 13
      back (inl e) = sym (told_apart c r P Q).1 ∙ ap as_old e
      back (inr e) = sym (told_apart c r P Q).1 ∙ ap as_old e

  -- a write is never told 121
  pub write_never_121 : (sector len : ℕ) (d : List ℕ) (s : List (List ℕ)) (r : Recorder) {x : Lent} {z : ℤ}
      → PromiseIn New (run G bad (Write sector len d s) r) x z → z ≢ negsuc 120
  write_never_121 sector len d s r P e = none ((device_told (Write sector len d s) r P).only e).1
    where
      none : DeedWhen G bad (Write sector len d s) r (Err CopyDevice) → ⊥
      none (inl h) = subst OfCopy h.1 tt
      none (inr (inl h)) = subst OfCopy h.1 tt
      none (inr (inr h)) = subst OfCopy h.1 tt

  -- the other calls have one number under both choices
  abbrev Same : Answer → Type 0
  Same a = number New a ≡ number Old a

  abbrev SameOut : Outcome → Type 0
  SameOut o = Same o.answer

  same : (c : Call) → Untold c → (r : Recorder) → Same (run G bad c r).answer
  unfolding formatting opening read encoding restoring
  same Format u r = guarded_by SameOut _ _ _ _ (lent r [] []) _ refl refl (λ _ _ _ _. subst Same (sym (formats_all G bad G.n 0 (state_of G (lent r [] [])))) refl)
  same Open u r = guarded_by SameOut _ _ _ _ (lent r [] []) _ refl refl (λ _ _ _ _. refl)
  same (Read sector len o s) u r =
      guarded_by SameOut _ _ _ _ (lent r o s) _ refl refl (λ _ _ _ _. unless_by SameOut _ Unmapped (lent r o s) _ refl (λ _. refl))
  same (Encode b s) u r = guarded_by SameOut _ _ _ _ (lent r b s) _ refl refl (λ _ _ _ _. refl)
  same (Restore q b s) u r =
      guarded_by SameOut _ _ _ _ (lent r [] s) _ refl refl (λ _ _ _ _. unless_by SameOut _ (Reason (reason_of G b)) (lent r [] s) _ refl (λ _. refl))
  same (Write sector len d s) u r = absurd u
  same (Collect s) u r = absurd u
  same (CollectList m s) u r = absurd u
  same (CollectThreshold t m s) u r = absurd u

  pub one_number : (c : Call) → Untold c → (r : Recorder) {x : Lent} {z : ℤ} → PromiseIn Old (run G bad c r) x z → PromiseIn New (run G bad c r) x z
  one_number c u r P = record { left_is = P.left_is; answer_is = P.answer_is ∙ sym (same c u r) }

  -- M-102 of collections, from the number that came back: in service, -121 says that the fuse is out; with an endless one it is not given
  pub told_by_the_fuse : {r : Recorder} → InService G r → (c : Call) {x : Lent} → PromiseIn New (run G bad c r) x (negsuc 120) → x.unit.flash.fuse ≡ 0
  told_by_the_fuse {r} h c {x} P = subst (λ y. OnlyFuse y x.unit.flash) ((means c r P).device refl) (fuse_alone G bad h c P) tt

  pub never_121 : {r : Recorder} → InService G r → (c : Call) {x : Lent} {z : ℤ} → PromiseIn New (run G bad c (lit endless r)) x z → z ≢ negsuc 120
  never_121 {r} h c P e = never_refused G bad h c CopyDevice ((means c (lit endless r) P).device e) tt

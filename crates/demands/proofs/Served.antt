-- 02, M-102: "from formatted flash and fresh tables, with no further opening or restore, no call is ever refused for this". Each premise `PromiseIn N …` is
-- the `ensures` of a C name, and follows from that of crates/ftl, as in Demands.
use Prim.Native.Nat.{ℕ, ◌*◌, ◌≤◌}
use native.Mathlib.Omega.{arith}
use mathlib.Core.Path.{◌≡◌, refl, sym, ap, ◌∙◌, subst}
use mathlib.Core.Logic.{◌≢◌}
use mathlib.Core.List.{List, [], ◌∷◌}
use lib.IntN.{ℤ, negsuc}
use lib.ListN.{length, take}
use Rattle.model.specs.declared.Geometry.{Geometry}
use Rattle.model.specs.declared.Numbers.{Numbers}
use Rattle.model.specs.declared.Numbers.TheVariants.{Old, New}
use Rattle.model.specs.Numbers.{Answer}
use Rattle.model.specs.Numbers.{Err}
use Rattle.model.specs.declared.Cause.{Cause}
use Rattle.model.specs.declared.Cause.TheVariants.{NoRoom, Device}
use Rattle.model.specs.Lists.{zeros}
use Rattle.model.specs.Numbers.{Good, endless, number}
use Rattle.model.specs.Causes.{kind_of}
use Rattle.model.specs.Tables.{tab_words, pages}
use Rattle.model.specs.Device.{Flash, flash, Op, Program, EraseSeg, Out, burn, perform_all}
use Rattle.model.specs.Entry.{Recorder, recorder, Lent, lent, Outcome, PromiseIn, state_of, write}
use Rattle.model.specs.History.{Call, Format, Open, Write, lit, run, after, ops_of, InService, delivered, lent_fuse, AtProgramming, OnlyFuse}
use Rattle.model.proofs.Guard.{guarded_by}
use Rattle.model.proofs.Entry.{endless_law}
use Rattle.model.proofs.Order.{never_for_order}
use Rattle.demands.proofs.Fresh.{started}
use Rattle.demands.proofs.Walk.{write_by}
use Rattle.demands.proofs.Signs.{unlike, unlike_count}

-- flash of any content, formatted with fuse enough, and zeroed tables, opened: in service
pub serves : (G : Geometry) → Good G → (bad b m c : List ℕ) (f : ℕ) → length b ≡ pages G * G.s → length m ≡ pages G → length c ≡ G.n → G.n ≤ f
    → InService G (after G bad Open (after G bad Format (recorder (zeros (tab_words G)) (zeros (pages G)) (flash b m c f))))
serves G K bad b m c f hb hm hc h = subst (InService G) (sym (started G K bad b m c f hb hm hc h)) (delivered _)

-- an endless fuse stays
still_endless : (G : Geometry) (os : List Op) (f : Flash) → f.fuse ≡ endless → (perform_all G os f).fuse ≡ endless
unfolding burn
still_endless G [] f e = e
still_endless G (Program g k page ∷ os) f e = still_endless G os _ (ap burn e)
still_endless G (EraseSeg g c ∷ os) f e = still_endless G os _ (ap burn e)

module _ (G : Geometry) (bad : List ℕ) where
  -- every call: where a programming is refused, the fuse is out
  pub fuse_alone : {r : Recorder} → InService G r → (c : Call) {N : Numbers} {x : Lent} {z : ℤ} → PromiseIn N (run G bad c r) x z → OnlyFuse (run G bad c r).answer x.unit.flash
  fuse_alone {r} h c P = subst (λ (x : Lent). OnlyFuse (run G bad c r).answer x.unit.flash) (sym P.left_is) (never_for_order G h bad c)

  -- so with a fuse that never ends no programming is refused at all. Of the definition's answer: a collection's -14 does not tell its cause (-121 does:
  -- `never_121`, Told)
  pub never_refused : {r : Recorder} → InService G r → (c : Call) (k : Cause) → (run G bad c (lit endless r)).answer ≡ Err k → AtProgramming (kind_of k) → ⊥
  never_refused {r} h c k a p =
      let e : (after G bad c (lit endless r)).flash.fuse ≡ 0 =
      subst (λ y. OnlyFuse y (after G bad c (lit endless r)).flash) a (never_for_order G (lent_fuse h endless) bad c) p in
      let d : (after G bad c (lit endless r)).flash.fuse ≡ endless =
      ap (λ (f : Flash). f.fuse) (endless_law G bad c r) ∙ still_endless G (ops_of G bad c r) (lit endless r).flash refl in
      omega arith

  -- a write's -5 is the device's refusal to program
  abbrev Five : Numbers → Answer → Type 0
  Five N a = negsuc 4 ≡ number N a → a ≡ Err Device

  full_five : (N : Numbers) → Five N (Err NoRoom)
  full_five Old = unlike 4 13 (omega arith)
  full_five New = unlike 4 27 (omega arith)

  five : (N : Numbers) (sector len : ℕ) (d : List ℕ) (x : Lent) → Five N (write G bad sector len d x).answer
  unfolding write
  five N sector len d x =
      guarded_by (λ (o : Outcome). Five N o.answer) _ _ _ _ x _ (unlike 4 21 (omega arith)) (unlike 4 116 (omega arith))
      (λ _ _ _ _.
      write_by G bad (λ (o : Out). Five N o.answer) _ _ (take len d) (state_of G x) (full_five N) (λ _ _ _ e. unlike_count (length (take len d)) 4 (sym e))
      (λ _ _ _ _. refl))

  module _ {r : Recorder} (h : InService G r) (sector len : ℕ) (d : List ℕ) (s : List (List ℕ)) {N : Numbers} {x : Lent} where
    -- a write that answers -5: the fuse is out
    pub refused_by_the_fuse : PromiseIn N (write G bad sector len d (lent r [] s)) x (negsuc 4) → x.unit.flash.fuse ≡ 0
    refused_by_the_fuse P =
        subst (λ y. OnlyFuse y x.unit.flash) (five N sector len d (lent r [] s) P.answer_is) (fuse_alone h (Write sector len d s) P) tt

    -- with a fuse that never ends no write answers -5
    pub never_five : {z : ℤ} → PromiseIn N (write G bad sector len d (lent (lit endless r) [] s)) x z → z ≢ negsuc 4
    never_five P e = never_refused h (Write sector len d s) Device (five N sector len d (lent (lit endless r) [] s) (sym e ∙ P.answer_is)) tt

-- The device's test of a programming, in words: the page and every higher one of its segment are unmarked.
use Prim.Native.Nat.{ℕ, suc, ◌+◌, ◌*◌, ◌-◌, ◌≤◌, ◌<◌}
use native.Mathlib.Omega.{arith}
use mathlib.Core.Path.{◌≡◌, refl, sym, ap, ◌∙◌}
use mathlib.Core.Bool.{Bool, true, false, not, ◌&&◌}
use mathlib.Core.Logic.{◌⊎◌, inl, inr, ⊎_elim, ◌≢◌}
use mathlib.Core.List.{List, [], ◌∷◌}
use lib.Dec.{eqb}
use lib.ListN.{length, drop, length-take, length-drop}
use lib.Seq.{get_or-drop}
use borrow.Author.Tests.{eq-eqb, ne_eqb}
use Rattle.model.specs.Lists.{slot, blank}
use Rattle.model.specs.declared.Geometry.{Geometry}
use Rattle.model.specs.Tables.{at}
use Rattle.model.specs.Device.{Flash, clear_up, may_program}
use Rattle.model.proofs.Slots.{same?, slot_at, same_replicate}
use Rattle.model.proofs.Guard.{blank_is}
use Rattle.demands.specs.Given.{Exactly}
use Rattle.demands.specs.When.{MarkedFrom}
use Rattle.demands.proofs.Tested.{clash}

blank-at : (xs : List ℕ) → blank xs ≡ true → (i : ℕ) → at xs i ≡ 0
blank-at xs e i = ap (λ z. at z i) (blank_is xs e) ∙ same_replicate (length xs) 0 i

blank_not : (xs : List ℕ) → blank xs ≡ false → (i : ℕ) × (i < length xs) × (at xs i ≢ 0)
unfolding blank
blank_not [] e = clash e
blank_not (x ∷ xs) e = go (same? x 0) (λ f. blank_not xs f)
  where
    go : (x ≡ 0) ⊎ (x ≢ 0) → (blank xs ≡ false → (i : ℕ) × (i < length xs) × (at xs i ≢ 0)) → (i : ℕ) × (i < length (x ∷ xs)) × (at (x ∷ xs) i ≢ 0)
    go (inr n) more = (0, omega arith, n)
    go (inl z) more =
        let h : (i : ℕ) × (i < length xs) × (at xs i ≢ 0) = more (rw (eq-eqb x 0 z) at e) in
        (suc h.0, omega (arith, h.1), h.2)

module _ (G : Geometry) (g k : ℕ) (f : Flash) where
  abbrev row : List ℕ
  row = slot G.p g f.marks

  pub clear_zero : clear_up G g k f ≡ true → (j : ℕ) → k ≤ j → j < G.p → at f.marks (g * G.p + j) ≡ 0
  clear_zero e j a b =
      let q : k + (j - k) ≡ j = omega arith in
      sym (slot_at G.p g f.marks j 0 b) ∙ ap (at row) (sym q) ∙ sym (get_or-drop k row (j - k) 0) ∙ blank-at (drop k row) e (j - k)

  pub clear_not : clear_up G g k f ≡ false → MarkedFrom G g k f
  clear_not e =
      let h : (i : ℕ) × (i < length (drop k row)) × (at (drop k row) i ≢ 0) = blank_not (drop k row) e in
      let b : k + h.0 < G.p = omega (arith, h.1, length-drop k row, length-take G.p (drop (g * G.p) f.marks)) in
      (k + h.0, omega arith, b, λ z. h.2 (get_or-drop k row h.0 0 ∙ slot_at G.p g f.marks (k + h.0) 0 b ∙ z))

  -- a programming's refusals in words: the page or a higher one is marked, or the fuse is out
  pub program_refused : Exactly (may_program G g k f ≡ false) (MarkedFrom G g k f ⊎ (f.fuse ≡ 0))
  unfolding may_program
  program_refused = go (clear_up G g k f) refl (same? f.fuse 0)
    where
      Goal : Bool → Bool → Type 0
      Goal a b = Exactly ((a && not b) ≡ false) (MarkedFrom G g k f ⊎ (f.fuse ≡ 0))

      unmarked : clear_up G g k f ≡ true → MarkedFrom G g k f → ⊥
      unmarked e m = m.3 (clear_zero e m.0 m.1 m.2)

      go : (a : Bool) → clear_up G g k f ≡ a → (f.fuse ≡ 0) ⊎ (f.fuse ≢ 0) → Goal a (eqb f.fuse 0)
      go false e z = record { only = λ _. inl (clear_not e); whenever = λ _. refl }
      go true e (inl z) = rw (eq-eqb _ _ z) (record { only = λ _. inr z; whenever = λ _. refl })
      go true e (inr n) = rw (ne_eqb _ _ n) (record { only = λ q. clash q; whenever = λ h. ⊎_elim (λ m. absurd (unmarked e m)) (λ y. absurd (n y)) h })

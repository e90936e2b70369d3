-- The addresses of the first u pages of segment g are those from g * step up, where a segment has step addresses.
use Prim.Native.Nat.{ℕ, ◌+◌, ◌-◌, ◌*◌, ◌/◌, ◌%◌, ◌≤◌, ◌<◌}
use native.Mathlib.Nat.{div-add-mod'}
use native.Mathlib.Omega.{arith}
use mathlib.Core.Path.{◌≡◌, sym, ap, ◌∙◌}
use Rattle.model.proofs.Slots.{place_seg, place_page}

module _ (step g a u : ℕ) where
  pub placed_segment : u ≤ step → g * step ≤ a → a < g * step + u → a / step ≡ g
  placed_segment m l h =
      let e : a ≡ g * step + (a - g * step) = omega arith in
      ap (λ x. x / step) e ∙ place_seg step g (a - g * step) (omega arith)

  pub placed_page : u ≤ step → g * step ≤ a → a < g * step + u → a % step < u
  placed_page m l h =
      let e : a ≡ g * step + (a - g * step) = omega arith in
      omega (arith, ap (λ x. x % step) e, place_page step g (a - g * step) (omega arith))

  pub named_placed : a / step ≡ g → a % step < u → (g * step ≤ a) × (a < g * step + u)
  named_placed e h =
      let d : g * step + a % step ≡ a = ap (λ x. x * step + a % step) (sym e) ∙ div-add-mod' a step in
      (omega arith, omega arith)

-- Formatting segment by segment: the definition from the start ends as the definition from here. Assumes nothing.
use mathlib.Core.Path.{◌≡◌, refl, sym, ap, ◌∙◌}
use mathlib.Core.List.{[], ◌∷◌}
use Prim.Native.Nat.{ℕ, zero, suc, ◌+◌, ◌-◌, ◌<◌, ◌≤◌}
use native.Mathlib.Nat.{sub-zero}
use native.Mathlib.Numerals.{add-one}
use native.Mathlib.Omega.{arith}
use borrow.Author.Tests.{eq-eqb, ne_eqb}
use Rattle.model.specs.declared.Geometry.{Geometry}
use Rattle.model.specs.Tables.{Tables}
use Rattle.model.specs.Device.{Flash, State, state, EraseSeg, blanked, finish, behind, format_from}

-- the flash that formatting k segments from g up leaves
abbrev pub formatted : Geometry → ℕ → ℕ → Tables → Flash → Flash
formatted G k g t f = (format_from G k g (state t f)).st.flash

-- one segment, with the fuse out and not
module _ (G : Geometry) (k g : ℕ) (st : State) where
  skipped : st.flash.fuse ≡ 0 → format_from G (suc k) g st ≡ finish 0 st
  unfolding format_from
  skipped z = rw (eq-eqb _ _ z)

  one_more : 0 < st.flash.fuse
      → format_from G (suc k) g st ≡ behind (EraseSeg g 0 ∷ []) (format_from G k (suc g) (state st.tab (blanked G g 0 st.flash)))
  unfolding format_from
  one_more z = rw (ne_eqb st.flash.fuse 0 (λ e. omega arith))

-- of the flash f₀ the segments below g have been formatted, which gave f
pub record Formatting (G : Geometry) (f₀ f : Flash) (g : ℕ) : Type 0 where
  pub left : (t : Tables) → formatted G G.n 0 t f₀ ≡ formatted G (G.n - g) g t f

pub starts : {G : Geometry} {f : Flash} → Formatting G f f 0
starts {G} {f} = record { left = λ t. ap (λ k. formatted G k 0 t f) (sym (sub-zero G.n)) }

module _ {G : Geometry} {f₀ f : Flash} {g : ℕ} (I : Formatting G f₀ f g) where
  pub goes_on : {f' : Flash} → g < G.n → 0 < f.fuse → f' ≡ blanked G g 0 f → Formatting G f₀ f' (g + 1)
  goes_on {f'} h z e =
      let rest : G.n - g ≡ suc (G.n - (g + 1)) = omega arith in
      record {
        left = λ t.
            I.left t
            ∙ ap (λ k. formatted G k g t f) rest
            ∙ ap (λ o. o.st.flash) (one_more G (G.n - (g + 1)) g (state t f) z)
            ∙ ap (λ i. formatted G (G.n - (g + 1)) i t (blanked G g 0 f)) (sym (add-one g))
            ∙ ap (formatted G (G.n - (g + 1)) (g + 1) t) (sym e);
      }

  pub stops : f.fuse ≡ 0 → (t : Tables) → f ≡ formatted G G.n 0 t f₀
  unfolding format_from
  stops z t = sym (I.left t ∙ here (G.n - g))
    where
      here : (k : ℕ) → formatted G k g t f ≡ f
      here zero = refl
      here (suc k) = ap (λ o. o.st.flash) (skipped G k g (state t f) z)

  pub ends : G.n ≤ g → (t : Tables) → f ≡ formatted G G.n 0 t f₀
  unfolding format_from
  ends h t = let none : G.n - g ≡ 0 = omega arith in sym (I.left t ∙ ap (λ k. formatted G k g t f) none)

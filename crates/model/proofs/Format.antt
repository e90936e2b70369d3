-- Formatting changes no table, keeps the flash its size, and does the erases that it lists.
use Prim.Native.Nat.{ℕ, zero, suc, ◌+◌, ◌≤◌, ◌<◌}
use native.Mathlib.Omega.{arith}
use mathlib.Core.Path.{◌≡◌, refl}
use mathlib.Core.Bool.{Bool, true, false, cond}
use mathlib.Core.List.{List, [], ◌∷◌}
use lib.Dec.{eqb}
use Rattle.model.specs.Numbers.{Geometry, Ok}
use Rattle.model.specs.Device.{State, state, Out, EraseSeg, blanked, perform_all, finish, behind, format_from}
use Rattle.model.specs.Contract.{Fit}
use Rattle.model.proofs.Content.{blank_fit}
use Rattle.model.proofs.Ops.{SafeOps}

-- a formatting of st that came to o
pub record Formatted (G : Geometry) (st : State) (o : Out) : Type 0 where
  pub tab : o.st.tab ≡ st.tab
  pub fit : Fit G o.st.flash
  pub answer : o.answer ≡ Ok 0
  pub performs : o.st.flash ≡ perform_all G o.ops st.flash
  pub erases : (M : List ℕ) → SafeOps G M o.ops

module _ (G : Geometry) where
  none : (st : State) → Fit G st.flash → Formatted G st (finish 0 st)
  none st F = record { tab = refl; fit = F; answer = refl; performs = refl; erases = λ M. tt }

  -- one segment, and the rest
  more : (st : State) (g : ℕ) (o : Out) → g < G.n → Formatted G (state st.tab (blanked G g 0 st.flash)) o
      → Formatted G st (behind (EraseSeg g 0 ∷ []) o)
  more st g o hg I =
      record {
        tab = I.tab;
        fit = I.fit;
        answer = I.answer;
        performs = I.performs;
        erases = λ M. (hg, λ _. I.erases M);
      }

  formatted_from : (k g : ℕ) (st : State) → k + g ≤ G.n → Fit G st.flash → Formatted G st (format_from G k g st)
  unfolding format_from
  formatted_from zero g st h F = none st F
  formatted_from (suc k) g st h F =
      go (eqb st.flash.fuse 0)
      (more st g _ (omega arith)
      (formatted_from k (suc g) (state st.tab (blanked G g 0 st.flash)) (omega arith) (blank_fit G st.flash F g 0 (omega arith))))
    where
      go : (b : Bool) → {o : Out} → Formatted G st o → Formatted G st (cond b (finish 0 st) o)
      go true I = none st F
      go false I = I

  pub formatted : (st : State) → Fit G st.flash → Formatted G st (format_from G G.n 0 st)
  formatted st F = formatted_from G.n 0 st (omega arith) F

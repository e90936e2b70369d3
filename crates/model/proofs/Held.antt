-- Laws for the proofs of code: what sound tables in the words give, and how they stay sound from step to step.
use Prim.Native.Nat.{ℕ, ◌≤◌}
use native.Mathlib.Nat.{mul-le-mul}
use native.Mathlib.Omega.{arith}
use mathlib.Core.Path.{◌≡◌, sym, ap, ◌∙◌, subst}
use mathlib.Core.List.{List}
use lib.ListN.{length}
use Rattle.model.specs.Numbers.{Geometry, Good}
use Rattle.model.specs.Tables.{Tables, pages, view}
use Rattle.model.specs.Sound.{Sound}
use Rattle.model.specs.Contract.{Held}
use Rattle.model.proofs.Working.{Counted}
use Rattle.model.proofs.View.{sized-view}
use Rattle.model.proofs.Official.{counted_sound, sound_counted}

-- the product that no linear test finds
pub slots : {G : Geometry} → Good G → pages G ≤ 67107840
slots K = omega (arith, mul-le-mul K.n≤ K.p≤)

pub counted : {G : Geometry} {w u : List ℕ} → Held G w u → Counted G (view G w u)
counted {G} {w} {u} H =
    sound_counted G (view G w u) (sized-view G w u H.tables.words_size H.tables.used_size) H.tables.sound

-- words of the same length whose view is counted tables hold them
pub held_by : {G : Geometry} {w u : List ℕ} (H : Held G w u) {w' u' : List ℕ} {t : Tables}
    → length w' ≡ length w → view G w' u' ≡ t → Counted G t → Held G w' u'
unfolding view
held_by {G} H {w'} {u'} {t} e v S =
    record {
      good = H.good;
      tables =
          record {
            words_size = e ∙ H.tables.words_size;
            used_size = ap (λ (x : Tables). length x.used) v ∙ S.sized.used;
            sound = subst (Sound G) (sym v) (counted_sound G t S);
          };
    }

-- The flash that is lent in parts has the right size. Assumes nothing.
use Prim.Native.Nat.{ℕ}
use mathlib.Core.Path.{◌≡◌, subst}
use mathlib.Core.List.{List}
use lib.ListN.{length}
use Rattle.model.specs.declared.Geometry.{Geometry}
use Rattle.model.specs.Contract.{Fit}
use Rattle.device.specs.declared.FlashMut.{FlashMut}
use Rattle.device.specs.Lent.{flash_of}

pub fits : (f : FlashMut) {G : Geometry} {c : List ℕ} → f.geo ≡ G → length c ≡ G.n → Fit G (flash_of f c)
fits f {G} {c} e h =
    subst (λ (x : Geometry). length c ≡ x.n → Fit x (flash_of f c)) e (λ k. record { bytes = f.bytes_len; marks = f.marks_len; counts = k }) h

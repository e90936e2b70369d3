-- The flash that is lent in parts, with erase counts c, as flash.
use Rattle.std.specs.Prelude.{ℕ, ◌≡◌, List}
use Rattle.model.specs.Device.{Flash, flash}
use Rattle.device.specs.declared.FlashMut.{FlashMut}

abbrev pub flash_of : FlashMut → List ℕ → Flash
flash_of f c = flash f.bytes.now f.marks.now c f.fuse.now

-- the geometry and the places lent are the same: what a call leaves lies where it was lent
pub record Same (a b : FlashMut) : Type 0 where
  pub geo : b.geo ≡ a.geo
  pub bytes : b.bytes.ghost_name ≡ a.bytes.ghost_name
  pub marks : b.marks.ghost_name ≡ a.marks.ghost_name
  pub fuse : b.fuse.ghost_name ≡ a.fuse.ghost_name

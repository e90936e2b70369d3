-- Laws of the device's operations: what is lent of the flash, and the outcome of each test. Assumes nothing.
use mathlib.Core.Path.{◌≡◌, refl, sym, ap, ◌∙◌}
use mathlib.Core.Logic.{◌≢◌}
use mathlib.Core.Bool.{true, false}
use mathlib.Core.List.{List}
use Prim.Native.Nat.{ℕ, ◌+◌, ◌*◌, ◌-◌, ◌<◌, ◌≤◌}
use native.Mathlib.Omega.{arith}
use lib.ListN.{take, drop}
use lib.Seq.{drop-drop}
use borrow.Author.Tests.{eq-eqb, ne_eqb, lt-ltb, le-ltb}
use Rattle.std.specs.Prelude.{Ok, Err}
use Rattle.model.specs.declared.Cause.TheVariants.{Device, Erase}
use borrow.Rule.Slice.PartMut.{put_mid}
use Rattle.model.specs.Lists.{slot, on_slot}
use Rattle.model.specs.declared.Geometry.{Geometry}
use Rattle.model.specs.Tables.{at, region}
use Rattle.model.specs.Device.{Flash, burn, clear_up, may_program, may_erase}
use Rattle.model.proofs.Slots.{drop-take}
use Rattle.model.proofs.Regions.{part_back}
use Rattle.device.specs.Tried.{Tried}

-- one operation less
pub burn-endless : (f : ℕ) → f ≡ 18446744073709551615 → f ≡ burn f
unfolding burn
burn-endless f h = rw (eq-eqb _ _ h)

pub burn_less : (f : ℕ) → f ≢ 18446744073709551615 → f - 1 ≡ burn f
unfolding burn
burn_less f h = rw (ne_eqb _ _ h)

-- what is lent of the marks and the bytes at page k of segment g
module _ (G : Geometry) (g k : ℕ) where
  -- the marks of the page and of those above it
  pub rest_is : k < G.p → (marks : List ℕ) → region (g * G.p + k) (g * G.p + G.p - (g * G.p + k)) marks ≡ drop k (slot G.p g marks)
  rest_is h marks =
      let m : g * G.p + G.p - (g * G.p + k) ≡ G.p - k = omega arith in
      ap (λ x. region (g * G.p + k) x marks) m
      ∙ ap (take (G.p - k)) (sym (drop-drop k (g * G.p) marks))
      ∙ sym (drop-take k G.p (drop (g * G.p) marks))

  -- others over the page's bytes
  pub page_laid : (bytes : List ℕ) {page part : List ℕ} → part ≡ page
      → put_mid ((g * G.p + k) * G.s) ((g * G.p + k) * G.s + G.s - (g * G.p + k) * G.s) bytes part ≡ on_slot G.s (g * G.p + k) (λ _. page) bytes
  page_laid bytes {page} {part} = part_back bytes part ((g * G.p + k) * G.s) G.s (λ _. page)

-- the answer to each outcome of an operation's tests
module _ (G : Geometry) (g k : ℕ) (f : Flash) {done : Flash} where
  pub program_marked : clear_up G g k f ≡ false → Tried (may_program G g k f) Device done f (Err Device) f
  unfolding may_program
  program_marked h = rw h (record { ok = refl; left = refl })

  pub program_out : clear_up G g k f ≡ true → f.fuse ≡ 0 → Tried (may_program G g k f) Device done f (Err Device) f
  unfolding may_program
  program_out h z = rw (h, eq-eqb _ _ z) (record { ok = refl; left = refl })

  pub program_done : {after : Flash} → clear_up G g k f ≡ true → f.fuse ≢ 0 → after ≡ done → Tried (may_program G g k f) Device done f (Ok tt) after
  unfolding may_program
  program_done h z e = rw (h, ne_eqb _ _ z) (record { ok = refl; left = e })

module _ (G : Geometry) (g : ℕ) (f : Flash) {done : Flash} where
  pub erase_worn : G.limit ≤ at f.counts g → Tried (may_erase G g f) Erase done f (Err Erase) f
  unfolding may_erase
  erase_worn h = rw (le-ltb _ _ h) (record { ok = refl; left = refl })

  pub erase_out : at f.counts g < G.limit → f.fuse ≡ 0 → Tried (may_erase G g f) Erase done f (Err Erase) f
  unfolding may_erase
  erase_out h z = rw (lt-ltb _ _ h, eq-eqb _ _ z) (record { ok = refl; left = refl })

  pub erase_done : {after : Flash} → at f.counts g < G.limit → f.fuse ≢ 0 → after ≡ done → Tried (may_erase G g f) Erase done f (Ok tt) after
  unfolding may_erase
  erase_done h z e = rw (lt-ltb _ _ h, ne_eqb _ _ z) (record { ok = refl; left = e })

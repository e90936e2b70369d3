-- The address fact, once over w: an address gives its segment and its page back, different pages have different addresses, and every
-- address lies below the empty word.
use Prim.Native.Nat.{ℕ, ◌*◌, ◌^◌, ◌≤◌, ◌<◌}
use native.Mathlib.Nat.{mul-le-mul, div-add-mod', le-div_iff_mul-le}
use native.Mathlib.Omega.{arith}
use lib.Pow.{pow_mono, pow_pos}
use mathlib.Core.Path.{◌≡◌, sym, ap, ◌∙◌}
use mathlib.Core.Logic.{◌≢◌}
use Rattle.model.specs.Numbers.{Geometry, Good, empty, addr, seg_of, page_of, flat}
use Rattle.model.proofs.Slots.{below_part, place_seg, place_page, place_inj_seg, place_inj_page}

-- the place of an address is told by the address, whatever the geometry
pub addr_back : (G : Geometry) (a : ℕ) → addr G (seg_of G a) (page_of G a) ≡ a
addr_back G a = div-add-mod' a (2 ^ G.w)

module _ (G : Geometry) (K : Good G) where
  pub wide : {k : ℕ} → k < G.p → k < 2 ^ G.w
  wide h = omega (arith, K.narrow)

  pub addr_seg : (g : ℕ) {k : ℕ} → k < G.p → seg_of G (addr G g k) ≡ g
  addr_seg g {k} h = place_seg (2 ^ G.w) g k (wide h)

  pub addr_page : (g : ℕ) {k : ℕ} → k < G.p → page_of G (addr G g k) ≡ k
  addr_page g {k} h = place_page (2 ^ G.w) g k (wide h)

  pub below : G.n * 2 ^ G.w ≤ empty
  below = let w : 2 ^ G.w ≤ 2 ^ 16 = pow_mono K.w≤ in omega (arith, mul-le-mul K.n≤ w)

  pub addr-below : {g k : ℕ} → g < G.n → k < G.p → addr G g k < empty
  addr-below {g} {k} hg hk = omega (arith, below_part (2 ^ G.w) hg (wide hk), below)

  pub addr_some : {g k : ℕ} → g < G.n → k < G.p → addr G g k ≢ empty
  addr_some hg hk e = omega (arith, addr-below hg hk)

  -- the empty word names no segment
  pub empty-out : G.n ≤ seg_of G empty
  empty-out = (le-div_iff_mul-le (pow_pos G.w)).1 below

  -- different pages have different addresses
  pub addr_inj : {g k g' k' : ℕ} → k < G.p → k' < G.p → addr G g k ≡ addr G g' k' → (g ≡ g') × (k ≡ k')
  addr_inj {g} {k} {g'} {k'} h h' e =
      (place_inj_seg (2 ^ G.w) g k g' k' (wide h) (wide h') e, place_inj_page (2 ^ G.w) g k g' k' (wide h) (wide h') e)

-- words that name pages below p at one place among all pages are one word
pub flat_inj : (G : Geometry) (a b : ℕ) → page_of G a < G.p → page_of G b < G.p → flat G a ≡ flat G b → a ≡ b
flat_inj G a b ha hb e =
    sym (addr_back G a)
    ∙ ap (λ g. addr G g (page_of G a)) (place_inj_seg G.p (seg_of G a) (page_of G a) (seg_of G b) (page_of G b) ha hb e)
    ∙ ap (addr G (seg_of G b)) (place_inj_page G.p (seg_of G a) (page_of G a) (seg_of G b) (page_of G b) ha hb e)
    ∙ addr_back G b

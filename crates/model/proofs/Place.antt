-- Mapping a logical page that is not mapped to a used page that nobody has keeps sound tables sound.
use Prim.Native.Nat.{ℕ, ◌+◌, ◌-◌, ◌≤◌, ◌<◌}
use native.Mathlib.Numerals.{add-one}
use native.Mathlib.Omega.{arith}
use mathlib.Core.Path.{◌≡◌, sym, ap, ◌∙◌}
use mathlib.Core.Logic.{◌⊎◌, inl, inr, ◌≢◌}
use mathlib.Core.List.{[], ◌∷◌, ◌++◌}
use lib.Dec.{eqb}
use lib.ListN.{length, drop, set, length-set}
use lib.Seq.{get_or-set_same, get_or-set_other, take-suc-set, drop-set-lt, drop-drop}
use Rattle.model.specs.Lists.{bit, occ, slot, zeros}
use Rattle.model.specs.Numbers.{Geometry, Good, addr, empty, page_of, seg_of}
use Rattle.model.specs.Tables.{Tables, at, word_of, list_of}
use Rattle.model.specs.Sound.{Mapped, names}
use Rattle.model.specs.PageMap.{place}
use Rattle.model.proofs.Working.{Counted}
use Rattle.model.proofs.Slots.{same?, by_same, set_ind, drop-zeros, slot-set_same, slot-set_other}
use Rattle.model.proofs.Address.{addr_seg, addr_page, addr_some}
use Rattle.model.proofs.Counts.{bit_same, bit_other, occ_one, occ-append}
use Rattle.model.proofs.Reading.{Tail, names-empty, names_at, in_lens, row_length}

-- logical page l may be mapped to page k of segment g
pub record Room (G : Geometry) (t : Tables) (l g k : ℕ) : Type 0 where
  pub known : l < G.e
  pub unmapped : word_of t l ≡ empty
  pub seg : g < G.n
  pub used : k + at t.free g < G.p
  pub nobody : (x : ℕ) → word_of t x ≢ addr G g k
  pub room : at t.lens g < at t.valid g

module _ (G : Geometry) (K : Good G) (t : Tables) (S : Counted G t) (l g k : ℕ) (R : Room G t l g k) where
  abbrev t' : Tables
  t' = place G l g k t

  abbrev len : ℕ
  len = at t.lens g

  page : k < G.p
  page = omega (arith, R.used)

  lt_map : l < length t.map
  lt_map = rw S.sized.map R.known

  lt_p : len < G.p
  lt_p = omega (arith, R.room, S.valid≤ g)

  lens_same : at t'.lens g ≡ len + 1
  lens_same = get_or-set_same t.lens g _ 0 (in_lens S.sized R.seg)

  lens_other : (j : ℕ) → j ≢ g → at t'.lens j ≡ at t.lens j
  lens_other j n = get_or-set_other t.lens g j _ 0 n

  slot_same : slot G.p g t'.lists ≡ set (slot G.p g t.lists) len l
  slot_same = slot-set_same G.p g len l t.lists lt_p

  slot_other : (j : ℕ) → j ≢ g → slot G.p j t'.lists ≡ slot G.p j t.lists
  slot_other j n = slot-set_other G.p g j len l t.lists lt_p n

  pub place_list : list_of G (place G l g k t) g ≡ list_of G t g ++ (l ∷ [])
  place_list = rw (lens_same, slot_same, add-one) (take-suc-set (slot G.p g t.lists) len l (rw (row_length S.sized R.seg) lt_p))

  pub place_list_other : (j : ℕ) → j ≢ g → list_of G (place G l g k t) j ≡ list_of G t j
  place_list_other j n = rw (lens_other j n, slot_other j n)

  place_tails : (j : ℕ) → j < G.n → Tail G t' j
  place_tails =
      by_same (λ j. j < G.n → Tail G t' j) g
      (λ _. rw (lens_same, slot_same) behind)
      (λ j n h. rw (lens_other j n, slot_other j n) (S.tails j h))
    where
      one_less : G.p - len - 1 ≡ G.p - (len + 1)
      one_less = omega arith

      behind : drop (len + 1) (set (slot G.p g t.lists) len l) ≡ zeros (G.p - (len + 1))
      behind =
          drop-set-lt (len + 1) (slot G.p g t.lists) len l (omega arith)
          ∙ sym (drop-drop 1 len (slot G.p g t.lists))
          ∙ ap (drop 1) (S.tails g R.seg)
          ∙ drop-zeros 1 (G.p - len)
          ∙ ap zeros one_less

  pub place-map_same : word_of (place G l g k t) l ≡ addr G g k
  place-map_same = get_or-set_same t.map l (addr G g k) empty lt_map

  pub place-map_other : (x : ℕ) → x ≢ l → word_of (place G l g k t) x ≡ word_of t x
  place-map_other x n = get_or-set_other t.map l x (addr G g k) empty n

  names_new : (j : ℕ) → names G (addr G g k) j ≡ bit (eqb g j)
  names_new j = names_at G (addr G g k) j (addr_some G K R.seg page) ∙ ap (λ x. bit (eqb x j)) (addr_seg G K g page)

  place-listed : (x j : ℕ) → j < G.n → occ x (list_of G t' j) ≡ names G (word_of t' x) j
  place-listed x j h = go (same? x l) (same? j g)
    where
      old : occ l (list_of G t j) ≡ 0
      old = S.listed l j h ∙ ap (λ a. names G a j) R.unmapped ∙ names-empty G j

      go : (x ≡ l) ⊎ (x ≢ l) → (j ≡ g) ⊎ (j ≢ g) → occ x (list_of G t' j) ≡ names G (word_of t' x) j
      go (inl e) (inl f) =
          rw (e, f, place-map_same, names_new g, place_list)
          (omega (arith, occ-append l (list_of G t g) (l ∷ []), occ_one l l, bit_same l, bit_same g, rw f at old))
      go (inl e) (inr f) = rw (e, place-map_same, names_new j, place_list_other j f) (omega (arith, old, bit_other g j (λ q. f (sym q))))
      go (inr n) (inl f) =
          rw (place-map_other x n, f, place_list)
          (omega (arith, occ-append x (list_of G t g) (l ∷ []), occ_one x l, bit_other x l n, S.listed x g R.seg))
      go (inr n) (inr f) = rw (place-map_other x n, place_list_other j f) (S.listed x j h)

  place_lens≤ : (j : ℕ) → at t'.lens j ≤ at t.valid j
  place_lens≤ =
      set_ind (λ j x. x ≤ at t.valid j) t.lens g _ 0 (in_lens S.sized R.seg) (omega (arith, R.room)) (λ j _. S.lens≤ j)

  place_seg< : (x : ℕ) → Mapped t' x → seg_of G (word_of t' x) < G.n
  place_seg< =
      set_ind (λ x a. a ≢ empty → seg_of G a < G.n) t.map l (addr G g k) empty lt_map
      (λ _. rw (addr_seg G K g page) R.seg)
      (λ x _. S.seg< x)

  place_page< : (x : ℕ) → Mapped t' x → page_of G (word_of t' x) + at t.free (seg_of G (word_of t' x)) < G.p
  place_page< =
      set_ind (λ x a. a ≢ empty → page_of G a + at t.free (seg_of G a) < G.p) t.map l (addr G g k) empty lt_map
      (λ _. rw (addr_seg G K g page, addr_page G K g page) R.used)
      (λ x _. S.page< x)

  place_apart : (x y : ℕ) → Mapped t' x → word_of t' x ≡ word_of t' y → x ≡ y
  place_apart x y h e = go (same? x l) (same? y l)
    where
      new : (x y : ℕ) → x ≡ l → y ≢ l → word_of t' x ≢ word_of t' y
      new x y a n e = R.nobody y (sym (place-map_other y n) ∙ sym e ∙ ap (word_of t') a ∙ place-map_same)

      go : (x ≡ l) ⊎ (x ≢ l) → (y ≡ l) ⊎ (y ≢ l) → x ≡ y
      go (inl a) (inl b) = a ∙ sym b
      go (inl a) (inr n) = absurd (new x y a n e)
      go (inr n) (inl b) = absurd (new y x b n (sym e))
      go (inr n) (inr o) = S.apart x y (rw (place-map_other x n) at h) (sym (place-map_other x n) ∙ e ∙ place-map_other y o)

  -- what else sound tables say is as before
  pub place_sound : Counted G (place G l g k t)
  place_sound =
      search (length-set, place_lens≤, place_seg<, place_page<, place_apart, place-listed, place_tails)

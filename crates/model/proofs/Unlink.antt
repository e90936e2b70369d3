-- Taking a mapped logical page out of the map and out of its segment's list keeps sound tables sound.
use Prim.Native.Nat.{ℕ, ◌+◌, ◌-◌, ◌≤◌, ◌<◌}
use native.Mathlib.Omega.{arith}
use mathlib.Core.Path.{◌≡◌, refl, sym, ap, ◌∙◌}
use mathlib.Core.Logic.{◌⊎◌, inl, inr, ◌≢◌}
use mathlib.Core.List.{[], ◌∷◌, ◌++◌}
use lib.Dec.{eqb}
use lib.ListN.{length, drop, length-set, length-append, length-replicate, replicate-append-replicate}
use lib.Seq.{get_or-set_same, get_or-set_other, take_at, drop_at}
use Rattle.model.specs.Lists.{bit, occ, slot, without, zeros}
use Rattle.model.specs.Numbers.{Geometry, empty, page_of, seg_of}
use Rattle.model.specs.Tables.{Tables, at, word_of, list_of}
use Rattle.model.specs.Sound.{Mapped, names}
use Rattle.model.specs.PageMap.{unlink}
use Rattle.model.proofs.Working.{Counted}
use Rattle.model.proofs.Slots.{same?, by_same, set_ind, set_both, on_slot-length, on_slot_same, on_slot_other}
use Rattle.model.proofs.Counts.{remove, bit_same, bit_other, length_remove, occ_remove, without-slot}
use Rattle.model.proofs.Reading.{Tail, in_valid, in_lens}
pub use Rattle.model.proofs.Slots.{mapped_lt}
pub use Rattle.model.proofs.Reading.{names-empty, names_at, names_pos, len≤, list_fits, list_length, slot_form}

module _ (G : Geometry) (t : Tables) (S : Counted G t) (l g : ℕ) (m : Mapped t l) (at_g : seg_of G (word_of t l) ≡ g) where
  abbrev t' : Tables
  t' = unlink G l g t

  seg : g < G.n
  seg = rw at_g at (S.seg< l m)

  in_list : occ l (list_of G t g) ≡ 1
  in_list = S.listed l g seg ∙ names_at G _ g m ∙ ap (λ x. bit (eqb x g)) at_g ∙ bit_same g

  short : length (remove l (list_of G t g)) ≡ at t.lens g - 1
  short = omega (arith, length_remove l (list_of G t g) (omega (arith, in_list)), list_length G t S g seg)

  pub len_pos : 0 < at t.lens g
  len_pos = omega (arith, length_remove l (list_of G t g) (omega (arith, in_list)), list_length G t S g seg)

  -- the segment's part: its list without l, and one zero more
  form : without l (slot G.p g t.lists) ≡ remove l (list_of G t g) ++ (zeros (G.p - at t.lens g) ++ (0 ∷ []))
  form = ap (without l) (slot_form G t S g seg) ∙ without-slot l (list_of G t g) _ (omega (arith, in_list))

  form_length : length (without l (slot G.p g t.lists)) ≡ G.p
  form_length = ap length form ∙ simp (length-append, length-replicate, short) (omega (arith, len_pos, len≤ G t S g))

  lens_same : at t'.lens g ≡ at t.lens g - 1
  lens_same = get_or-set_same t.lens g _ 0 (in_lens S.sized seg)

  lens_other : (j : ℕ) → j ≢ g → at t'.lens j ≡ at t.lens j
  lens_other j n = get_or-set_other t.lens g j _ 0 n

  slot_same : slot G.p g t'.lists ≡ remove l (list_of G t g) ++ (zeros (G.p - at t.lens g) ++ (0 ∷ []))
  slot_same = on_slot_same G.p g (without l) t.lists (list_fits G t S g seg) form_length ∙ form

  slot_other : (j : ℕ) → j ≢ g → slot G.p j t'.lists ≡ slot G.p j t.lists
  slot_other j n = on_slot_other G.p g j (without l) t.lists (list_fits G t S g seg) form_length n

  pub unlink_list : list_of G (unlink G l g t) g ≡ remove l (list_of G t g)
  unlink_list = rw (lens_same, slot_same) (take_at (remove l (list_of G t g)) _ (at t.lens g - 1) short)

  pub unlink_list_other : (j : ℕ) → j ≢ g → list_of G (unlink G l g t) j ≡ list_of G t j
  unlink_list_other j n = rw (lens_other j n, slot_other j n)

  unlink_lists_length : length t'.lists ≡ length t.lists
  unlink_lists_length = on_slot-length G.p g (without l) t.lists (list_fits G t S g seg) form_length

  unlink_tails : (j : ℕ) → j < G.n → Tail G t' j
  unlink_tails =
      by_same (λ j. j < G.n → Tail G t' j) g
      (λ _. rw (lens_same, slot_same) behind)
      (λ j n h. rw (lens_other j n, slot_other j n) (S.tails j h))
    where
      k : ℕ
      k = G.p - at t.lens g

      one_more : k + 1 ≡ G.p - (at t.lens g - 1)
      one_more = omega (arith, len_pos, len≤ G t S g)

      behind : drop (at t.lens g - 1) (remove l (list_of G t g) ++ (zeros k ++ (0 ∷ []))) ≡ zeros (G.p - (at t.lens g - 1))
      behind =
          drop_at (remove l (list_of G t g)) _ (at t.lens g - 1) short ∙ replicate-append-replicate k 1 0 ∙ ap zeros one_more

  -- the map
  map_same : word_of t' l ≡ empty
  map_same = get_or-set_same t.map l empty empty (mapped_lt t.map l empty m)

  map_other : (x : ℕ) → x ≢ l → word_of t' x ≡ word_of t x
  map_other x n = get_or-set_other t.map l x empty empty n

  -- what is mapped afterwards was mapped, at the same address
  pub unlink-kept : (x : ℕ) → Mapped (unlink G l g t) x → word_of (unlink G l g t) x ≡ word_of t x
  unlink-kept = by_same (λ x. Mapped t' x → word_of t' x ≡ word_of t x) l (λ h. absurd (h map_same)) (λ x n _. map_other x n)

  unlink-listed : (x j : ℕ) → j < G.n → occ x (list_of G t' j) ≡ names G (word_of t' x) j
  unlink-listed x j h = go (same? x l) (same? j g)
    where
      less : (x j : ℕ) → j ≡ g → occ x (list_of G t' j) + bit (eqb x l) ≡ occ x (list_of G t j)
      less x j e = rw (e, unlink_list) (occ_remove x l (list_of G t g) (omega (arith, in_list)))

      go : (x ≡ l) ⊎ (x ≢ l) → (j ≡ g) ⊎ (j ≢ g) → occ x (list_of G t' j) ≡ names G (word_of t' x) j
      go (inl e) (inl f) = rw (e, f, map_same, names-empty G g) (omega (arith, less l g refl, bit_same l, in_list))
      go (inl e) (inr f) =
          rw (e, map_same, names-empty G j, unlink_list_other j f)
          (S.listed l j h ∙ names_at G _ j m ∙ ap (λ x. bit (eqb x j)) at_g ∙ bit_other g j (λ q. f (sym q)))
      go (inr n) (inl f) = rw (map_other x n) (omega (arith, less x j f, bit_other x l n, S.listed x j h))
      go (inr n) (inr f) = rw (map_other x n, unlink_list_other j f) (S.listed x j h)

  unlink_lens≤ : (j : ℕ) → at t'.lens j ≤ at t'.valid j
  unlink_lens≤ =
      set_both (λ _ k v. k ≤ v) t.lens t.valid g _ _ (in_lens S.sized seg) (in_valid S.sized seg)
      (omega (arith, S.lens≤ g))
      S.lens≤

  unlink_valid≤ : (j : ℕ) → at t'.valid j + at t.free j ≤ G.p
  unlink_valid≤ =
      set_ind (λ j x. x + at t.free j ≤ G.p) t.valid g _ 0 (in_valid S.sized seg) (omega (arith, S.valid≤ g)) (λ j _. S.valid≤ j)

  unlink_seg< : (x : ℕ) → Mapped t' x → seg_of G (word_of t' x) < G.n
  unlink_seg< x h = rw (unlink-kept x h) (S.seg< x (rw (unlink-kept x h) at h))

  unlink_page< : (x : ℕ) → Mapped t' x → page_of G (word_of t' x) + at t.free (seg_of G (word_of t' x)) < G.p
  unlink_page< x h = rw (unlink-kept x h) (S.page< x (rw (unlink-kept x h) at h))

  unlink_apart : (x y : ℕ) → Mapped t' x → word_of t' x ≡ word_of t' y → x ≡ y
  unlink_apart x y h e =
      S.apart x y (rw (unlink-kept x h) at h) (sym (unlink-kept x h) ∙ e ∙ unlink-kept y (λ q. h (e ∙ q)))

  -- what else sound tables say is as before
  pub unlink_sound : Counted G (unlink G l g t)
  unlink_sound =
      search (
        length-set,
        unlink_lists_length,
        unlink_lens≤,
        unlink_valid≤,
        unlink_seg<,
        unlink_page<,
        unlink_apart,
        unlink-listed,
        unlink_tails,
      )

-- Unlinking, invalidating and forgetting, by the words that the code reads. Assumes nothing.
use Prim.Native.Nat.{ℕ, ◌*◌, ◌-◌, ◌<◌}
use native.Mathlib.Omega.{arith}
use mathlib.Core.Path.{◌≡◌, refl, sym, ap, ◌∙◌}
use mathlib.Core.Bool.{Bool, true, false, cond}
use mathlib.Core.List.{List}
use lib.Dec.{eqb}
use mathlib.Core.Logic.{◌≢◌}
use lib.ListN.{drop}
use lib.Seq.{take-take}
use borrow.Author.Tests.{eq-eqb, ne_eqb}
use Rattle.model.specs.declared.Geometry.{Geometry}
use Rattle.model.specs.Lists.{occ, on_slot, without}
use Rattle.model.specs.Numbers.{empty, seg_of}
use Rattle.model.specs.Tables.{Tables, at, word_of, region, list_of, set_used}
use Rattle.model.specs.Sound.{Mapped}
use Rattle.model.specs.PageMap.{unlink, enqueue, due, invalidate, forget}
use Rattle.model.proofs.Working.{Counted}
use Rattle.model.proofs.Slots.{any_default}
use Rattle.model.proofs.Reading.{names_one, len≤, in_lists}
use Rattle.model.proofs.Regions.{on_part}
use Rattle.model.proofs.Official.{sound_counted}
use Rattle.model.proofs.Unlink.{unlink_sound}
use Rattle.model.proofs.Enqueue.{has_room}
use Rattle.model.proofs.Forget.{forgot}
use Rattle.tables.specs.declared.TablesMut.{TablesMut}
use Rattle.tables.specs.Parts.{tables_of, SoundMarksAside}
use Rattle.tables.proofs.Parts.{sized_with}
use Rattle.page_map.specs.Parts.{Room}
use Rattle.page_map.proofs.Parts.{without_alone, part_alone}

-- sound tables in the working form, with other marks in the place of those that are lent
pub counted_aside : (t : TablesMut) (S : SoundMarksAside t) → Counted t.geo (set_used S.marks (tables_of t))
counted_aside t S = sound_counted t.geo (set_used S.marks (tables_of t)) (sized_with t S.marks S.size) S.sound

-- l is mapped into segment g
module _ {G : Geometry} {t : Tables} (C : Counted G t) (l g : ℕ) (m : Mapped t l) (e : seg_of G (word_of t l) ≡ g) where
  pub seg : g < G.n
  seg = omega (arith, C.seg< l m)

  -- the list that it leaves: its words, of which l is one once, and zeros behind
  words : region (g * G.p) (at t.lens g) t.lists ≡ list_of G t g
  words = sym (take-take (at t.lens g) G.p (drop (g * G.p) t.lists) (len≤ G t C g))

  pub list_once : occ l (region (g * G.p) (at t.lens g) t.lists) ≡ 1
  list_once = ap (occ l) words ∙ C.listed l g seg ∙ names_one G (word_of t l) g m e

  pub list_part : on_part (g * G.p) (at t.lens g) (without l) t.lists ≡ on_slot G.p g (without l) t.lists
  list_part =
      part_alone (without l) (g * G.p) (at t.lens g) G.p t.lists (len≤ G t C g) (in_lists C.sized seg)
      (without_alone l (at t.lens g) (G.p - at t.lens g) (region (g * G.p) G.p t.lists) (C.tails g seg)
      (omega (arith, list_once, ap (occ l) words)))

-- after it has left: free counts and flags are as they were, so the two tests give the three ways of invalidating
module _ (G : Geometry) (t : Tables) (l g : ℕ) (t' : Tables) (is : t' ≡ unlink G l g t) where
  free_same : at t'.free g ≡ at t.free g
  free_same = ap (λ (x : Tables). at x.free g) is

  flag_same : at t'.flags g ≡ at t.flags g
  flag_same = ap (λ (x : Tables). at x.flags g) is

  -- a segment that is due finds room in the queue: `has_room`
  pub due_room : {u : List ℕ} → Counted G (set_used u t) → Mapped t l → seg_of G (word_of t l) ≡ g → at t'.free g ≡ 0 → at t'.flags g ≡ 0 → Room G t'
  due_room {u} C m e f h =
      let U = unlink_sound G (set_used u t) C l g m e in
      let room = has_room G (unlink G l g (set_used u t)) U g (seg C l g m e) (sym free_same ∙ f) (sym flag_same ∙ h) in
      rw is record { some = room; blank = U.behind }

  pub invalidate-due : at t'.free g ≡ 0 → at t'.flags g ≡ 0 → enqueue G g t' ≡ invalidate G l g t
  unfolding invalidate
  invalidate-due f h = rw (is, eq-eqb _ _ (sym free_same ∙ f), eq-eqb _ _ (sym flag_same ∙ h))

  pub invalidate_flagged : at t'.free g ≡ 0 → at t'.flags g ≢ 0 → t' ≡ invalidate G l g t
  unfolding invalidate
  invalidate_flagged f h = is ∙ rw (eq-eqb _ _ (sym free_same ∙ f), ne_eqb _ _ (λ q. h (flag_same ∙ q)))

  pub invalidate_open : at t'.free g ≢ 0 → t' ≡ invalidate G l g t
  unfolding invalidate
  invalidate_open f = is ∙ rw (ne_eqb _ _ (λ q. f (free_same ∙ q)))

-- the map's word of l, by the word that is read
pub map-word : (t : TablesMut) (l : ℕ) → l < t.geo.e → at t.map.now l ≡ word_of (tables_of t) l
map-word t l h = any_default t.map.now l 0 empty (omega (arith, t.map_len))

-- the two ways of forgetting
module _ (G : Geometry) (t : Tables) (l a : ℕ) (is : a ≡ word_of t l) where
  pub forget_none : a ≡ empty → t ≡ forget G l t
  unfolding forget
  forget_none e = rw (eq-eqb _ _ (sym is ∙ e))

  pub forget_some : a ≢ empty → (g : ℕ) → g ≡ seg_of G a → invalidate G l g t ≡ forget G l t
  unfolding forget
  forget_some m g e = rw (ne_eqb _ _ (λ q. m (is ∙ q))) (ap (λ x. invalidate G l x t) (e ∙ ap (seg_of G) is))

-- invalidating and forgetting read no marks, and leave them
module _ (G : Geometry) (l : ℕ) (u : List ℕ) (t : Tables) where
  pub invalidate_aside : (g : ℕ) → set_used u (invalidate G l g t) ≡ invalidate G l g (set_used u t)
  unfolding invalidate
  invalidate_aside g = go (due G g t)
    where
      left : Tables → Bool → Tables
      left x d = cond d (enqueue G g (unlink G l g x)) (unlink G l g x)

      go : (d : Bool) → set_used u (left t d) ≡ left (set_used u t) d
      go true = refl
      go false = refl

  pub forget_aside : set_used u (forget G l t) ≡ forget G l (set_used u t)
  unfolding forget
  forget_aside = go (eqb (word_of t l) empty)
    where
      g : ℕ
      g = seg_of G (word_of t l)

      go : (b : Bool) → set_used u (cond b t (invalidate G l g t)) ≡ cond b (set_used u t) (invalidate G l g (set_used u t))
      go true = refl
      go false = invalidate_aside g

-- after it a list that was shorter than the valid count has room
pub list_room : (t : TablesMut) → SoundMarksAside t → (l g : ℕ) → at t.lens.now g < at t.valid.now g
    → at (forget t.geo l (tables_of t)).lens g < t.geo.p
list_room t S l g h =
    let F = forgot t.geo (set_used S.marks (tables_of t)) (counted_aside t S) l in
    omega (arith, F.gap g h, F.sound.valid≤ g, ap (λ (x : Tables). at x.lens g) (forget_aside t.geo l S.marks (tables_of t)))

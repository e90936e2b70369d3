-- What invalidating a logical page, if it is mapped, does to sound tables.
use Prim.Native.Nat.{ℕ, ◌+◌, ◌-◌, ◌<◌}
use native.Mathlib.Omega.{arith}
use mathlib.Core.Path.{◌≡◌, refl, ap, ◌∙◌}
use mathlib.Core.Bool.{Bool, true, false, cond, ◌&&◌}
use mathlib.Core.Logic.{◌≢◌}
use lib.Dec.{eqb}
use lib.Seq.{get_or-set_same, get_or-set_other}
use borrow.Author.Tests.{eqb-true, eqb-false}
use Rattle.model.specs.Lists.{occ}
use Rattle.model.specs.Numbers.{Geometry, empty, seg_of}
use Rattle.model.specs.Tables.{Tables, at, word_of, queue_of}
use Rattle.model.specs.Sound.{Mapped}
use Rattle.model.specs.PageMap.{enqueue, forget, invalidate, unlink}
use Rattle.model.proofs.Working.{Counted}
use Rattle.model.proofs.Slots.{mapped_lt, set_both}
use Rattle.model.proofs.Counts.{bit_other, occ-cons}
use Rattle.model.proofs.Reading.{in_valid, in_lens}
use Rattle.model.proofs.Unlink.{unlink_sound, len_pos}
use Rattle.model.proofs.Enqueue.{enqueue_sound, enqueue_queue}

-- t' is t with l out of the map and out of its list
pub record Forgot (G : Geometry) (l : ℕ) (t t' : Tables) : Type 0 where
  pub sound : Counted G t'
  pub gone : word_of t' l ≡ empty
  pub kept : (x : ℕ) → x ≢ l → word_of t' x ≡ word_of t x
  pub free : t'.free ≡ t.free
  -- a list that was shorter than the valid count still is
  pub gap : (g : ℕ) → at t.lens g < at t.valid g → at t'.lens g < at t'.valid g
  -- the segment that l was in has one less
  pub one_less : Mapped t l → at t'.lens (seg_of G (word_of t l)) ≡ at t.lens (seg_of G (word_of t l)) - 1
  -- of a segment whose flag is set, flag and place in the queue stay
  pub flagged : (v : ℕ) → at t.flags v ≡ 1 → at t'.flags v ≡ 1
  pub queue : (v : ℕ) → at t.flags v ≡ 1 → occ v (queue_of t') ≡ occ v (queue_of t)

module _ (G : Geometry) (t : Tables) (S : Counted G t) (l : ℕ) (m : Mapped t l) where
  abbrev g : ℕ
  g = seg_of G (word_of t l)

  abbrev t' : Tables
  t' = unlink G l g t

  gap : (j : ℕ) → at t.lens j < at t.valid j → at t'.lens j < at t'.valid j
  gap =
      set_both (λ j k v. at t.lens j < at t.valid j → k < v) t.lens t.valid g _ _
      (in_lens S.sized (S.seg< l m))
      (in_valid S.sized (S.seg< l m))
      (λ h. omega (arith, len_pos G t S l g m refl))
      (λ j h. h)

  unlinked : Forgot G l t t'
  unlinked =
      record {
        sound = unlink_sound G t S l g m refl;
        gone = get_or-set_same t.map l empty empty (mapped_lt t.map l empty m);
        kept = λ x n. get_or-set_other t.map l x empty empty n;
        free = refl;
        gap = gap;
        one_less = λ _. get_or-set_same t.lens g _ 0 (in_lens S.sized (S.seg< l m));
        flagged = λ v e. e;
        queue = λ v e. refl;
      }

  module _ (z : at t.free g ≡ 0) (off : at t.flags g ≡ 0) where
    not_g : (v : ℕ) → at t.flags v ≡ 1 → v ≢ g
    not_g v e q = omega (arith, ap (at t.flags) q)

    enqueued_sound : Counted G (enqueue G g t')
    enqueued_sound = enqueue_sound G t' unlinked.sound g (S.seg< l m) z off

    enqueued_flagged : (v : ℕ) → at t.flags v ≡ 1 → at (enqueue G g t').flags v ≡ 1
    enqueued_flagged v e = get_or-set_other t.flags g v 1 0 (not_g v e) ∙ e

    enqueued_queue : (v : ℕ) → at t.flags v ≡ 1 → occ v (queue_of (enqueue G g t')) ≡ occ v (queue_of t)
    enqueued_queue v e =
        ap (occ v) (enqueue_queue G t' unlinked.sound g (S.seg< l m) z off)
        ∙ occ-cons v g (queue_of t)
        ∙ ap (λ b. b + occ v (queue_of t)) (bit_other v g (not_g v e))
        ∙ omega arith

    enqueued : Forgot G l t (enqueue G g t')
    enqueued = let U : Forgot G l t t' = unlinked in search (enqueued_sound, enqueued_flagged, enqueued_queue)

  invalidated : Forgot G l t (invalidate G l g t)
  unfolding invalidate
  invalidated = go (eqb (at t.free g) 0) (eqb (at t.flags g) 0) refl refl
    where
      go : (a b : Bool) → eqb (at t.free g) 0 ≡ a → eqb (at t.flags g) 0 ≡ b
          → Forgot G l t (cond (a && b) (enqueue G g t') t')
      go true true p q = enqueued (eqb-true _ _ p) (eqb-true _ _ q)
      go true false p q = unlinked
      go false b p q = unlinked

pub forgot : (G : Geometry) (t : Tables) → Counted G t → (l : ℕ) → Forgot G l t (forget G l t)
unfolding forget
forgot G t S l = go (eqb (word_of t l) empty) refl
  where
    go : (b : Bool) → eqb (word_of t l) empty ≡ b → Forgot G l t (cond b t (invalidate G l (seg_of G (word_of t l)) t))
    go true e =
        record {
          sound = S;
          gone = eqb-true _ _ e;
          kept = λ x _. refl;
          free = refl;
          gap = λ g h. h;
          one_less = λ m. absurd (m (eqb-true _ _ e));
          flagged = λ v h. h;
          queue = λ v _. refl;
        }
    go false e = invalidated G t S l (eqb-false _ _ e)

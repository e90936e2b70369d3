-- Reading sound tables: what a word names, what lies within a table, and a segment's list and the queue place by place.
use Prim.Native.Nat.{ℕ, ◌+◌, ◌*◌, ◌-◌, ◌≤◌, ◌<◌}
use native.Mathlib.Omega.{arith}
use mathlib.Core.Path.{◌≡◌, refl, sym, ap, ◌∙◌}
use mathlib.Core.Logic.{◌⊎◌, inl, inr, ◌≢◌}
use mathlib.Core.List.{List, ◌++◌}
use lib.Dec.{eqb}
use lib.ListN.{length, drop, take-append-drop}
use lib.Seq.{get_or-take, length-take-le}
use borrow.Author.Tests.{eq-eqb, ne_eqb}
use Rattle.model.specs.Lists.{bit, occ, slot, zeros}
use Rattle.model.specs.Numbers.{Geometry, empty, seg_of}
use Rattle.model.specs.Tables.{Tables, at, word_of, queue_of, list_of}
use Rattle.model.specs.Sound.{Mapped, names, slot_of}
use Rattle.model.proofs.Working.{Counted, Sized}
use Rattle.model.proofs.Slots.{same?, less?, mapped_lt, part_fits, slot-length, slot_at}
use Rattle.model.proofs.Counts.{bit_other, occ-get_or, occ_index}

-- a word names its segment once and no other; the empty word names none
pub names-empty : (G : Geometry) (g : ℕ) → names G empty g ≡ 0
unfolding names
names-empty G g = refl

pub names_at : (G : Geometry) (a g : ℕ) → a ≢ empty → names G a g ≡ bit (eqb (seg_of G a) g)
unfolding names
names_at G a g h = rw (ne_eqb a empty h)

pub names_one : (G : Geometry) (a g : ℕ) → a ≢ empty → seg_of G a ≡ g → names G a g ≡ 1
names_one G a g m e = names_at G a g m ∙ ap bit (eq-eqb (seg_of G a) g e)

pub names_pos : (G : Geometry) (a g : ℕ) → 0 < names G a g → (a ≢ empty) × (seg_of G a ≡ g)
names_pos G a g h = go (same? a empty)
  where
    in_seg : a ≢ empty → (seg_of G a ≡ g) ⊎ (seg_of G a ≢ g) → seg_of G a ≡ g
    in_seg n (inl e) = e
    in_seg n (inr f) = absurd (let z : 0 < 0 = rw (names_at G a g n, bit_other (seg_of G a) g f) at h in omega arith)

    go : (a ≡ empty) ⊎ (a ≢ empty) → (a ≢ empty) × (seg_of G a ≡ g)
    go (inl e) = absurd (let z : 0 < 0 = rw (e, names-empty G g) at h in omega arith)
    go (inr n) = (n, in_seg n (same? (seg_of G a) g))

pub names≤ : (G : Geometry) (a g : ℕ) → names G a g ≤ 1
names≤ G a g = go (less? 0 (names G a g))
  where
    go : (0 < names G a g) ⊎ (names G a g ≤ 0) → names G a g ≤ 1
    go (inl h) = omega (arith, names_one G a g (names_pos G a g h).0 (names_pos G a g h).1)
    go (inr h) = omega arith

-- a segment lies within each table of segments, its part within the lists and the use marks
module _ {G : Geometry} {t : Tables} (Z : Sized G t) {g : ℕ} (h : g < G.n) where
  pub in_free : g < length t.free
  in_free = rw Z.free h

  pub in_valid : g < length t.valid
  in_valid = rw Z.valid h

  pub in_lens : g < length t.lens
  in_lens = rw Z.lens h

  pub in_flags : g < length t.flags
  in_flags = rw Z.flags h

  pub in_lists : g * G.p + G.p ≤ length t.lists
  in_lists = rw Z.lists (part_fits G.p h)

  pub in_used : g * G.p + G.p ≤ length t.used
  in_used = rw Z.used (part_fits G.p h)

  pub row_length : length (slot G.p g t.lists) ≡ G.p
  row_length = slot-length G.p g t.lists in_lists

-- xs is the first k numbers that f reads
pub record Reads (xs : List ℕ) (k : ℕ) (f : ℕ → ℕ) : Type 0 where
  pub size : length xs ≡ k
  pub each : (i : ℕ) → i < k → at xs i ≡ f i

-- a number that f reads stands in xs, and one that stands in xs is read
module _ {xs : List ℕ} {k : ℕ} {f : ℕ → ℕ} (R : Reads xs k f) where
  pub stands : (i : ℕ) → i < k → 0 < occ (f i) xs
  stands i h = rw (R.each i h) at (occ-get_or xs i (rw R.size h))

  pub place_of : (x : ℕ) → 0 < occ x xs → (i : ℕ) × (i < k) × (f i ≡ x)
  place_of x h =
      let r : (i : ℕ) × (i < length xs) × (at xs i ≡ x) = occ_index x 0 xs h in
      let b : r.0 < k = rw R.size at r.1 in
      (r.0, b, sym (R.each r.0 b) ∙ r.2)

-- the list of a segment is what its slots hold, and the queue what its places hold
module _ {G : Geometry} {t : Tables} (Z : Sized G t) where
  pub list_reads : (g : ℕ) → g < G.n → at t.lens g ≤ G.p → Reads (list_of G t g) (at t.lens g) (slot_of G t g)
  list_reads g h b =
      record {
        size = length-take-le (at t.lens g) (slot G.p g t.lists) (rw (row_length Z h) b);
        each = λ i a. get_or-take (at t.lens g) (slot G.p g t.lists) i 0 a ∙ slot_at G.p g t.lists i 0 (omega arith);
      }

  pub queue_reads : t.queued ≤ G.n → Reads (queue_of t) t.queued (at t.queue)
  queue_reads b =
      record {
        size = length-take-le t.queued t.queue (rw Z.queue b);
        each = λ i a. get_or-take t.queued t.queue i 0 a;
      }

-- behind the list of segment g stand zeros
abbrev pub Tail : Geometry → Tables → ℕ → Type 0
Tail G t g = drop (at t.lens g) (slot G.p g t.lists) ≡ zeros (G.p - at t.lens g)

module _ (G : Geometry) (t : Tables) (S : Counted G t) where
  pub len≤ : (g : ℕ) → at t.lens g ≤ G.p
  len≤ g = omega (arith, S.lens≤ g, S.valid≤ g)

  pub list_fits : (g : ℕ) → g < G.n → g * G.p + G.p ≤ length t.lists
  list_fits g h = in_lists S.sized h

  pub counted_list : (g : ℕ) → g < G.n → Reads (list_of G t g) (at t.lens g) (slot_of G t g)
  counted_list g h = list_reads S.sized g h (len≤ g)

  pub counted_queue : Reads (queue_of t) t.queued (at t.queue)
  counted_queue = queue_reads S.sized S.queued≤

  pub list_length : (g : ℕ) → g < G.n → length (list_of G t g) ≡ at t.lens g
  list_length g h = (counted_list g h).size

  -- a segment's part of the lists is its list, and zeros behind
  pub slot_form : (g : ℕ) → g < G.n → slot G.p g t.lists ≡ list_of G t g ++ zeros (G.p - at t.lens g)
  slot_form g h = sym (take-append-drop (at t.lens g) (slot G.p g t.lists)) ∙ ap (λ z. list_of G t g ++ z) (S.tails g h)

  -- what stands in the list of g is mapped into g
  pub list_mapped : (l g : ℕ) → g < G.n → 0 < occ l (list_of G t g) → Mapped t l × (seg_of G (word_of t l) ≡ g)
  list_mapped l g h b = names_pos G (word_of t l) g (rw (S.listed l g h) at b)

  -- a flag is set below n only, so the queue holds segments
  pub flag_in : (g : ℕ) → 0 < at t.flags g → g < G.n
  flag_in g h = rw S.sized.flags at (mapped_lt t.flags g 0 (omega arith))

  pub queue_in : (g : ℕ) → 0 < occ g (queue_of t) → g < G.n
  queue_in g h = flag_in g (omega (arith, S.once g))

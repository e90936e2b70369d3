-- The steps of the test together: tables that pass every step are sound, and sound tables pass every step.
use Prim.Native.Nat.{ℕ, ◌+◌, ◌*◌, ◌^◌, ◌≤◌, ◌<◌}
use native.Mathlib.Omega.{arith}
use mathlib.Core.Path.{◌≡◌, sym, ap, ◌∙◌, subst}
use lib.ListN.{length}
use lib.Seq.{get_or-take, length-take-le}
use Rattle.model.specs.declared.Geometry.{Geometry}
use Rattle.model.specs.Numbers.{Good, empty, seg_of, page_of}
use Rattle.model.specs.Tables.{Tables, at, word_of, queue_of}
use Rattle.model.specs.Sound.{Sound, Mapped, used_in, slot_of}
use Rattle.model.proofs.Working.{Sized}
use Rattle.model.proofs.Slots.{part_fits}
use Rattle.model.proofs.Address.{below}
use Rattle.model.proofs.Unlink.{mapped_lt}
use Rattle.sound.specs.Steps.{Segment, Heads, Balanced}
use Rattle.sound.proofs.Placed.{placed_segment, placed_page, named_placed}
use Rattle.sound.proofs.Bijection.{counted_covered, covered_counted}
use Rattle.sound.proofs.Flat.{Flat, to_flat, from_flat}

-- what is listed is mapped into the segment that lists it, once
record Listing (G : Geometry) (t : Tables) : Type 0 where
  mapped : (g i : ℕ) → g < G.n → i < at t.lens g → Mapped t (slot_of G t g i)
  tells : (g i : ℕ) → g < G.n → i < at t.lens g → seg_of G (word_of t (slot_of G t g i)) ≡ g
  once : (g i j : ℕ) → g < G.n → i < at t.lens g → j < at t.lens g → slot_of G t g i ≡ slot_of G t g j → i ≡ j

-- logical page l stands on the list of a segment
abbrev On : Geometry → Tables → ℕ → Type 0
On G t l = (g : ℕ) × (i : ℕ) × (g < G.n) × (i < at t.lens g) × (slot_of G t g i ≡ l)

module _ (G : Geometry) (t : Tables) (K : Good G) (Z : Sized G t) where
  abbrev step : ℕ
  step = 2 ^ G.w

  used_most : (g : ℕ) → used_in G t g ≤ step
  used_most g = omega (arith, K.narrow)

  -- as many entries as mapped pages, exactly where all mapped pages are listed
  module _ (ls : Listing G t) where
    covered : Balanced t → (l : ℕ) → Mapped t l → On G t l
    covered = counted_covered empty t.map t.lens G.n Z.lens (slot_of G t) (λ k. seg_of G (word_of t k)) ls.mapped ls.tells ls.once

    counted : ((l : ℕ) → Mapped t l → On G t l) → Balanced t
    counted = covered_counted empty t.map t.lens G.n Z.lens (slot_of G t) (λ k. seg_of G (word_of t k)) ls.mapped ls.tells ls.once

  -- the queue as far as its length
  module _ (fits : t.queued ≤ G.n) where
    places : length (queue_of t) ≡ t.queued
    places = length-take-le t.queued t.queue (rw Z.queue fits)

    place : (i : ℕ) → i < t.queued → at (queue_of t) i ≡ at t.queue i
    place i l = get_or-take t.queued t.queue i 0 l

  -- ---- all steps passed

  module _ (hd : Heads G t) (rows : (g : ℕ) → g < G.n → Segment G t g) (even : Balanced t) where
    row : (g : ℕ) → g < G.n → Flat G t g
    row g h = to_flat G t Z g h (rows g h)

    seat : (g i : ℕ) → g < G.n → i < at t.lens g → seg_of G (word_of t (slot_of G t g i)) ≡ g
    seat g i h l = placed_segment step g (word_of t (slot_of G t g i)) (used_in G t g) (used_most g) ((row g h).above i l) ((row g h).below i l)

    -- the addresses of segments lie below the empty word
    not_empty : (g i : ℕ) → g < G.n → i < at t.lens g → Mapped t (slot_of G t g i)
    not_empty g i h l e = omega (arith, (row g h).below i l, used_most g, part_fits step h, below G K)

    listing : Listing G t
    listing =
        record {
          mapped = not_empty;
          tells = seat;
          once = λ g i j h a b e. (row g h).apart i j a b (ap (word_of t) e);
        }

    home : (l : ℕ) → Mapped t l → On G t l
    home = covered listing even

    -- the segment that lists l is the one that its address names
    names : (l : ℕ) (m : Mapped t l) → seg_of G (word_of t l) ≡ (home l m).0
    names l m = let o = home l m in ap (λ k. seg_of G (word_of t k)) (sym o.4) ∙ seat o.0 o.1 o.2 o.3

    page : (l : ℕ) (m : Mapped t l) → page_of G (word_of t l) < used_in G t (seg_of G (word_of t l))
    page l m =
        let o = home l m in
        let g = o.0 in
        let r = row g o.2 in
        subst (λ k. page_of G (word_of t l) < used_in G t k) (sym (names l m))
        (subst (λ k. page_of G (word_of t k) < used_in G t g) o.4
        (placed_page step g (word_of t (slot_of G t g o.1)) (used_in G t g) (used_most g) (r.above o.1 o.3) (r.below o.1 o.3)))

    -- two entries with one address are one, where their segments are
    one : (g r i j : ℕ) → g < G.n → i < at t.lens g → j < at t.lens r → g ≡ r
        → word_of t (slot_of G t g i) ≡ word_of t (slot_of G t r j) → slot_of G t g i ≡ slot_of G t r j
    one g r i j h a b q e =
        subst (λ k. j < at t.lens k → word_of t (slot_of G t g i) ≡ word_of t (slot_of G t k j) → slot_of G t g i ≡ slot_of G t k j) q
        (λ c f. ap (slot_of G t g) ((row g h).apart i j a c f)) b e

    differ : (l k : ℕ) → Mapped t l → Mapped t k → word_of t l ≡ word_of t k → l ≡ k
    differ l k m m' e =
        let o = home l m in
        let q = home k m' in
        let same : o.0 ≡ q.0 = sym (names l m) ∙ ap (seg_of G) e ∙ names k m' in
        sym o.4
        ∙ one o.0 q.0 o.1 q.1 o.2 o.3 q.3 same (ap (word_of t) o.4 ∙ e ∙ sym (ap (word_of t) q.4))
        ∙ q.4

    found : (l : ℕ) (m : Mapped t l) → (i : ℕ) × (i < at t.lens (seg_of G (word_of t l))) × (slot_of G t (seg_of G (word_of t l)) i ≡ l)
    found l m =
        let o = home l m in
        subst (λ (g : ℕ). (i : ℕ) × (i < at t.lens g) × (slot_of G t g i ≡ l)) (sym (names l m)) (o.1, o.3, o.4)

    in_queue : (i : ℕ) → i < t.queued → i < length (queue_of t)
    in_queue i l = rw (places hd.fits) l

    queued : (i : ℕ) → i < t.queued → (at t.queue i < G.n) × (at t.free (at t.queue i) ≡ 0) × (at t.flags (at t.queue i) ≡ 1)
    queued i l =
        let e : at (queue_of t) i ≡ at t.queue i = place hd.fits i l in
        let b = in_queue i l in (
          omega (arith, hd.queue.within i b, Z.free),
          ap (at t.free) (sym e) ∙ hd.queue.full i b,
          ap (at t.flags) (sym e) ∙ hd.queue.flagged i b,
        )

    pub tested_sound : Sound G t
    tested_sound =
        record {
          segment = λ l m. omega (arith, names l m, (home l m).2);
          page = page;
          differ = differ;
          room = λ g h. (row g h).numbers.room;
          ones = λ g k h. (row g h).ones k;
          zeros = λ g k h. (row g h).none k;
          listed = λ g i h l. (not_empty g i h l, seat g i h l);
          found = found;
          once = listing.once;
          least = λ g h. (row g h).numbers.least;
          most = λ g h. (row g h).numbers.most;
          fits = hd.fits;
          queued = queued;
          distinct = λ i j a b e. hd.queue.apart i j (in_queue i a) (in_queue j b) (place hd.fits i a ∙ e ∙ sym (place hd.fits j b));
          flag = λ g h. (row g h).numbers.bit;
          full = λ g h. (row g h).numbers.full;
          past = λ g i h. (row g h).past i;
          behind = hd.behind;
          alloc = hd.alloc;
        }

  -- ---- sound tables

  module _ (S : Sound G t) where
    placed : (g i : ℕ) → g < G.n → i < at t.lens g → (g * step ≤ word_of t (slot_of G t g i)) × (word_of t (slot_of G t g i) < g * step + used_in G t g)
    placed g i h l =
        let m = S.listed g i h l in
        named_placed step g (word_of t (slot_of G t g i)) (used_in G t g) m.1
        (subst (λ k. page_of G (word_of t (slot_of G t g i)) < used_in G t k) m.1 (S.page (slot_of G t g i) m.0))

    pub sound_segment : (g : ℕ) → g < G.n → Segment G t g
    sound_segment g h =
        from_flat G t Z g h
        (record {
          numbers = record { room = S.room g h; most = S.most g h; least = S.least g h; bit = S.flag g h; full = S.full g h };
          ones = λ k. S.ones g k h;
          none = λ k. S.zeros g k h;
          past = λ i. S.past g i h;
          within = λ i l. rw Z.map at (mapped_lt t.map (slot_of G t g i) empty (S.listed g i h l).0);
          above = λ i l. (placed g i h l).0;
          below = λ i l. (placed g i h l).1;
          apart = λ i j a b e. S.once g i j h a b (S.differ _ _ (S.listed g i h a).0 (S.listed g j h b).0 e);
        })

    all_listed : Listing G t
    all_listed = record { mapped = λ g i h l. (S.listed g i h l).0; tells = λ g i h l. (S.listed g i h l).1; once = S.once }

    on : (l : ℕ) → Mapped t l → On G t l
    on l m = let w = S.found l m in (seg_of G (word_of t l), w.0, S.segment l m, w.1, w.2)

    pub sound_balanced : Balanced t
    sound_balanced = counted all_listed on

    in_slots : (i : ℕ) → i < length (queue_of t) → i < t.queued
    in_slots i l = rw (places S.fits) at l

    entry : (i : ℕ) → i < length (queue_of t) → at (queue_of t) i ≡ at t.queue i
    entry i l = place S.fits i (in_slots i l)

    pub sound_heads : Heads G t
    sound_heads =
        record {
          alloc = S.alloc;
          fits = S.fits;
          behind = S.behind;
          queue =
              record {
                within = λ i l. omega (arith, entry i l, (S.queued i (in_slots i l)).0, Z.free);
                full = λ i l. ap (at t.free) (entry i l) ∙ (S.queued i (in_slots i l)).1;
                flagged = λ i l. ap (at t.flags) (entry i l) ∙ (S.queued i (in_slots i l)).2;
                apart = λ i j a b e. S.distinct i j (in_slots i a) (in_slots j b) (sym (entry i a) ∙ e ∙ entry j b);
              };
        }

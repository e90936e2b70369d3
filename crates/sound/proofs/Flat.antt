-- One segment, said of its parts of the tables, and said of the places of the whole tables.
use Prim.Native.Nat.{ℕ, zero, suc, ◌+◌, ◌*◌, ◌^◌, ◌≤◌, ◌<◌}
use native.Mathlib.Nat.{not-suc-le-zero, le_of_suc-le-suc}
use native.Mathlib.Omega.{arith}
use mathlib.Core.Path.{◌≡◌, refl, sym, ap, ◌∙◌}
use mathlib.Core.List.{List, [], ◌∷◌}
use lib.ListN.{length, get_or}
use lib.Seq.{get_or-take, length-take-le}
use Rattle.model.specs.declared.Geometry.{Geometry}
use Rattle.model.specs.Lists.{slot}
use Rattle.model.specs.Numbers.{empty}
use Rattle.model.specs.Tables.{Tables, at, word_of, list_of}
use Rattle.model.specs.Sound.{used_in, slot_of}
use Rattle.model.proofs.Working.{Sized}
use Rattle.model.proofs.Slots.{part_fits, slot-length, slot_at}
use Rattle.sound.specs.Steps.{Numbers, Segment}

pub record Flat (G : Geometry) (t : Tables) (g : ℕ) : Type 0 where
  pub numbers : Numbers G.p (at t.free g) (at t.valid g) (at t.lens g) (at t.flags g)
  pub ones : (k : ℕ) → k < used_in G t g → at t.used (g * G.p + k) ≡ 1
  pub none : (k : ℕ) → used_in G t g ≤ k → k < G.p → at t.used (g * G.p + k) ≡ 0
  pub past : (i : ℕ) → at t.lens g ≤ i → i < G.p → slot_of G t g i ≡ 0
  pub within : (i : ℕ) → i < at t.lens g → slot_of G t g i < G.e
  pub above : (i : ℕ) → i < at t.lens g → g * 2 ^ G.w ≤ word_of t (slot_of G t g i)
  pub below : (i : ℕ) → i < at t.lens g → word_of t (slot_of G t g i) < g * 2 ^ G.w + used_in G t g
  pub apart : (i j : ℕ) → i < at t.lens g → j < at t.lens g → word_of t (slot_of G t g i) ≡ word_of t (slot_of G t g j) → i ≡ j

-- what stands inside a list does not hang on the default
inside : (xs : List ℕ) (l d d' : ℕ) → l < length xs → get_or xs l d ≡ get_or xs l d'
inside [] l d d' h = absurd (not-suc-le-zero h)
inside (x ∷ xs) zero d d' h = refl
inside (x ∷ xs) (suc l) d d' h = inside xs l d d' (le_of_suc-le-suc h)

module _ (G : Geometry) (t : Tables) (Z : Sized G t) (g : ℕ) (h : g < G.n) where
  abbrev p : ℕ
  p = G.p

  abbrev len : ℕ
  len = at t.lens g

  marks : length (slot p g t.used) ≡ p
  marks = slot-length p g t.used (rw Z.used (part_fits p h))

  words : length (slot p g t.lists) ≡ p
  words = slot-length p g t.lists (rw Z.lists (part_fits p h))

  -- the list's entries, where they are no more than there are slots
  module _ (fits : len ≤ p) where
    entries : length (list_of G t g) ≡ len
    entries = length-take-le len (slot p g t.lists) (rw words fits)

    entry : (i : ℕ) → i < len → at (list_of G t g) i ≡ slot_of G t g i
    entry i l = get_or-take len (slot p g t.lists) i 0 l ∙ slot_at p g t.lists i 0 (omega arith)

    word : (i : ℕ) → i < len → slot_of G t g i < G.e → at t.map (at (list_of G t g) i) ≡ word_of t (slot_of G t g i)
    word i l b = ap (at t.map) (entry i l) ∙ inside t.map (slot_of G t g i) 0 empty (rw Z.map b)

  pub to_flat : Segment G t g → Flat G t g
  to_flat r =
      let fits : len ≤ p = omega (arith, r.numbers.least, r.numbers.most) in
      let es = r.slots.entries in
      let in_list : (i : ℕ) → i < len → i < length (list_of G t g) = λ i l. omega (arith, entries fits) in
      let in_map : (i : ℕ) → i < len → slot_of G t g i < G.e = λ i l. omega (arith, entry fits i l, es.within i (in_list i l), Z.map) in
      record {
        numbers = r.numbers;
        ones = λ k l. sym (slot_at p g t.used k 0 (omega arith)) ∙ r.marks.ones k l;
        none = λ k a l. sym (slot_at p g t.used k 0 l) ∙ r.marks.none k a (rw marks l);
        past = λ i a l. sym (slot_at p g t.lists i 0 l) ∙ r.slots.past i a (rw words l);
        within = in_map;
        above = λ i l. omega (arith, word fits i l (in_map i l), es.above i (in_list i l));
        below = λ i l. omega (arith, word fits i l (in_map i l), es.below i (in_list i l));
        apart = λ i j a b q. es.apart i j (in_list i a) (in_list j b) (word fits i a (in_map i a) ∙ q ∙ sym (word fits j b (in_map j b)));
      }

  pub from_flat : Flat G t g → Segment G t g
  from_flat f =
      let fits : len ≤ p = omega (arith, f.numbers.least, f.numbers.most) in
      let in_len : (i : ℕ) → i < length (list_of G t g) → i < len = λ i l. omega (arith, entries fits) in
      let as-word : (i : ℕ) → i < len → at t.map (at (list_of G t g) i) ≡ word_of t (slot_of G t g i) = λ i l. word fits i l (f.within i l) in
      record {
        numbers = f.numbers;
        marks =
            record {
              ones = λ k l. slot_at p g t.used k 0 (omega arith) ∙ f.ones k l;
              none = λ k a l. let b : k < p = rw marks at l in slot_at p g t.used k 0 b ∙ f.none k a b;
            };
        slots =
            record {
              past = λ i a l. let b : i < p = rw words at l in slot_at p g t.lists i 0 b ∙ f.past i a b;
              entries =
                  record {
                    within = λ i l. omega (arith, entry fits i (in_len i l), f.within i (in_len i l), Z.map);
                    above = λ i l. omega (arith, as-word i (in_len i l), f.above i (in_len i l));
                    below = λ i l. omega (arith, as-word i (in_len i l), f.below i (in_len i l));
                    apart = λ i j a b q. f.apart i j (in_len i a) (in_len j b) (sym (as-word i (in_len i a)) ∙ q ∙ as-word j (in_len j b));
                  };
            };
      }

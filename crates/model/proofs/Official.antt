-- Sound tables in three forms, and they are one: the official record, the working record that says "each once" by counting, and the test.
use Prim.Native.Nat.{ℕ, zero, suc, ◌+◌, ◌≤◌, ◌<◌}
use native.Mathlib.Omega.{arith}
use mathlib.Core.Path.{◌≡◌, refl, sym, ap, ◌∙◌}
use mathlib.Core.Bool.{Bool, true, false}
use mathlib.Core.Logic.{◌⊎◌, inl, inr, ◌≢◌}
use mathlib.Core.List.{List, [], ◌∷◌}
use lib.Dec.{eqb}
use lib.ListN.{length}
use Rattle.model.specs.Lists.{bit, occ, slot}
use Rattle.model.specs.Numbers.{Geometry, seg_of}
use Rattle.model.specs.Tables.{Tables, at, word_of, queue_of, list_of}
use Rattle.model.specs.Sound.{Mapped, Sound, names, slot_of, soundb}
use Rattle.model.proofs.Working.{Counted, Sized}
use Rattle.model.proofs.Slots.{same?, less?, by_end, past_end, mapped_lt, slot_at, zeros_from, zero_at}
use Rattle.model.proofs.Counts.{bit_same, bit_other, occ-get_or, occ_index}
use Rattle.model.proofs.Reading.{Tail, names_one, names_pos, names≤, row_length, Reads, stands, place_of}
use Rattle.model.proofs.Reading.{list_reads, queue_reads, counted_list, counted_queue, list_mapped, queue_in}
use Rattle.model.proofs.Decide.{test_counted, counted_test}

-- no number stands at two of the first k places that f reads
abbrev Apart : ℕ → (ℕ → ℕ) → Type 0
Apart k f = (i j : ℕ) → i < k → j < k → f i ≡ f j → i ≡ j

-- Then each number stands once at most, and the other way round.
apart_occ : (xs : List ℕ) → Apart (length xs) (at xs) → (x : ℕ) → occ x xs ≤ 1
unfolding occ
apart_occ [] h x = omega arith
apart_occ (y ∷ ys) h x = go (same? x y) (less? 0 (occ x ys)) (apart_occ ys behind x)
  where
    behind : Apart (length ys) (at ys)
    behind i j a b e = omega (arith, h (suc i) (suc j) (omega arith) (omega arith) e)

    twice : x ≡ y → 0 < occ x ys → ⊥
    twice e b =
        let r : (i : ℕ) × (i < length ys) × (at ys i ≡ x) = occ_index x 0 ys b in
        omega (arith, h (suc r.0) 0 (omega (arith, r.1)) (omega arith) (r.2 ∙ e))

    go : (x ≡ y) ⊎ (x ≢ y) → (0 < occ x ys) ⊎ (occ x ys ≤ 0) → occ x ys ≤ 1 → bit (eqb x y) + occ x ys ≤ 1
    go (inl e) (inl b) ih = absurd (twice e b)
    go (inl e) (inr b) ih = rw e (omega (arith, bit_same y, rw e at b))
    go (inr n) _ ih = omega (arith, bit_other x y n)

occ_apart : (xs : List ℕ) → ((x : ℕ) → occ x xs ≤ 1) → Apart (length xs) (at xs)
unfolding occ
occ_apart [] h i j a b e = omega arith
occ_apart (y ∷ ys) h zero zero a b e = refl
occ_apart (y ∷ ys) h zero (suc j) a b e =
    let o : 0 < occ y ys = rw (sym e) at (occ-get_or ys j (omega arith)) in
    omega (arith, h y, bit_same y)
occ_apart (y ∷ ys) h (suc i) zero a b e =
    let o : 0 < occ y ys = rw e at (occ-get_or ys i (omega arith)) in
    omega (arith, h y, bit_same y)
occ_apart (y ∷ ys) h (suc i) (suc j) a b e = ap suc (occ_apart ys (λ x. omega (arith, h x)) i j (omega arith) (omega arith) e)

-- what f reads differs from place to place exactly if each number stands once at most
module _ {xs : List ℕ} {k : ℕ} {f : ℕ → ℕ} (R : Reads xs k f) where
  single : Apart k f → (x : ℕ) → occ x xs ≤ 1
  single h = apart_occ xs apart
    where
      apart : Apart (length xs) (at xs)
      apart i j a b e =
          let a' : i < k = rw R.size at a in
          let b' : j < k = rw R.size at b in
          h i j a' b' (sym (R.each i a') ∙ e ∙ R.each j b')

  differing : ((x : ℕ) → occ x xs ≤ 1) → Apart k f
  differing h i j a b e = occ_apart xs h i j (rw R.size a) (rw R.size b) (R.each i a ∙ e ∙ sym (R.each j b))

-- two numbers, each 0 or 1, that are positive together
same_bit : (a b : ℕ) → a ≤ 1 → b ≤ 1 → (0 < a → 0 < b) → (0 < b → 0 < a) → a ≡ b
same_bit a b x y f g = go (less? 0 a) (less? 0 b)
  where
    go : (0 < a) ⊎ (a ≤ 0) → (0 < b) ⊎ (b ≤ 0) → a ≡ b
    go (inl c) _ = omega (arith, f c)
    go (inr c) (inl d) = omega (arith, g d)
    go (inr c) (inr d) = omega arith

-- the working form has every field of the official one
module _ (G : Geometry) (t : Tables) (S : Counted G t) where
  counted_found : (l : ℕ) → Mapped t l → 0 < occ l (list_of G t (seg_of G (word_of t l)))
  counted_found l m =
      let g : ℕ = seg_of G (word_of t l) in
      omega (arith, S.listed l g (S.seg< l m), names_one G (word_of t l) g m refl)

  counted_queued : (g : ℕ) → 0 < occ g (queue_of t) → (g < G.n) × (at t.free g ≡ 0) × (at t.flags g ≡ 1)
  counted_queued g b =
      let f : 0 < at t.flags g = omega (arith, S.once g) in
      (queue_in G t S g b, S.full g f, omega (arith, S.flag≤ g))

pub counted_sound : (G : Geometry) (t : Tables) → Counted G t → Sound G t
counted_sound G t S =
    record {
      segment = S.seg<;
      page = λ l m. omega (arith, S.page< l m);
      differ = λ l m a _ e. S.apart l m a e;
      room = λ g _. S.free≤ g;
      ones = λ g k h b. S.marked g k h (omega arith);
      zeros = λ g k h a b. S.clear g k h b (omega arith);
      listed = λ g i h b. list_mapped G t S (slot_of G t g i) g h (stands (counted_list G t S g h) i b);
      found = λ l m. place_of (counted_list G t S (seg_of G (word_of t l)) (S.seg< l m)) l (counted_found G t S l m);
      once = λ g i j h. differing (counted_list G t S g h) (λ x. rw (S.listed x g h) (names≤ G (word_of t x) g)) i j;
      least = λ g _. S.lens≤ g;
      most = λ g _. omega (arith, S.valid≤ g);
      fits = S.queued≤;
      queued = λ i b. counted_queued G t S (at t.queue i) (stands (counted_queue G t S) i b);
      distinct = differing (counted_queue G t S) (λ g. omega (arith, S.once g, S.flag≤ g));
      flag = λ g _. S.flag≤ g;
      full = λ g _ e. S.full g (omega arith);
      past = λ g i h a b. sym (slot_at G.p g t.lists i 0 b) ∙ zero_at (slot G.p g t.lists) (at t.lens g) G.p i (S.tails g h) a b;
      behind = λ i a b. zero_at t.queue t.queued G.n i S.behind a b;
      alloc = S.alloc<;
    }

-- and the official form, over tables of the right sizes, has every field of the working one
module _ (G : Geometry) (t : Tables) (Z : Sized G t) (S : Sound G t) where
  sound_lens : (g : ℕ) → at t.lens g ≤ at t.valid g
  sound_lens = by_end (λ g. at t.lens g ≤ at t.valid g) G.n S.least (λ g h. omega (arith, past_end t.lens G.n g Z.lens h))

  sound_valid : (g : ℕ) → at t.valid g + at t.free g ≤ G.p
  sound_valid =
      by_end (λ g. at t.valid g + at t.free g ≤ G.p) G.n (λ g h. omega (arith, S.room g h, S.most g h))
      (λ g h. omega (arith, past_end t.valid G.n g Z.valid h, past_end t.free G.n g Z.free h))

  sound_flag : (g : ℕ) → at t.flags g ≤ 1
  sound_flag = by_end (λ g. at t.flags g ≤ 1) G.n S.flag (λ g h. omega (arith, past_end t.flags G.n g Z.flags h))

  sound_full : (g : ℕ) → 0 < at t.flags g → at t.free g ≡ 0
  sound_full g f = S.full g (rw Z.flags at (mapped_lt t.flags g 0 (omega arith))) (omega (arith, sound_flag g))

  sound_list : (g : ℕ) → g < G.n → Reads (list_of G t g) (at t.lens g) (slot_of G t g)
  sound_list g h = list_reads Z g h (omega (arith, S.least g h, S.most g h))

  sound_queue : Reads (queue_of t) t.queued (at t.queue)
  sound_queue = queue_reads Z S.fits

  -- who stands in the list of g is mapped into g, and who is mapped stands in a list
  sound_mapped : (l g : ℕ) → g < G.n → 0 < occ l (list_of G t g) → Mapped t l × (seg_of G (word_of t l) ≡ g)
  sound_mapped l g h b =
      let r : (i : ℕ) × (i < at t.lens g) × (slot_of G t g i ≡ l) = place_of (sound_list g h) l b in
      rw r.2 at (S.listed g r.0 h r.1)

  sound_found : (l : ℕ) → Mapped t l → 0 < occ l (list_of G t (seg_of G (word_of t l)))
  sound_found l m =
      let g : ℕ = seg_of G (word_of t l) in
      let r : (i : ℕ) × (i < at t.lens g) × (slot_of G t g i ≡ l) = S.found l m in
      rw r.2 at (stands (sound_list g (S.segment l m)) r.0 r.1)

  sound_listed : (l g : ℕ) → g < G.n → occ l (list_of G t g) ≡ names G (word_of t l) g
  sound_listed l g h =
      same_bit (occ l (list_of G t g)) (names G (word_of t l) g) once (names≤ G (word_of t l) g) named found
    where
      once : occ l (list_of G t g) ≤ 1
      once = single (sound_list g h) (λ i j. S.once g i j h) l

      named : 0 < occ l (list_of G t g) → 0 < names G (word_of t l) g
      named b =
          let r : Mapped t l × (seg_of G (word_of t l) ≡ g) = sound_mapped l g h b in
          omega (arith, names_one G (word_of t l) g r.0 r.1)

      found : 0 < names G (word_of t l) g → 0 < occ l (list_of G t g)
      found b =
          let r : Mapped t l × (seg_of G (word_of t l) ≡ g) = names_pos G (word_of t l) g b in
          rw r.1 at (sound_found l r.0)

  sound_tails : (g : ℕ) → g < G.n → Tail G t g
  sound_tails g h =
      zeros_from (slot G.p g t.lists) (at t.lens g) G.p (row_length Z h)
      (λ j a b. slot_at G.p g t.lists j 0 b ∙ S.past g j h a b)

  sound_once : (g : ℕ) → occ g (queue_of t) ≤ at t.flags g
  sound_once g = go (less? 0 (occ g (queue_of t)))
    where
      go : (0 < occ g (queue_of t)) ⊎ (occ g (queue_of t) ≤ 0) → occ g (queue_of t) ≤ at t.flags g
      go (inl b) =
          let r : (i : ℕ) × (i < t.queued) × (at t.queue i ≡ g) = place_of sound_queue g b in
          let f : at t.flags g ≡ 1 = rw r.2 at (S.queued r.0 r.1).2 in
          omega (arith, single sound_queue S.distinct g)
      go (inr b) = omega arith

pub sound_counted : (G : Geometry) (t : Tables) → Sized G t → Sound G t → Counted G t
sound_counted G t Z S =
    record {
      sized = Z;
      free≤ = λ g. omega (arith, sound_valid G t Z S g);
      marked = λ g k h b. S.ones g k h (omega arith);
      clear = λ g k h a b. S.zeros g k h (omega arith) a;
      lens≤ = sound_lens G t Z S;
      valid≤ = sound_valid G t Z S;
      seg< = S.segment;
      page< = λ l m. omega (arith, S.page l m);
      apart = λ l m a e. S.differ l m a (λ q. a (e ∙ q)) e;
      listed = sound_listed G t Z S;
      tails = sound_tails G t Z S;
      once = sound_once G t Z S;
      flag≤ = sound_flag G t Z S;
      full = sound_full G t Z S;
      queued≤ = S.fits;
      behind = zeros_from t.queue t.queued G.n Z.queue S.behind;
      alloc< = S.alloc;
    }

-- a Bool says P: true that it holds, false that it does not
abbrev pub Says : Bool → Type 0 → Type 0
Says true P = P
Says false P = P → ⊥

says : (b : Bool) (P : Type 0) → (b ≡ true → P) → (P → b ≡ true) → Says b P
says true P f g = f refl
says false P f g = λ h. let e : false ≡ true = g h in absurd (let z : ◌≡◌ {A = ℕ} 0 1 = cc in omega arith)

says_same : (r b : Bool) (P : Type 0) → Says r P → Says b P → r ≡ b
says_same true true P x y = refl
says_same true false P x y = absurd (y x)
says_same false true P x y = absurd (x y)
says_same false false P x y = refl

-- the test says that tables are sound
pub soundb_counted : (G : Geometry) (t : Tables) → Sized G t → soundb G t ≡ true → Counted G t
soundb_counted = test_counted

pub counted_soundb : (G : Geometry) (t : Tables) → Counted G t → soundb G t ≡ true
counted_soundb = counted_test

pub soundb_says : (G : Geometry) (t : Tables) → Sized G t → Says (soundb G t) (Sound G t)
soundb_says G t Z =
    says (soundb G t) (Sound G t) (λ e. counted_sound G t (test_counted G t Z e)) (λ S. counted_test G t (sound_counted G t Z S))

pub says_soundb : (G : Geometry) (t : Tables) → Sized G t → (r : Bool) → Says r (Sound G t) → r ≡ soundb G t
says_soundb G t Z r h = says_same r (soundb G t) (Sound G t) h (soundb_says G t Z)

-- The test for sound tables passes exactly on sound tables, in their working form.
use Prim.Native.Nat.{ℕ, ◌+◌, ◌*◌, ◌-◌, ◌≤◌, ◌<◌}
use native.Mathlib.Omega.{arith}
use mathlib.Core.Path.{◌≡◌, sym, ap, ◌∙◌}
use mathlib.Core.Bool.{Bool, true, cond}
use mathlib.Core.Logic.{◌⊎◌, inl, inr}
use mathlib.Core.List.{List}
use lib.Dec.{T, ltb, eqb}
use lib.ListN.{get_or, drop, get_or-eq_default}
use borrow.Author.Tests.{eqb-true, leb-true, ltb-true, eq-eqb, ne_eqb, le-leb, lt-ltb, le-ltb}
use Rattle.model.specs.Lists.{bit, every, occ, slot, zeros}
use Rattle.model.specs.Numbers.{Geometry, empty}
use Rattle.model.specs.Tables.{Tables, at, word_of, list_of, queue_of}
use Rattle.model.specs.Sound.{Mapped, names, slot_of, soundb, apart?, entry_tests, listed?, mark?, place?, seg_tests, slot?, sound_tests, word_tests}
use Rattle.model.proofs.Working.{Counted, Sized}
use Rattle.model.proofs.Slots.{same?, less?, by_end, past_end, mapped_lt, slot_at, zeros_from, zero_at}
use Rattle.model.proofs.Tests.{T→true, each, at_all, for_all, under, over}
use Rattle.model.proofs.Reading.{Tail, names-empty, row_length, stands, place_of, list_reads, queue_reads}
use Rattle.model.proofs.Reading.{counted_list, counted_queue, list_mapped, queue_in}

-- what only stands in xs below n does not stand there from n on
none_past : (x n : ℕ) (xs : List ℕ) → (0 < occ x xs → x < n) → n ≤ x → occ x xs ≡ 0
none_past x n xs f h = go (less? 0 (occ x xs))
  where
    go : (0 < occ x xs) ⊎ (occ x xs ≤ 0) → occ x xs ≡ 0
    go (inl b) = omega (arith, f b)
    go (inr b) = omega arith

-- tables that pass are sound
module _ (G : Geometry) (t : Tables) (Z : Sized G t) (ok : soundb G t ≡ true) where
  test : (i : ℕ) → get_or (sound_tests G t) i true ≡ true
  unfolding soundb
  test = each (sound_tests G t) ok

  segment : (g : ℕ) → g < G.n → (i : ℕ) → get_or (seg_tests G t g) i true ≡ true
  segment g h = each (seg_tests G t g) (at_all G.n (λ g. every (seg_tests G t g)) (test 0) g h)

  entry : (l : ℕ) → l < G.e → (i : ℕ) → get_or (entry_tests G t l) i true ≡ true
  entry l h = each (entry_tests G t l) (at_all G.e (λ l. every (entry_tests G t l)) (test 1) l h)

  -- past the tables' end the counts are 0
  abbrev Counts : ℕ → Type 0
  Counts g = (at t.free g ≤ G.p) × (at t.lens g ≤ at t.valid g) × (at t.valid g + at t.free g ≤ G.p)

  counts : (g : ℕ) → Counts g
  counts =
      by_end Counts G.n (λ g h. (leb-true _ _ (segment g h 2), leb-true _ _ (segment g h 3), leb-true _ _ (segment g h 4)))
      (λ g h. omega (arith, past_end t.free G.n g Z.free h, past_end t.lens G.n g Z.lens h, past_end t.valid G.n g Z.valid h))

  mark : (g k : ℕ) → g < G.n → k < G.p → at t.used (g * G.p + k) ≡ bit (ltb (k + at t.free g) G.p)
  mark g k h b = eqb-true _ _ (at_all G.p (mark? G t g) (segment g h 0) k b)

  word : (l : ℕ) → Mapped t l → (i : ℕ) → get_or (word_tests G t l) i true ≡ true
  word l m = each (word_tests G t l) (rw (ne_eqb (word_of t l) empty m) at (entry l (rw Z.map at (mapped_lt t.map l empty m)) 0))

  apart : (l m : ℕ) → Mapped t l → word_of t l ≡ word_of t m → l ≡ m
  apart l m n e =
      let hm : m < G.e = rw Z.map at (mapped_lt t.map m empty (λ q. n (e ∙ q))) in
      eqb-true l m (under (eqb (word_of t l) (word_of t m)) (eqb l m) (at_all G.e (apart? G t l) (word l n 2) m hm) (eq-eqb _ _ e))

  -- a list holds numbers below e only, and the queue numbers below n
  listed< : (g j : ℕ) → g < G.n → j < at t.lens g → slot_of G t g j < G.e
  listed< g j h b =
      let k : j < G.p = omega (arith, counts g) in
      ltb-true _ _ (rw (lt-ltb j (at t.lens g) b) at (at_all G.p (slot? G t g) (segment g h 1) j k))

  small : (l g : ℕ) → g < G.n → 0 < occ l (list_of G t g) → l < G.e
  small l g h b =
      let r : (i : ℕ) × (i < at t.lens g) × (slot_of G t g i ≡ l) = place_of (list_reads Z g h (omega (arith, counts g))) l b in
      omega (arith, listed< g r.0 h r.1, r.2)

  queue< : (j : ℕ) → j < t.queued → at t.queue j < G.n
  queue< j b =
      let k : j < G.n = omega (arith, leb-true t.queued G.n (test 2)) in
      ltb-true _ _ (rw (lt-ltb j t.queued b) at (at_all G.n (place? G t) (test 3) j k))

  queue_small : (g : ℕ) → 0 < occ g (queue_of t) → g < G.n
  queue_small g b =
      let r : (i : ℕ) × (i < t.queued) × (at t.queue i ≡ g) = place_of (queue_reads Z (leb-true _ _ (test 2))) g b in
      omega (arith, queue< r.0 r.1, r.2)

  listed : (l g : ℕ) → g < G.n → occ l (list_of G t g) ≡ names G (word_of t l) g
  listed l g h =
      by_end (λ l. occ l (list_of G t g) ≡ names G (word_of t l) g) G.e
      (λ l b. eqb-true _ _ (at_all G.n (listed? G t l) (entry l b 1) g h))
      (λ l b.
      none_past l G.e (list_of G t g) (small l g h) b
      ∙ sym (ap (λ a. names G a g) (get_or-eq_default t.map empty {n = l} (rw Z.map b)) ∙ names-empty G g))
      l

  tails : (g : ℕ) → g < G.n → Tail G t g
  tails g h =
      zeros_from (slot G.p g t.lists) (at t.lens g) G.p (row_length Z h)
      (λ j a b.
      slot_at G.p g t.lists j 0 b ∙ eqb-true _ _ (rw (le-ltb j (at t.lens g) a) at (at_all G.p (slot? G t g) (segment g h 1) j b)))

  behind : drop t.queued t.queue ≡ zeros (G.n - t.queued)
  behind =
      zeros_from t.queue t.queued G.n Z.queue
      (λ j a b. eqb-true _ _ (rw (le-ltb j t.queued a) at (at_all G.n (place? G t) (test 3) j b)))

  abbrev Flags : ℕ → Type 0
  Flags g = (at t.flags g ≤ 1) × (0 < at t.flags g → at t.free g ≡ 0) × (occ g (queue_of t) ≤ at t.flags g)

  flags : (g : ℕ) → Flags g
  flags =
      by_end Flags G.n
      (λ g h. (
        leb-true _ _ (segment g h 5),
        λ f. eqb-true _ _ (under (ltb 0 (at t.flags g)) (eqb (at t.free g) 0) (segment g h 6) (lt-ltb _ _ f)),
        leb-true _ _ (segment g h 7),
      ))
      (λ g h. omega (arith, past_end t.flags G.n g Z.flags h, none_past g G.n (queue_of t) (queue_small g) h))

  pub test_counted : Counted G t
  test_counted =
      record {
        sized = Z;
        free≤ = λ g. (counts g).0;
        marked = λ g k h b. mark g k h (omega arith) ∙ ap bit (lt-ltb _ _ b);
        clear = λ g k h a b. mark g k h a ∙ ap bit (le-ltb _ _ b);
        lens≤ = λ g. (counts g).1;
        valid≤ = λ g. (counts g).2;
        seg< = λ l m. ltb-true _ _ (word l m 0);
        page< = λ l m. ltb-true _ _ (word l m 1);
        apart = apart;
        listed = listed;
        tails = tails;
        once = λ g. (flags g).2;
        flag≤ = λ g. (flags g).0;
        full = λ g. (flags g).1;
        queued≤ = leb-true _ _ (test 2);
        behind = behind;
        alloc< = ltb-true _ _ (test 4);
      }

-- and sound tables pass
module _ (G : Geometry) (t : Tables) (S : Counted G t) where
  pass_mark : (g k : ℕ) → g < G.n → k < G.p → mark? G t g k ≡ true
  pass_mark g k h b = go (less? (k + at t.free g) G.p)
    where
      go : (k + at t.free g < G.p) ⊎ (G.p ≤ k + at t.free g) → mark? G t g k ≡ true
      go (inl c) = eq-eqb _ _ (S.marked g k h c ∙ sym (ap bit (lt-ltb _ _ c)))
      go (inr c) = eq-eqb _ _ (S.clear g k h b c ∙ sym (ap bit (le-ltb _ _ c)))

  pass_slot : (g j : ℕ) → g < G.n → j < G.p → slot? G t g j ≡ true
  pass_slot g j h b = go (less? j (at t.lens g))
    where
      in_list : j < at t.lens g → slot_of G t g j < G.e
      in_list c =
          let m : Mapped t (slot_of G t g j) = (list_mapped G t S (slot_of G t g j) g h (stands (counted_list G t S g h) j c)).0 in
          rw S.sized.map at (mapped_lt t.map (slot_of G t g j) empty m)

      go : (j < at t.lens g) ⊎ (at t.lens g ≤ j) → slot? G t g j ≡ true
      go (inl c) = rw (lt-ltb j (at t.lens g) c) (lt-ltb _ _ (in_list c))
      go (inr c) =
          rw (le-ltb j (at t.lens g) c)
          (eq-eqb _ _ (sym (slot_at G.p g t.lists j 0 b) ∙ zero_at (slot G.p g t.lists) (at t.lens g) G.p j (S.tails g h) c b))

  pass_segment : (g : ℕ) → g < G.n → every (seg_tests G t g) ≡ true
  unfolding every
  pass_segment g h =
      rw (
        for_all G.p (mark? G t g) (λ k b. pass_mark g k h b),
        for_all G.p (slot? G t g) (λ j b. pass_slot g j h b),
        le-leb _ _ (S.free≤ g),
        le-leb _ _ (S.lens≤ g),
        le-leb _ _ (S.valid≤ g),
        le-leb _ _ (S.flag≤ g),
        over (ltb 0 (at t.flags g)) (eqb (at t.free g) 0) (λ f. eq-eqb _ _ (S.full g (ltb-true _ _ f))),
        le-leb _ _ (S.once g),
      )

  pass_word : (l : ℕ) → cond (eqb (word_of t l) empty) true (every (word_tests G t l)) ≡ true
  unfolding every
  pass_word l = go (same? (word_of t l) empty)
    where
      go : (word_of t l ≡ empty) ⊎ Mapped t l → cond (eqb (word_of t l) empty) true (every (word_tests G t l)) ≡ true
      go (inl e) = rw (eq-eqb (word_of t l) empty e)
      go (inr m) =
          rw (
            ne_eqb (word_of t l) empty m,
            lt-ltb _ _ (S.seg< l m),
            lt-ltb _ _ (S.page< l m),
            for_all G.e (apart? G t l)
                (λ x _. over (eqb (word_of t l) (word_of t x)) (eqb l x) (λ e. eq-eqb l x (S.apart l x m (eqb-true _ _ e)))),
          )

  pass_entry : (l : ℕ) → every (entry_tests G t l) ≡ true
  unfolding every
  pass_entry l = rw (pass_word l, for_all G.n (listed? G t l) (λ g h. eq-eqb _ _ (S.listed l g h)))

  pass_place : (j : ℕ) → j < G.n → place? G t j ≡ true
  pass_place j b = go (less? j t.queued)
    where
      go : (j < t.queued) ⊎ (t.queued ≤ j) → place? G t j ≡ true
      go (inl c) = rw (lt-ltb j t.queued c) (lt-ltb _ _ (queue_in G t S (at t.queue j) (stands (counted_queue G t S) j c)))
      go (inr c) = rw (le-ltb j t.queued c) (eq-eqb _ _ (zero_at t.queue t.queued G.n j S.behind c b))

  pub counted_test : soundb G t ≡ true
  unfolding soundb every
  counted_test =
      rw (
        for_all G.n (λ g. every (seg_tests G t g)) pass_segment,
        for_all G.e (λ l. every (entry_tests G t l)) (λ l _. pass_entry l),
        le-leb _ _ S.queued≤,
        for_all G.n (place? G t) pass_place,
        lt-ltb _ _ S.alloc<,
      )

-- the same of a test as a type
pub nth : (bs : List Bool) → T (every bs) → (i : ℕ) → T (get_or bs i true)
nth bs h i = rw (each bs (T→true (every bs) h) i) tt

pub test_sound : (G : Geometry) (t : Tables) → Sized G t → T (soundb G t) → Counted G t
test_sound G t Z h = test_counted G t Z (T→true (soundb G t) h)

pub sound_test_lem : (G : Geometry) (t : Tables) → Sized G t → Counted G t → T (soundb G t)
sound_test_lem G t Z S = rw (counted_test G t S) tt

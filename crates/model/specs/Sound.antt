-- Document 01, "Sound tables": a field for each sentence, and the test that decides it.
use Rattle.std.specs.Prelude.{ℕ, ◌+◌, ◌*◌, ◌-◌, ◌≤◌, ◌<◌, ◌≡◌, ◌≢◌, Bool, true, cond, List, [], ◌∷◌, ltb, leb, eqb, length}
use Rattle.model.specs.Lists.{all, every, bit, occ}
use Rattle.model.specs.Numbers.{Geometry, empty, seg_of, page_of}
use Rattle.model.specs.Tables.{Tables, at, word_of, queue_of, list_of, tab_words, pages, view}

-- logical page l is mapped; how many pages of segment g are used; slot i of its list
abbrev pub Mapped : Tables → ℕ → Type 0
Mapped t l = word_of t l ≢ empty

abbrev pub used_in : Geometry → Tables → ℕ → ℕ
used_in G t g = G.p - at t.free g

abbrev pub slot_of : Geometry → Tables → ℕ → ℕ → ℕ
slot_of G t g i = at t.lists (g * G.p + i)

pub record Sound (G : Geometry) (t : Tables) : Type 0 where
  -- "Map entries are empty or name a segment < n and one of its used pages; mapped addresses differ."
  pub segment : (l : ℕ) → Mapped t l → seg_of G (word_of t l) < G.n
  pub page : (l : ℕ) → Mapped t l → page_of G (word_of t l) < used_in G t (seg_of G (word_of t l))
  pub differ : (l m : ℕ) → Mapped t l → Mapped t m → word_of t l ≡ word_of t m → l ≡ m
  -- "Used pages of a segment are its first ones, and free count = p - used." "Use marks .. are 0 or 1."
  pub room : (g : ℕ) → g < G.n → at t.free g ≤ G.p
  pub ones : (g k : ℕ) → g < G.n → k < used_in G t g → at t.used (g * G.p + k) ≡ 1
  pub zeros : (g k : ℕ) → g < G.n → used_in G t g ≤ k → k < G.p → at t.used (g * G.p + k) ≡ 0
  -- "Its list holds exactly the logical pages mapped into it, each once."
  pub listed : (g i : ℕ) → g < G.n → i < at t.lens g → Mapped t (slot_of G t g i) × (seg_of G (word_of t (slot_of G t g i)) ≡ g)
  pub found : (l : ℕ) → Mapped t l → (i : ℕ) × (i < at t.lens (seg_of G (word_of t l))) × (slot_of G t (seg_of G (word_of t l)) i ≡ l)
  pub once : (g i j : ℕ) → g < G.n → i < at t.lens g → j < at t.lens g → slot_of G t g i ≡ slot_of G t g j → i ≡ j
  -- "Valid count lies from the list's length to used."
  pub least : (g : ℕ) → g < G.n → at t.lens g ≤ at t.valid g
  pub most : (g : ℕ) → g < G.n → at t.valid g ≤ used_in G t g
  -- "Queued segments are distinct, have free count 0 and their flag set;"
  pub fits : t.queued ≤ G.n
  pub queued : (i : ℕ) → i < t.queued → (at t.queue i < G.n) × (at t.free (at t.queue i) ≡ 0) × (at t.flags (at t.queue i) ≡ 1)
  pub distinct : (i j : ℕ) → i < t.queued → j < t.queued → at t.queue i ≡ at t.queue j → i ≡ j
  -- "a flag may also be set on an unqueued segment with free count 0." ".. and flags are 0 or 1."
  pub flag : (g : ℕ) → g < G.n → at t.flags g ≤ 1
  pub full : (g : ℕ) → g < G.n → at t.flags g ≡ 1 → at t.free g ≡ 0
  -- "Slots past a list's or the queue's length are 0."
  pub past : (g i : ℕ) → g < G.n → at t.lens g ≤ i → i < G.p → slot_of G t g i ≡ 0
  pub behind : (i : ℕ) → t.queued ≤ i → i < G.n → at t.queue i ≡ 0
  -- "The allocation segment is < n."
  pub alloc : t.alloc < G.n

-- words and use marks of the right sizes, with sound tables in them
pub record SoundTables (G : Geometry) (words used : List ℕ) : Type 0 where
  pub words_size : length words ≡ tab_words G
  pub used_size : length used ≡ pages G
  pub sound : Sound G (view G words used)

-- 1 if the word a names segment g, 0 if it is empty or names another
unfoldable pub names : Geometry → ℕ → ℕ → ℕ
names G a g = cond (eqb a empty) 0 (bit (eqb (seg_of G a) g))

-- The test, over tables of the right sizes. "Exactly, each once" is tested by counting.
module _ (G : Geometry) (t : Tables) where
  abbrev pub mark? : ℕ → ℕ → Bool
  mark? g k = eqb (at t.used (g * G.p + k)) (bit (ltb (k + at t.free g) G.p))

  abbrev pub slot? : ℕ → ℕ → Bool
  slot? g j = cond (ltb j (at t.lens g)) (ltb (slot_of G t g j) G.e) (eqb (slot_of G t g j) 0)

  -- segment g: use marks, list slots, free count, list's length, valid count, flag, and its place in the queue
  abbrev pub seg_tests : ℕ → List Bool
  seg_tests g =
      all G.p (mark? g)
      ∷ all G.p (slot? g)
      ∷ leb (at t.free g) G.p
      ∷ leb (at t.lens g) (at t.valid g)
      ∷ leb (at t.valid g + at t.free g) G.p
      ∷ leb (at t.flags g) 1
      ∷ cond (ltb 0 (at t.flags g)) (eqb (at t.free g) 0) true
      ∷ leb (occ g (queue_of t)) (at t.flags g)
      ∷ []

  -- the word of logical page l names a used page, and no other logical page has it
  abbrev pub apart? : ℕ → ℕ → Bool
  apart? l m = cond (eqb (word_of t l) (word_of t m)) (eqb l m) true

  abbrev pub word_tests : ℕ → List Bool
  word_tests l =
      ltb (seg_of G (word_of t l)) G.n
      ∷ ltb (page_of G (word_of t l) + at t.free (seg_of G (word_of t l))) G.p
      ∷ all G.e (apart? l)
      ∷ []

  -- l stands as often in the list of g as its word names g
  abbrev pub listed? : ℕ → ℕ → Bool
  listed? l g = eqb (occ l (list_of G t g)) (names G (word_of t l) g)

  abbrev pub entry_tests : ℕ → List Bool
  entry_tests l = cond (eqb (word_of t l) empty) true (every (word_tests l)) ∷ all G.n (listed? l) ∷ []

  abbrev pub place? : ℕ → Bool
  place? j = cond (ltb j t.queued) (ltb (at t.queue j) G.n) (eqb (at t.queue j) 0)

  abbrev pub sound_tests : List Bool
  sound_tests =
      all G.n (λ g. every (seg_tests g))
      ∷ all G.e (λ l. every (entry_tests l))
      ∷ leb t.queued G.n
      ∷ all G.n place?
      ∷ ltb t.alloc G.n
      ∷ []

  unfoldable pub soundb : Bool
  soundb = every sound_tests

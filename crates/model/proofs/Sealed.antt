-- A saved file has its length, passes every test and says what was written, so sound tables come back; whatever passes comes back sound.
use Prim.Native.Nat.{ℕ, zero, suc, ◌+◌, ◌*◌, ◌^◌, ◌≤◌, ◌<◌}
use native.Mathlib.Nat.{add-zero, zero-add, mul-le-mul, div-lt_iff_lt-mul}
use native.Mathlib.Omega.{arith}
use lib.Pow.{pow_pos}
use mathlib.Core.Path.{◌≡◌, refl, sym, ap, ap₂, ◌∙◌}
use mathlib.Core.Logic.{◌⊎◌, inl, inr, ◌≢◌}
use mathlib.Core.Bool.{Bool, true, false}
use mathlib.Core.List.{List, [], ◌∷◌, ◌++◌, append_assoc, append-nil}
use lib.Dec.{leb}
use lib.ListN.{length, get_or, take, drop, length-append}
use lib.Seq.{take_at, drop_at, take-append_seam, drop-append_seam, length-take-le}
use borrow.Author.Tests.{lt-ltb, le-leb, eq-eqb, ltb-true, leb-true, eqb-true}
use Rattle.crc32.specs.Crc32.{crc32}
use Rattle.crc32.proofs.Laws.{crc_lt}
use Rattle.model.specs.Lists.{up_to, first_not, splice}
use Rattle.model.specs.Numbers.{Geometry, Good, empty}
use Rattle.model.specs.Tables.{Tables, at, word_of}
use Rattle.model.specs.Checkpoint.{alloc_of, file, file_size, file_tests, free_of, head, magic, map_of, reason_of, restored, restored_from, sealed, version}
use Rattle.model.specs.Checkpoint.{word, long, words, word_at, long_at, words_at}
use Rattle.model.proofs.Working.{Counted}
use Rattle.model.proofs.Slots.{same?, length-splice}
use Rattle.model.proofs.Tests.{both}
use Rattle.model.proofs.Address.{below}
use Rattle.model.proofs.Restore.{Back, round_trip, restored_sound}
use Rattle.model.proofs.Bytes.{Words, length-word, length-words, length-read, words_append, word-at, long-at, words-at}

-- how many map entries there are at most
pub entries : (G : Geometry) → Good G → G.e ≤ 67107840
entries G K = omega (arith, K.e≤, mul-le-mul K.n≤ K.p≤)

-- d laid in at the front of xs: it stands there, what lies behind is as it was, and so is the length
pub take_spliced : (d xs : List ℕ) → take (length d) (splice 0 d xs) ≡ d
unfolding splice
take_spliced d xs = take-append_seam d (drop (0 + length d) xs)

pub drop_spliced : (d xs : List ℕ) → drop (length d) (splice 0 d xs) ≡ drop (length d) xs
unfolding splice
drop_spliced d xs = drop-append_seam d (drop (0 + length d) xs) ∙ ap (λ k. drop k xs) (zero-add (length d))

pub length_spliced : (d xs : List ℕ) → length d ≤ length xs → length (splice 0 d xs) ≡ length xs
length_spliced d xs h = length-splice 0 d xs (omega arith)

-- every number is at most p: the test, both ways
pub up_to_lem : (p : ℕ) (xs : List ℕ) → ((g : ℕ) → at xs g ≤ p) → up_to p xs ≡ true
unfolding up_to
up_to_lem p [] h = refl
up_to_lem p (x ∷ xs) h = rw (le-leb x p (h 0)) (up_to_lem p xs (λ g. h (suc g)))

pub up_to_at : (p : ℕ) (xs : List ℕ) → up_to p xs ≡ true → (g : ℕ) → at xs g ≤ p
unfolding up_to
up_to_at p [] h g = omega arith
up_to_at p (x ∷ xs) h zero = leb-true x p (both (leb x p) (up_to p xs) h).0
up_to_at p (x ∷ xs) h (suc g) = up_to_at p xs (both (leb x p) (up_to p xs) h).1 g

-- the first i tests of a list pass
infixr 5 ◌then◌
pub data Passed : ℕ → List Bool → Type 0 where
  end : {bs : List Bool} → Passed 0 bs
  ◌then◌ : {b : Bool} {bs : List Bool} {i : ℕ} → b ≡ true → Passed i bs → Passed (suc i) (b ∷ bs)

-- and one more
pub passed_more : (i : ℕ) (bs : List Bool) → Passed i bs → get_or bs i false ≡ true → Passed (suc i) bs
passed_more zero [] end e = absurd (let z : ◌≡◌ {A = ℕ} 0 1 = cc in omega arith)
passed_more zero (b ∷ bs) end e = e then end
passed_more (suc i) [] h e = elim h [ ]
passed_more (suc i) (b ∷ bs) (d then h) e = d then passed_more i bs h e

-- the tests before i pass and that one fails: it is the first
pub first_fails : (k i : ℕ) (bs : List Bool) → Passed i bs → get_or bs i true ≡ false → first_not k bs ≡ k + i
first_fails k zero [] h e = absurd (let z : ◌≡◌ {A = ℕ} 0 1 = cc in omega arith)
first_fails k zero (b ∷ bs) h e = rw e (sym (add-zero k))
first_fails k (suc i) [] h e = elim h [ ]
first_fails k (suc i) (b ∷ bs) (d then h) e = rw d (first_fails (suc k) i bs h e ∙ omega arith)

-- all pass: none is
pub none_first : (k : ℕ) (bs : List Bool) → Passed (length bs) bs → first_not k bs ≡ 0
none_first k [] h = refl
none_first k (b ∷ bs) (d then h) = rw d (none_first (suc k) bs h)

-- none is: each passes
pub none_fails : (k : ℕ) (bs : List Bool) → first_not (suc k) bs ≡ 0 → (i : ℕ) → get_or bs i true ≡ true
none_fails k [] h i = refl
none_fails k (true ∷ bs) h zero = refl
none_fails k (true ∷ bs) h (suc i) = none_fails (suc k) bs h i
none_fails k (false ∷ bs) h i = absurd (omega arith)

-- the number of a test is at most how many there are
pub first_most : (k : ℕ) (bs : List Bool) → first_not (suc k) bs ≤ k + length bs
first_most k [] = omega arith
first_most k (true ∷ bs) = omega (arith, first_most (suc k) bs)
first_most k (false ∷ bs) = omega arith

module _ (G : Geometry) (alloc : ℕ) where
  pub length-head : length (head G alloc) ≡ 40
  unfolding head long word
  length-head = refl

  module _ (body : List ℕ) where
    -- the file and its sum
    abbrev F : List ℕ
    F = file G alloc body

    abbrev c : ℕ
    c = crc32 (head G alloc ++ words body)

    -- the bytes before the body
    length_front : length (head G alloc ++ word c) ≡ 44
    length_front = length-append (head G alloc) (word c) ∙ omega (arith, length-head, length-word c)

    pub length-file : length (file G alloc body) ≡ 44 + 4 * length body
    unfolding file
    length-file = simp length-append (omega (arith, length-head, length-word c, length-words body))

    pub take-file : take 40 (file G alloc body) ≡ head G alloc
    unfolding file
    take-file = rw append_assoc (take_at (head G alloc) (word c ++ words body) 40 length-head)

    pub drop-file : drop 44 (file G alloc body) ≡ words body
    unfolding file
    drop-file = drop_at (head G alloc ++ word c) (words body) 44 length_front

    -- a field of the head that starts at byte k
    short : (k : ℕ) → k ≤ 40 → length (take k (head G alloc)) ≡ k
    short k h = length-take-le k (head G alloc) (omega (arith, length-head))

    word_field : (k x : ℕ) → k ≤ 40 → x < 4294967296 → F ≡ take k (head G alloc) ++ (word x ++ drop (k + 4) F) → word_at F k ≡ x
    word_field k x h l e = ap (λ z. word_at z k) e ∙ word-at (take k (head G alloc)) k (short k h) (drop (k + 4) F) x l

    long_field : (k x : ℕ) → k ≤ 40 → x < 18446744073709551616 → F ≡ take k (head G alloc) ++ (long x ++ drop (k + 8) F) → long_at F k ≡ x
    long_field k x h l e = ap (λ z. long_at z k) e ∙ long-at (take k (head G alloc)) k (short k h) (drop (k + 8) F) x l

    pub says_magic : word_at (file G alloc body) 0 ≡ magic
    unfolding file head long word
    says_magic = word_field 0 magic (omega arith) (omega arith) refl

    pub says_version : word_at (file G alloc body) 4 ≡ version
    unfolding file head long word
    says_version = word_field 4 version (omega arith) (omega arith) refl

    pub says_alloc : alloc < 18446744073709551616 → alloc_of G (file G alloc body) ≡ alloc
    unfolding file head long word
    says_alloc h = long_field 8 alloc (omega arith) h refl

    pub says_n : G.n < 18446744073709551616 → long_at (file G alloc body) 16 ≡ G.n
    unfolding file head long word
    says_n h = long_field 16 G.n (omega arith) h refl

    pub says_p : G.p < 18446744073709551616 → long_at (file G alloc body) 24 ≡ G.p
    unfolding file head long word
    says_p h = long_field 24 G.p (omega arith) h refl

    pub says_e : G.e < 18446744073709551616 → long_at (file G alloc body) 32 ≡ G.e
    unfolding file head long word
    says_e h = long_field 32 G.e (omega arith) h refl

    says_crc : word_at F 40 ≡ c
    unfolding file
    says_crc =
        ap (λ z. word_at z 40) (append_assoc (head G alloc) (word c) (words body))
        ∙ word-at (head G alloc) 40 length-head (words body) c (crc_lt (head G alloc ++ words body))

    -- what the sum is tested against is what was summed
    pub crc_same : word_at (file G alloc body) 40 ≡ crc32 (take 40 (file G alloc body) ++ drop 44 (file G alloc body))
    crc_same = says_crc ∙ ap₂ (λ a b. crc32 (a ++ b)) (sym take-file) (sym drop-file)

  -- files of a map and free counts of the right sizes
  module _ (map free : List ℕ) (le : length map ≡ G.e) (ln : length free ≡ G.n) where
    abbrev front : List ℕ
    front = head G alloc ++ word (c (map ++ free))

    pub file-length : length (file G alloc (map ++ free)) ≡ file_size G
    file-length = length-file (map ++ free) ∙ omega (arith, length-append map free)

    pub says_map : Words map → map_of G (file G alloc (map ++ free)) ≡ map
    unfolding file
    says_map h =
        ap (λ z. words_at G.e (front ++ z) 44) (words_append map free)
        ∙ words-at front 44 (length_front (map ++ free)) (words free) map G.e le h

    pub says_free : Words free → free_of G (file G alloc (map ++ free)) ≡ free
    unfolding file
    says_free h = ap (λ z. words_at G.n z (44 + 4 * G.e)) behind ∙ words-at (front ++ words map) (44 + 4 * G.e) start [] free G.n ln h
      where
        start : length (front ++ words map) ≡ 44 + 4 * G.e
        start = length-append front (words map) ∙ omega (arith, length_front (map ++ free), length-words map)

        behind : front ++ words (map ++ free) ≡ (front ++ words map) ++ (words free ++ [])
        behind =
            ap (λ z. front ++ z) (words_append map free ∙ ap (λ z. words map ++ z) (sym (append-nil (words free))))
            ∙ sym (append_assoc front (words map) (words free ++ []))

    -- a file of an allocation segment and free counts within bounds passes every test, whatever its map
    pub sealed_passes : Good G → alloc < G.n → ((g : ℕ) → at free g ≤ G.p) → reason_of G (file G alloc (map ++ free)) ≡ 0
    unfolding reason_of
    sealed_passes K ha hf =
        none_first 1 (file_tests G (file G alloc (map ++ free)))
        (le-leb 44 (length (file G alloc (map ++ free))) (omega (arith, file-length))
        then eq-eqb _ _ (says_magic (map ++ free))
        then eq-eqb _ _ (says_version (map ++ free))
        then rw (eq-eqb _ _ (says_n (map ++ free) (omega (arith, K.n≤)))) (eq-eqb _ _ (says_p (map ++ free) (omega (arith, K.p≤))))
        then eq-eqb _ _ (says_e (map ++ free) (omega (arith, entries G K)))
        then eq-eqb _ _ file-length
        then eq-eqb _ _ (crc_same (map ++ free))
        then rw (says_alloc (map ++ free) (omega (arith, K.n≤))) (lt-ltb _ _ ha)
        then rw (says_free (λ i. omega (arith, hf i, K.p≤))) (up_to_lem _ _ hf)
        then end)

-- past a list's end a bound holds for the default 0 too
bound_zero : (xs : List ℕ) (i d k : ℕ) → get_or xs i d < k → 0 < k → at xs i < k
bound_zero [] i d k h z = z
bound_zero (x ∷ xs) zero d k h z = h
bound_zero (x ∷ xs) (suc i) d k h z = bound_zero xs i d k h z

module _ (G : Geometry) (K : Good G) (t : Tables) (S : Counted G t) where
  -- the map and the free counts of sound tables are words
  pub map-words : Words t.map
  map-words i = bound_zero t.map i empty 4294967296 (go (same? (word_of t i) empty)) (omega arith)
    where
      go : (word_of t i ≡ empty) ⊎ (word_of t i ≢ empty) → word_of t i < 4294967296
      go (inl e) = omega arith
      go (inr n) = let h : word_of t i < G.n * 2 ^ G.w = (div-lt_iff_lt-mul (pow_pos G.w)).0 (S.seg< i n) in omega (arith, below G K)

  pub free_words : Words t.free
  free_words i = omega (arith, S.free≤ i, K.p≤)

  pub length-sealed : length (sealed G t) ≡ file_size G
  length-sealed = file-length G t.alloc t.map t.free S.sized.map S.sized.free

  pub saved_passes : reason_of G (sealed G t) ≡ 0
  saved_passes = sealed_passes G t.alloc t.map t.free S.sized.map S.sized.free K S.alloc< S.free≤

  pub saved_says : restored_from G (sealed G t) ≡ restored G t.map t.free t.alloc
  saved_says =
      rw (
        says_map G t.alloc t.map t.free S.sized.map S.sized.free map-words,
        says_free G t.alloc t.map t.free S.sized.map S.sized.free free_words,
        says_alloc G t.alloc (t.map ++ t.free) (omega (arith, S.alloc<, K.n≤)),
      )

  -- a saved sound state comes back with map, allocation segment and free counts
  pub comes_back : Back t (restored_from G (sealed G t))
  comes_back = rw saved_says (round_trip G K t S)

  -- a buffer that the file is laid into holds it in front, the rest as it was
  module _ (buffer : List ℕ) where
    pub file_end : take (file_size G) (splice 0 (sealed G t) buffer) ≡ sealed G t
    file_end = ap (λ k. take k (splice 0 (sealed G t) buffer)) (sym length-sealed) ∙ take_spliced (sealed G t) buffer

    pub file_rest : drop (file_size G) (splice 0 (sealed G t) buffer) ≡ drop (file_size G) buffer
    file_rest = rw (← length-sealed) (drop_spliced (sealed G t) buffer)

    pub file_room : file_size G ≤ length buffer → length (splice 0 (sealed G t) buffer) ≡ length buffer
    file_room h = length_spliced (sealed G t) buffer (rw length-sealed h)

module _ (G : Geometry) (b : List ℕ) where
  -- the first i tests pass and the next fails: it gives its number
  pub reason_is : (i : ℕ) → Passed i (file_tests G b) → get_or (file_tests G b) i true ≡ false → reason_of G b ≡ suc i
  unfolding reason_of
  reason_is i h e = first_fails 1 i (file_tests G b) h e ∙ omega arith

  -- all pass: no reason
  pub reason_none : Passed 9 (file_tests G b) → reason_of G b ≡ 0
  unfolding reason_of
  reason_none h = none_first 1 (file_tests G b) h

  pub reason_most : reason_of G b ≤ 9
  unfolding reason_of
  reason_most = omega (arith, first_most 0 (file_tests G b))

  module _ (h : reason_of G b ≡ 0) where
    -- no reason: every test passed
    pub test_passed : (i : ℕ) → get_or (file_tests G b) i true ≡ true
    unfolding reason_of
    test_passed = none_fails 0 (file_tests G b) h

    pub size_fits : length b ≡ file_size G
    size_fits = eqb-true (length b) (file_size G) (test_passed 5)

    pub alloc_fits : alloc_of G b < G.n
    alloc_fits = ltb-true (alloc_of G b) G.n (test_passed 7)

    pub free_fits : (g : ℕ) → at (free_of G b) g ≤ G.p
    free_fits = up_to_at G.p (free_of G b) (test_passed 8)

    -- what is accepted comes back sound
    pub accepted_sound : Good G → Counted G (restored_from G b)
    accepted_sound K =
        restored_sound G K (map_of G b) (free_of G b) (alloc_of G b) (length-read G.e b 44) (length-read G.n b (44 + 4 * G.e)) free_fits alloc_fits

-- Restoring: whatever the words, sound tables come out; and the words of sound tables come back as they were.
use Prim.Native.Nat.{ℕ, suc, ◌+◌, ◌-◌, ◌≤◌, ◌<◌}
use native.Mathlib.Omega.{arith}
use mathlib.Core.Path.{◌≡◌, refl, sym, ap, ◌∙◌}
use mathlib.Core.Bool.{Bool, true, false, cond, ◌&&◌}
use mathlib.Core.Logic.{◌⊎◌, inl, inr, ◌≢◌}
use mathlib.Core.List.{List, [], ◌∷◌, ◌++◌, map}
use lib.Dec.{eqb, ltb}
use lib.ListN.{length, get_or, set, replicate, length-set, length-map, length-append, get_or-append, get_or-eq_default}
use lib.Seq.{get_or-set_same, append_snoc, set_at, get_or_at}
use borrow.Author.Tests.{eqb-true, eq-eqb, ltb-true, lt-ltb, le-ltb}
use Rattle.model.specs.Lists.{bit, occ}
use Rattle.model.specs.Numbers.{Geometry, Good, addr, empty, page_of, seg_of}
use Rattle.model.specs.Tables.{Tables, at, word_of, list_of, set_valid}
use Rattle.model.specs.Sound.{Mapped}
use Rattle.model.specs.Checkpoint.{bare, restored, settle, settle_all, welcome}
use Rattle.model.proofs.Working.{Counted}
use Rattle.model.proofs.Slots.{same?, less?, set_ind, set_both, any_default, same_replicate}
use Rattle.model.proofs.Counts.{bit_same, bit_other, occ-append, occ-get_or, occ_index, occ-replicate, count_all, sum_lt}
use Rattle.model.proofs.Reading.{names≤, list_length, list_mapped, in_valid, in_lens}
use Rattle.model.proofs.Address.{addr_back, empty-out}
use Rattle.model.proofs.Place.{Room, place_sound, place-map_other}
use Rattle.model.proofs.Base.{bare_sound}

-- one more valid page in segment g
abbrev bump : ℕ → Tables → Tables
bump g t = set_valid (set t.valid g (at t.valid g + 1)) t

-- a number of a mapped list comes from a number of the list
from_list : (f : ℕ → ℕ) (y : ℕ) (xs : List ℕ) → 0 < occ y (map f xs) → (z : ℕ) × (0 < occ z xs) × (f z ≡ y)
unfolding occ
from_list f y [] h = absurd (omega arith)
from_list f y (x ∷ xs) h = go (same? y (f x)) (λ b. from_list f y xs b)
  where
    go : (y ≡ f x) ⊎ (y ≢ f x) → (0 < occ y (map f xs) → (z : ℕ) × (0 < occ z xs) × (f z ≡ y))
        → (z : ℕ) × (0 < occ z (x ∷ xs)) × (f z ≡ y)
    go (inl e) ih = (x, omega (arith, bit_same x), sym e)
    go (inr n) ih =
        let r : (z : ℕ) × (0 < occ z xs) × (f z ≡ y) = ih (omega (arith, bit_other y (f x) n)) in
        (r.0, omega (arith, r.1), r.2)

-- a map that keeps the list's numbers apart
once_mapped : (f : ℕ → ℕ) (xs : List ℕ) → ((z : ℕ) → occ z xs ≤ 1) → ((z u : ℕ) → 0 < occ z xs → 0 < occ u xs → f z ≡ f u → z ≡ u)
    → (y : ℕ) → occ y (map f xs) ≤ 1
unfolding occ
once_mapped f [] one apart y = omega arith
once_mapped f (x ∷ xs) one apart y =
    go (same? y (f x)) (once_mapped f xs (λ z. omega (arith, one z)) (λ z u a b. apart z u (omega arith) (omega arith)) y)
  where
    alone : y ≡ f x → 0 < occ y (map f xs) → ⊥
    alone e h =
        let r : (z : ℕ) × (0 < occ z xs) × (f z ≡ y) = from_list f y xs h in
        let q : r.0 ≡ x = apart r.0 x (omega (arith, r.1)) (omega (arith, bit_same x)) (r.2 ∙ e) in
        let c : 0 < occ x xs = rw q at r.1 in
        omega (arith, one x, bit_same x)

    here : y ≡ f x → (0 < occ y (map f xs)) ⊎ (occ y (map f xs) ≤ 0) → bit (eqb y (f x)) + occ y (map f xs) ≤ 1
    here e (inl h) = absurd (alone e h)
    here e (inr h) = omega (arith, ap bit (eq-eqb y (f x) e))

    go : (y ≡ f x) ⊎ (y ≢ f x) → occ y (map f xs) ≤ 1 → bit (eqb y (f x)) + occ y (map f xs) ≤ 1
    go (inl e) ih = here e (less? 0 (occ y (map f xs)))
    go (inr n) ih = omega (arith, bit_other y (f x) n)

module _ (G : Geometry) (K : Good G) (t : Tables) (S : Counted G t) where
  -- a segment with a used page that nobody has is not full of logical pages
  some_room : (g k : ℕ) → g < G.n → k + at t.free g < G.p → ((x : ℕ) → word_of t x ≢ addr G g k) → at t.lens g + at t.free g < G.p
  some_room g k hg hk nobody =
      omega (
        arith,
        sum_lt bound (λ y. occ y pages) k once_page (omega arith) (none (less? 0 (occ k pages))),
        count_all bound pages below,
        length-map (list_of G t g) page,
        list_length G t S g hg,
      )
    where
      bound : ℕ
      bound = G.p - at t.free g

      page : ℕ → ℕ
      page l = page_of G (word_of t l)

      pages : List ℕ
      pages = map page (list_of G t g)

      inside : (z : ℕ) → 0 < occ z (list_of G t g) → Mapped t z × (seg_of G (word_of t z) ≡ g)
      inside z = list_mapped G t S z g hg

      -- the word of a listed page is told by its page
      word_is : (z : ℕ) → 0 < occ z (list_of G t g) → word_of t z ≡ addr G g (page z)
      word_is z h = sym (addr_back G (word_of t z)) ∙ ap (λ x. addr G x (page z)) (inside z h).1

      once_page : (y : ℕ) → occ y pages ≤ 1
      once_page =
          once_mapped page (list_of G t g) (λ z. rw (S.listed z g hg) (names≤ G (word_of t z) g))
          (λ z u a b e. S.apart z u (inside z a).0 (word_is z a ∙ ap (addr G g) e ∙ sym (word_is u b)))

      below : (y : ℕ) → 0 < occ y pages → y < bound
      below y h =
          let r : (z : ℕ) × (0 < occ z (list_of G t g)) × (page z ≡ y) = from_list page y (list_of G t g) h in
          omega (arith, r.2, S.page< r.0 (inside r.0 r.1).0, ap (at t.free) (inside r.0 r.1).1)

      none : (0 < occ k pages) ⊎ (occ k pages ≤ 0) → occ k pages ≡ 0
      none (inl h) =
          let r : (z : ℕ) × (0 < occ z (list_of G t g)) × (page z ≡ k) = from_list page k (list_of G t g) h in
          absurd (nobody r.0 (word_is r.0 r.1 ∙ ap (addr G g) r.2))
      none (inr h) = omega arith

  module _ (g : ℕ) (hg : g < G.n) (h : at t.valid g + at t.free g < G.p) where
    bump_lens≤ : (j : ℕ) → at t.lens j ≤ at (bump g t).valid j
    bump_lens≤ = set_ind (λ j x. at t.lens j ≤ x) t.valid g _ 0 (in_valid S.sized hg) (omega (arith, S.lens≤ g)) (λ j _. S.lens≤ j)

    bump_valid≤ : (j : ℕ) → at (bump g t).valid j + at t.free j ≤ G.p
    bump_valid≤ = set_ind (λ j x. x + at t.free j ≤ G.p) t.valid g _ 0 (in_valid S.sized hg) (omega arith) (λ j _. S.valid≤ j)

    -- what else sound tables say is as before
    bump_sound : Counted G (bump g t)
    bump_sound = search (length-set, bump_lens≤, bump_valid≤)

-- while the words are settled: sound, the valid counts are the lists' lengths, and from logical page l on nothing is mapped
pub record Settled (G : Geometry) (l : ℕ) (t : Tables) : Type 0 where
  pub sound : Counted G t
  pub exact : (g : ℕ) → at t.valid g ≡ at t.lens g
  pub ahead : (x : ℕ) → l ≤ x → word_of t x ≡ empty

-- what a word that is welcome says
pub record Welcome (G : Geometry) (a : ℕ) (t : Tables) : Type 0 where
  pub seg : seg_of G a < G.n
  pub page : page_of G a + at t.free (seg_of G a) < G.p
  pub new : occ a t.map ≡ 0

pub welcome_true : (G : Geometry) (a : ℕ) (t : Tables) → welcome G a t ≡ true → Welcome G a t
unfolding welcome
welcome_true G a t e = go (ltb (seg_of G a) G.n) (ltb (page_of G a + at t.free (seg_of G a)) G.p) refl refl e
  where
    go : (b c : Bool) → ltb (seg_of G a) G.n ≡ b → ltb (page_of G a + at t.free (seg_of G a)) G.p ≡ c
        → (b && (c && eqb (occ a t.map) 0)) ≡ true → Welcome G a t
    go true true p q r = record { seg = ltb-true _ _ p; page = ltb-true _ _ q; new = eqb-true _ _ r }
    go true false p q r = absurd (let z : ◌≡◌ {A = ℕ} 0 1 = cc in omega arith)
    go false c p q r = absurd (let z : ◌≡◌ {A = ℕ} 0 1 = cc in omega arith)

pub true_welcome : (G : Geometry) (a : ℕ) (t : Tables) → Welcome G a t → welcome G a t ≡ true
unfolding welcome
true_welcome G a t W = rw (lt-ltb _ _ W.seg, lt-ltb _ _ W.page, eq-eqb _ _ W.new)

unwelcome : (G : Geometry) → Good G → (x : ℕ) (t : Tables) → x ≡ empty → welcome G x t ≡ false
unfolding welcome
unwelcome G K x t e = rw (e, le-ltb (seg_of G empty) G.n (empty-out G K))

module _ (G : Geometry) (K : Good G) (l a : ℕ) (t : Tables) (D : Settled G l t) (hl : l < G.e) (W : Welcome G a t) where
  some : a ≢ empty
  some e =
      let h : seg_of G empty < G.n = rw e at W.seg in
      omega (arith, empty-out G K)

  nobody : (x : ℕ) → word_of t x ≢ a
  nobody x e = go (less? x (length t.map))
    where
      go : (x < length t.map) ⊎ (length t.map ≤ x) → ⊥
      go (inl b) = omega (arith, rw (any_default t.map x 0 empty b ∙ e) at (occ-get_or t.map x b), W.new)
      go (inr b) = some (sym e ∙ get_or-eq_default t.map empty b)

  abbrev g : ℕ
  g = seg_of G a

  B : Counted G (bump g t)
  B =
      bump_sound G K t D.sound g W.seg
      (omega (arith, D.exact g, some_room G K t D.sound g (page_of G a) W.seg W.page (λ x. rw (addr_back G a) (nobody x))))

  R : Room G (bump g t) l g (page_of G a)
  R =
      record {
        known = hl;
        unmapped = D.ahead l (omega arith);
        seg = W.seg;
        used = W.page;
        nobody = λ x. rw (addr_back G a) (nobody x);
        room = rw (get_or-set_same t.valid g _ 0 (in_valid D.sound.sized W.seg)) (omega (arith, D.exact g));
      }

  pub settled_one : Settled G (suc l) (settle G l a t)
  settled_one =
      record {
        sound = place_sound G K _ B l g (page_of G a) R;
        exact =
            set_both (λ _ v k. v ≡ k) t.valid t.lens g _ _ (in_valid D.sound.sized W.seg) (in_lens D.sound.sized W.seg)
            (omega (arith, D.exact g))
            D.exact;
        ahead = λ x h. place-map_other G K _ B l g (page_of G a) R x (omega arith) ∙ D.ahead x (omega arith);
      }

module _ (G : Geometry) (K : Good G) where
  settled_all : (ws : List ℕ) (l : ℕ) (t : Tables) → Settled G l t → l + length ws ≡ G.e → Counted G (settle_all G l ws t)
  unfolding settle_all
  settled_all [] l t D e = D.sound
  settled_all (a ∷ ws) l t D e = go (welcome G a t) refl (λ t' D'. settled_all ws (suc l) t' D' (omega arith))
    where
      go : (b : Bool) → welcome G a t ≡ b → ((t' : Tables) → Settled G (suc l) t' → Counted G (settle_all G (suc l) ws t'))
          → Counted G (settle_all G (suc l) ws (cond b (settle G l a t) t))
      go true q ih = ih _ (settled_one G K l a t D (omega arith) (welcome_true G a t q))
      go false q ih = ih t (record { sound = D.sound; exact = D.exact; ahead = λ x h. D.ahead x (omega arith) })

  pub start : (free : List ℕ) (alloc : ℕ) → length free ≡ G.n → ((g : ℕ) → at free g ≤ G.p) → alloc < G.n → Settled G 0 (bare G free alloc)
  start free alloc len le below =
      record { sound = bare_sound G free alloc len le below; exact = λ g. refl; ahead = λ x _. same_replicate G.e empty x }

  pub restored_sound : (words free : List ℕ) (alloc : ℕ) → length words ≡ G.e → length free ≡ G.n → ((g : ℕ) → at free g ≤ G.p) → alloc < G.n
      → Counted G (restored G words free alloc)
  unfolding restored
  restored_sound words free alloc lw lf le below = settled_all words 0 (bare G free alloc) (start free alloc lf le below) (omega arith)

-- the words of sound tables come back
pub record Back (t t' : Tables) : Type 0 where
  pub map : t'.map ≡ t.map
  pub free : t'.free ≡ t.free
  pub alloc : t'.alloc ≡ t.alloc

module _ (G : Geometry) (K : Good G) (t : Tables) (S : Counted G t) where
  -- the words in `pre` are settled, those in `ws` still to come
  back : (ws pre : List ℕ) (l : ℕ) (t' : Tables) → length pre ≡ l → pre ++ ws ≡ t.map → t'.map ≡ pre ++ replicate (length ws) empty
      → t'.free ≡ t.free → t'.alloc ≡ t.alloc → Back t (settle_all G l ws t')
  unfolding settle_all
  back [] pre l t' len whole m f a = record { map = m ∙ whole; free = f; alloc = a }
  back (x ∷ ws) pre l t' len whole m f a =
      go (same? x empty)
      (λ t'' m' f' a'.
      back ws (pre ++ (x ∷ [])) (suc l) t''
      (length-append pre (x ∷ []) ∙ omega arith)
      (append_snoc pre x ws ∙ whole)
      (m' ∙ sym (append_snoc pre x (replicate (length ws) empty)))
      f'
      a')
    where
      word : word_of t l ≡ x
      word = ap (λ z. get_or z l empty) (sym whole) ∙ get_or_at pre x ws empty l len

      Next : Tables → Type 0
      Next t'' = Back t (settle_all G (suc l) ws t'')

      new : x ≢ empty → occ x t'.map ≡ 0
      new n =
          ap (occ x) m
          ∙ occ-append x pre (replicate (suc (length ws)) empty)
          ∙ omega (arith, pre_none (less? 0 (occ x pre)), occ-replicate x empty (suc (length ws)) n)
        where
          pre_none : (0 < occ x pre) ⊎ (occ x pre ≤ 0) → occ x pre ≡ 0
          pre_none (inr h) = omega arith
          pre_none (inl h) =
              let r : (i : ℕ) × (i < length pre) × (get_or pre i empty ≡ x) = occ_index x empty pre h in
              let i : word_of t r.0 ≡ x =
              ap (λ z. get_or z r.0 empty) (sym whole) ∙ get_or-append pre (x ∷ ws) empty r.0 r.1 ∙ r.2 in
              let q : l ≡ r.0 = S.apart l r.0 (λ z. n (sym word ∙ z)) (word ∙ sym i) in
              omega (arith, r.1, len)

      welcome_x : x ≢ empty → Welcome G x t'
      welcome_x n =
          let k : Mapped t l = λ z. n (sym word ∙ z) in
          record {
            seg = rw word at (S.seg< l k);
            page = rw f (rw word at (S.page< l k));
            new = new n;
          }

      go : (x ≡ empty) ⊎ (x ≢ empty)
          → ((t'' : Tables) → t''.map ≡ pre ++ x ∷ replicate (length ws) empty → t''.free ≡ t.free → t''.alloc ≡ t.alloc → Next t'')
          → Next (cond (welcome G x t') (settle G l x t') t')
      go (inl e) ih = rw (unwelcome G K x t' e) (ih t' (m ∙ ap (λ z. pre ++ z ∷ replicate (length ws) empty) (sym e)) f a)
      go (inr n) ih =
          rw (true_welcome G x t' (welcome_x n))
          (ih (settle G l x t')
          (ap (λ z. set z l (addr G (seg_of G x) (page_of G x))) m
          ∙ set_at pre empty (replicate (length ws) empty) _ l len
          ∙ ap (λ z. pre ++ z ∷ replicate (length ws) empty) (addr_back G x))
          f
          a)

  pub round_trip : Back t (restored G t.map t.free t.alloc)
  unfolding restored
  round_trip = back t.map [] 0 (bare G t.free t.alloc) refl refl (ap (λ z. replicate z empty) (sym S.sized.map)) refl refl

-- The turn of one logical page, against the definition's walk over the map.
use Prim.Native.Nat.{ℕ, zero, suc, ◌+◌, ◌*◌, ◌-◌, ◌≤◌, ◌<◌}
use native.Mathlib.Nat.{sub-zero}
use native.Mathlib.Numerals.{add-one}
use native.Mathlib.Omega.{arith}
use mathlib.Core.Path.{◌≡◌, sym, ap, ap₂, ◌∙◌, subst}
use mathlib.Core.Logic.{◌⊎◌, inl, inr, ◌≢◌}
use mathlib.Core.Bool.{true, false, cond, ◌&&◌}
use mathlib.Core.List.{List, [], ◌∷◌, ◌++◌, append-nil}
use lib.Dec.{ltb, eqb}
use lib.ListN.{length, get_or, take, drop, set, replicate, length-set, length-replicate, get_or-replicate, drop_of_length-le}
use lib.Seq.{set_at, append_snoc, take-suc, take-suc-set, drop-cons, drop-set-lt, get_or-set_same, get_or-set_other, length-take-le, take_all}
use borrow.Author.Tests.{lt-ltb, le-ltb, ne_eqb}
use Rattle.model.specs.declared.Geometry.{Geometry}
use Rattle.model.specs.Lists.{bit, occ, zeros}
use Rattle.model.specs.Numbers.{Good, empty, addr, seg_of, page_of, flat}
use Rattle.model.specs.declared.Spot.{Spot}
use Rattle.model.specs.PageMap.{spot}
use Rattle.model.specs.Tables.{Tables, at, pages, set_map}
use Rattle.model.specs.Checkpoint.{bare, welcome, settle, settle_all, restored}
use Rattle.model.proofs.Slots.{same?, less?, below_part, place_inj_seg, place_inj_page}
use Rattle.model.proofs.Counts.{bit_same, bit_other, occ-replicate}
use Rattle.model.proofs.Address.{addr_back, addr_inj, addr_some}
use Rattle.model.proofs.Restore.{Settled, Welcome, welcome_true, settled_one, start}
use Rattle.checkpoint.specs.Turns.{takes, listed, midst, ending, Turn}

-- how often x stands in a list, after a store
occ-set : (x y d : ℕ) (m : List ℕ) (i : ℕ) → i < length m → occ x (set m i y) + bit (eqb x (get_or m i d)) ≡ occ x m + bit (eqb x y)
unfolding occ
occ-set x y d [] i h = absurd (omega arith)
occ-set x y d (z ∷ zs) zero h = omega arith
occ-set x y d (z ∷ zs) (suc i) h = omega (arith, occ-set x y d zs i (omega arith))

-- a page is marked where a word of the map names it
module _ (G : Geometry) (K : Good G) where
  Marks : List ℕ → List ℕ → Type 0
  Marks s m = (g k : ℕ) → g < G.n → k < G.p → eqb (at s (g * G.p + k)) 0 ≡ eqb (occ (addr G g k) m) 0

  marks_none : Marks (zeros (pages G)) (replicate G.e empty)
  unfolding Marks
  marks_none g k hg hk =
      rw (get_or-replicate {A = ℕ} (pages G) (g * G.p + k) 0 0 (below_part G.p hg hk), occ-replicate (addr G g k) empty G.e (addr_some G K hg hk))

  marks_one : (s m : List ℕ) (l g₀ k₀ : ℕ) → Marks s m → length s ≡ pages G → l < length m → get_or m l empty ≡ empty → g₀ < G.n → k₀ < G.p
      → Marks (set s (g₀ * G.p + k₀) 1) (set m l (addr G g₀ k₀))
  unfolding Marks
  marks_one s m l g₀ k₀ H ls lm none hg₀ hk₀ g k hg hk = go (same? (g * G.p + k) (g₀ * G.p + k₀))
    where
      x : ℕ
      x = addr G g k

      y : ℕ
      y = addr G g₀ k₀

      count : occ x (set m l y) ≡ occ x m + bit (eqb x y)
      count =
          let other : bit (eqb x (get_or m l empty)) ≡ 0 = rw none (bit_other x empty (addr_some G K hg hk)) in
          omega (arith, occ-set x y empty m l lm)

      there : g₀ * G.p + k₀ < length s
      there = rw ls (below_part G.p hg₀ hk₀)

      go : (g * G.p + k ≡ g₀ * G.p + k₀) ⊎ (g * G.p + k ≢ g₀ * G.p + k₀) → eqb (at (set s (g₀ * G.p + k₀) 1) (g * G.p + k)) 0 ≡ eqb (occ x (set m l y)) 0
      go (inl e) =
          let same : x ≡ y = ap₂ (addr G) (place_inj_seg G.p g k g₀ k₀ hk hk₀ e) (place_inj_page G.p g k g₀ k₀ hk hk₀ e) in
          let one : bit (eqb x y) ≡ 1 = ap (λ z. bit (eqb x z)) (sym same) ∙ bit_same x in
          ap (λ i. eqb (at (set s (g₀ * G.p + k₀) 1) i) 0) e
          ∙ ap (λ v. eqb v 0) (get_or-set_same s (g₀ * G.p + k₀) 1 0 there)
          ∙ sym (ne_eqb (occ x (set m l y)) 0 (λ z. omega (arith, count)))
      go (inr n) =
          let apart : x ≢ y = λ e. let q = addr_inj G K hk hk₀ e in n (ap₂ (λ i j. i * G.p + j) q.0 q.1) in
          let kept : occ x m ≡ occ x (set m l y) = omega (arith, count, bit_other x y apart) in
          ap (λ v. eqb v 0) (get_or-set_other s (g₀ * G.p + k₀) (g * G.p + k) 1 0 n) ∙ H g k hg hk ∙ ap (λ v. eqb v 0) kept

  -- the code's test is the definition's
  takes-welcome : (t : Tables) (s m : List ℕ) (a : ℕ) → Marks s m → takes G a t s ≡ welcome G a (set_map m t)
  unfolding takes welcome Marks
  takes-welcome t s m a H = go (less? (seg_of G a) G.n)
    where
      f : ℕ
      f = at t.free (seg_of G a)

      inner : seg_of G a < G.n → (page_of G a + f < G.p) ⊎ (G.p ≤ page_of G a + f)
          → (ltb (page_of G a + f) G.p && eqb (at s (flat G a)) 0) ≡ (ltb (page_of G a + f) G.p && eqb (occ a m) 0)
      inner h (inl q) = rw (lt-ltb _ _ q) (H (seg_of G a) (page_of G a) h (omega arith) ∙ ap (λ z. eqb (occ z m) 0) (addr_back G a))
      inner h (inr q) = rw (le-ltb _ _ q)

      go : (seg_of G a < G.n) ⊎ (G.n ≤ seg_of G a)
          → (ltb (seg_of G a) G.n && (ltb (page_of G a + f) G.p && eqb (at s (flat G a)) 0)) ≡ (ltb (seg_of G a) G.n && (ltb (page_of G a + f) G.p && eqb (occ a m) 0))
      go (inl h) = rw (lt-ltb _ _ h) (inner h (less? _ _))
      go (inr h) = rw (le-ltb _ _ h)

-- a map with l words settled, one more
module _ (m : List ℕ) (e l v : ℕ) (lm : length m ≡ e) (hl : l < e) where
  split : replicate (e - l) empty ≡ empty ∷ replicate (e - (l + 1)) empty
  split =
      let q : e - l ≡ suc (e - (l + 1)) = omega arith in
      ap (λ k. replicate k empty) q

  one_word : at m l ≡ v → take (l + 1) m ++ replicate (e - (l + 1)) empty ≡ set (take l m ++ replicate (e - l) empty) l v
  one_word q =
      let len : length (take l m) ≡ l = length-take-le l m (omega arith) in
      let next : take (l + 1) m ≡ take l m ++ (v ∷ []) = ap (λ k. take k m) (add-one l) ∙ take-suc m l 0 (omega arith) ∙ ap (λ x. take l m ++ (x ∷ [])) q in
      ap (λ z. z ++ replicate (e - (l + 1)) empty) next
      ∙ append_snoc (take l m) v (replicate (e - (l + 1)) empty)
      ∙ sym (ap (λ z. set (take l m ++ z) l v) split ∙ set_at (take l m) empty (replicate (e - (l + 1)) empty) v l len)

  no_word : take (l + 1) (set m l empty) ++ replicate (e - (l + 1)) empty ≡ take l m ++ replicate (e - l) empty
  no_word =
      ap (λ k. take k (set m l empty) ++ replicate (e - (l + 1)) empty) (add-one l)
      ∙ ap (λ z. z ++ replicate (e - (l + 1)) empty) (take-suc-set m l empty (omega arith))
      ∙ append_snoc (take l m) empty (replicate (e - (l + 1)) empty)
      ∙ ap (λ z. take l m ++ z) (sym split)

-- one turn of the definition's walk, and none
walk_one : (G : Geometry) (l : ℕ) (m : List ℕ) (t : Tables) → l < length m
    → settle_all G l (drop l m) t ≡ settle_all G (l + 1) (drop (l + 1) m) (cond (welcome G (at m l) t) (settle G l (at m l) t) t)
unfolding settle_all
walk_one G l m t h =
    ap (λ ws. settle_all G l ws t) (drop-cons m l 0 h)
    ∙ ap (λ k. settle_all G k (drop k m) (cond (welcome G (at m l) t) (settle G l (at m l) t) t)) (sym (add-one l))

walk_none : (G : Geometry) (l : ℕ) (m : List ℕ) (t : Tables) → length m ≤ l → settle_all G l (drop l m) t ≡ t
unfolding settle_all
walk_none G l m t h = ap (λ ws. settle_all G l ws t) (drop_of_length-le m h)

-- what the stores need, of a page that is taken
pub record Room (G : Geometry) (t : Tables) (x : Spot) : Type 0 where
  pub seg : x.segment < G.n
  pub page : x.page < G.p
  pub place : x.segment * G.p + x.page < pages G
  pub valid : at t.valid x.segment < G.p
  pub lens : at t.lens x.segment < G.p

-- what a turn gives: the next turn's facts, and that the walk still ends alike
abbrev pub Onward : Geometry → ℕ → (t t' : Tables) → List ℕ → Type 0
Onward G l t t' s = (Turn G (l + 1) t' s) × (ending G (l + 1) t' ≡ ending G l t)

module _ (G : Geometry) (K : Good G) (l : ℕ) (t : Tables) (s : List ℕ) (T : Turn G l t s) (hl : l < G.e) where
  test : (a : ℕ) → takes G a t s ≡ welcome G a (midst G l t)
  unfolding Marks
  test a = takes-welcome G K t s (midst G l t).map a T.marks

  module _ (a : ℕ) (q : at t.map l ≡ a) where
    walked : ending G l t ≡ settle_all G (l + 1) (drop (l + 1) t.map) (cond (welcome G a (midst G l t)) (settle G l a (midst G l t)) (midst G l t))
    unfolding ending
    walked =
        walk_one G l t.map (midst G l t) (omega (arith, T.words))
        ∙ ap (λ x. settle_all G (l + 1) (drop (l + 1) t.map) (cond (welcome G x (midst G l t)) (settle G l x (midst G l t)) (midst G l t))) q

    module _ (yes : takes G a t s ≡ true) where
      good : Welcome G a (midst G l t)
      good = welcome_true G a (midst G l t) (sym (test a) ∙ yes)

      next : Settled G (suc l) (settle G l a (midst G l t))
      next = settled_one G K l a (midst G l t) T.settled hl good

      -- one more valid page fits, and so does one more in the list
      room_valid : at t.valid (seg_of G a) < G.p
      room_valid =
          let g : ℕ = seg_of G a in
          let hv : g < length t.valid = rw T.settled.sound.sized.valid good.seg in
          let top : at t.valid g + 1 + at t.free g ≤ G.p = rw (get_or-set_same t.valid g _ 0 hv) at (next.sound.valid≤ g) in
          omega arith

      room_lens : at t.lens (seg_of G a) < G.p
      room_lens = omega (arith, room_valid, T.settled.exact (seg_of G a))

      pub room : (x : Spot) → x ≡ spot (seg_of G a) (page_of G a) → Room G t x
      room x e =
          rw e
          (record {
            seg = good.seg;
            page = omega (arith, good.page);
            place = below_part G.p good.seg (omega (arith, good.page));
            valid = room_valid;
            lens = room_lens;
          })

      after : midst G (l + 1) (listed G l (seg_of G a) t) ≡ settle G l a (midst G l t)
      after =
          ap (λ z. set_map z (settle G l a (midst G l t)))
          (one_word t.map G.e l (addr G (seg_of G a) (page_of G a)) T.words hl (q ∙ sym (addr_back G a)))

      listed_on : Onward G l t (listed G l (seg_of G a) t) (set s (flat G a) 1)
      unfolding ending Marks
      listed_on = (
        record {
          words = T.words;
          settled = rw (after, add-one l) next;
          marks_size = length-set s (flat G a) 1 ∙ T.marks_size;
          marks =
              subst (λ (z : Tables). Marks G K (set s (flat G a) 1) z.map) (sym after)
              (marks_one G K s (midst G l t).map l (seg_of G a) (page_of G a) T.marks T.marks_size
              (rw T.settled.sound.sized.map hl)
              (T.settled.ahead l (omega arith))
              good.seg
              (omega (arith, good.page)));
        },
        ap (settle_all G (l + 1) (drop (l + 1) t.map)) after ∙ sym (rw (sym (test a) ∙ yes) at walked),
      )

      pub turn_taken : (x : Spot) → x ≡ spot (seg_of G a) (page_of G a) → (t' : Tables) → t' ≡ listed G l x.segment t
          → Onward G l t t' (set s (x.segment * G.p + x.page) 1)
      turn_taken x e t' et = rw (et, e) listed_on

    before : midst G (l + 1) (set_map (set t.map l empty) t) ≡ midst G l t
    before = ap (λ z. set_map z t) (no_word t.map G.e l empty T.words hl)

    pub turn_passed : takes G a t s ≡ false → Onward G l t (set_map (set t.map l empty) t) s
    unfolding ending Marks
    turn_passed not = (
      record {
        words = length-set t.map l empty ∙ T.words;
        settled =
            rw (before, add-one l)
            (record { sound = T.settled.sound; exact = T.settled.exact; ahead = λ x h. T.settled.ahead x (omega arith) });
        marks_size = T.marks_size;
        marks = subst (λ (z : Tables). Marks G K s z.map) (sym before) T.marks;
      },
      ap₂ (settle_all G (l + 1)) (drop-set-lt (l + 1) t.map l empty (omega arith)) before
          ∙ sym (rw (sym (test a) ∙ not) at walked),
    )

-- the words that a file without a reason lays in: the first turn, and what the walk ends as
module _ (G : Geometry) (K : Good G) (M F : List ℕ) (a : ℕ) (lm : length M ≡ G.e) where
  from : midst G 0 (set_map M (bare G F a)) ≡ bare G F a
  from = ap (λ k. set_map (replicate k empty) (bare G F a)) (sub-zero G.e)

  pub turn_start : (s : List ℕ) → s ≡ zeros (pages G) → length F ≡ G.n → ((g : ℕ) → at F g ≤ G.p) → a < G.n → Turn G 0 (set_map M (bare G F a)) s
  unfolding Marks
  turn_start s e lf le ha =
      record {
        words = lm;
        settled = rw from (start G K F a lf le ha);
        marks_size = ap length e ∙ length-replicate (pages G) 0;
        marks =
            subst (λ (z : Tables). Marks G K s z.map) (sym from)
            (subst (λ (z : List ℕ). Marks G K z (replicate G.e empty)) (sym e) (marks_none G K));
      }

  pub ending_start : ending G 0 (set_map M (bare G F a)) ≡ restored G M F a
  unfolding ending restored
  ending_start = ap (settle_all G 0 M) from

-- before the turn of logical page l: its facts, and the walk ends as it did from the start
pub record Walked (G : Geometry) (l : ℕ) (t₀ t : Tables) (s : List ℕ) : Type 0 where
  pub turn : Turn G l t s
  pub ending : ending G l t ≡ ending G 0 t₀

pub walk_more : (G H : Geometry) (l : ℕ) (t₀ t t' : Tables) (s s' : List ℕ) → H ≡ G → Walked G l t₀ t s → Turn H (l + 1) t' s' → ending H (l + 1) t' ≡ ending H l t
    → Walked G (l + 1) t₀ t' s'
walk_more G H l t₀ t t' s s' e W T q = record { turn = rw e at T; ending = (rw e at q) ∙ W.ending }

pub walk_end : (G : Geometry) (l : ℕ) (t₀ t : Tables) (s : List ℕ) → G.e ≡ l → Walked G l t₀ t s → t ≡ ending G 0 t₀
unfolding ending
walk_end G l t₀ t s e W =
    let over : length t.map ≤ l = omega (arith, W.turn.words) in
    let none : G.e - l ≡ 0 = omega arith in
    sym (walk_none G l t.map (midst G l t) over ∙ ap (λ z. set_map z t) (ap₂ (λ x k. x ++ replicate k empty) (take_all l t.map over) none ∙ append-nil t.map))
    ∙ W.ending

-- The sort of the queue is the stable one, and there is no other; the walk over the segments stops at the page that 01 says, and at no other.
use Prim.Native.Nat.{ℕ, zero, suc, ◌+◌, ◌*◌, ◌-◌, ◌≤◌, ◌<◌}
use native.Mathlib.Nat.{mod-lt}
use native.Mathlib.Omega.{arith}
use mathlib.Core.Path.{◌≡◌, refl, sym, ap, ◌∙◌, subst}
use mathlib.Core.Bool.{Bool, true, false, cond}
use mathlib.Core.Logic.{◌⊎◌, inl, inr, ◌≢◌}
use mathlib.Core.List.{List, [], ◌∷◌}
use lib.Dec.{eqb, leb, ltb}
use lib.ListN.{length, drop, length-drop}
use lib.Seq.{take_at}
use borrow.Author.Tests.{leb-true, leb-false, ltb-true, ltb-false, eqb-true, eqb-false, eq-eqb}
use Rattle.model.specs.declared.Geometry.{Geometry}
use Rattle.model.specs.PageMap.{Found}
use Rattle.model.specs.PageMap.{Some, spot, None}
use Rattle.model.specs.Numbers.{Good, good?, empty}
use Rattle.model.specs.Lists.{insert_by, sort_by, occ, all, every, blank, up_to}
use Rattle.model.specs.Tables.{Tables, tables, at, queue_of}
use Rattle.model.specs.Sound.{names, soundb}
use Rattle.model.specs.PageMap.{or_else, clear_from, usable, find_from, find}
use Rattle.model.specs.PageGc.{sorted, victim, taken}
use Rattle.model.proofs.Working.{Counted}
use Rattle.model.proofs.Slots.{same?, less?}
use Rattle.model.proofs.Counts.{occ_sort, length_sort}
use Rattle.model.proofs.Tests.{both}
use Rattle.model.proofs.Reading.{counted_queue}
use Rattle.model.proofs.Official.{soundb_counted}
use Rattle.model.proofs.Guard.{good_test}
use Rattle.model.proofs.Find.{Full, Free, found}
use Rattle.demands.specs.Order.{alike, Rising, StablySorted, looked, PassedOver, FoundAt, AllPassed}

-- ---- the sort

module _ (key : ℕ → ℕ) where
  -- no key in a list is below b
  abbrev AtLeast : ℕ → List ℕ → Type 0
  AtLeast b ys = (j : ℕ) → j < length ys → b ≤ key (at ys j)

  least_cons : (b y : ℕ) (ys : List ℕ) → b ≤ key y → AtLeast b ys → AtLeast b (y ∷ ys)
  least_cons b y ys h A zero c = h
  least_cons b y ys h A (suc j) c = A j (omega arith)

  rising_cons : (y : ℕ) (ys : List ℕ) → AtLeast (key y) ys → Rising key ys → Rising key (y ∷ ys)
  rising_cons y ys A R zero zero h c = omega arith
  rising_cons y ys A R zero (suc j) h c = A j (omega arith)
  rising_cons y ys A R (suc i) zero h c = absurd (omega arith)
  rising_cons y ys A R (suc i) (suc j) h c = R i j (omega arith) (omega arith)

  rising_tail : (y : ℕ) (ys : List ℕ) → Rising key (y ∷ ys) → Rising key ys
  rising_tail y ys R i j h c = R (suc i) (suc j) (omega arith) (omega arith)

  rising_head : (y : ℕ) (ys : List ℕ) → Rising key (y ∷ ys) → AtLeast (key y) ys
  rising_head y ys R j c = R 0 (suc j) (omega arith) (omega arith)

  insert_least : (b x : ℕ) (ys : List ℕ) → b ≤ key x → AtLeast b ys → AtLeast b (insert_by key x ys)
  unfolding insert_by
  insert_least b x [] h A = least_cons b x [] h A
  insert_least b x (y ∷ ys) h A = go (leb (key x) (key y)) (insert_least b x ys h (λ j c. A (suc j) (omega arith)))
    where
      go : (q : Bool) → AtLeast b (insert_by key x ys) → AtLeast b (cond q (x ∷ y ∷ ys) (y ∷ insert_by key x ys))
      go true ih = least_cons b x (y ∷ ys) h A
      go false ih = least_cons b y (insert_by key x ys) (A 0 (omega arith)) ih

  insert_rising : (x : ℕ) (ys : List ℕ) → Rising key ys → Rising key (insert_by key x ys)
  unfolding insert_by
  insert_rising x [] R = rising_cons x [] (λ j c. absurd (omega arith)) R
  insert_rising x (y ∷ ys) R = go (leb (key x) (key y)) refl (insert_rising x ys (rising_tail y ys R))
    where
      go : (q : Bool) → leb (key x) (key y) ≡ q → Rising key (insert_by key x ys) → Rising key (cond q (x ∷ y ∷ ys) (y ∷ insert_by key x ys))
      go true e ih =
          rising_cons x (y ∷ ys) (λ j c. omega (arith, leb-true (key x) (key y) e, R 0 j (omega arith) c)) R
      go false e ih =
          let h : key y ≤ key x = omega (arith, leb-false (key x) (key y) e) in
          rising_cons y (insert_by key x ys) (insert_least (key y) x ys h (rising_head y ys R)) ih

  -- a put-in element stands before its equals
  insert_alike : (k x : ℕ) (ys : List ℕ) → alike key k (insert_by key x ys) ≡ alike key k (x ∷ ys)
  unfolding insert_by alike
  insert_alike k x [] = refl
  insert_alike k x (y ∷ ys) = go (leb (key x) (key y)) refl (insert_alike k x ys)
    where
      swap : (a b : Bool) → ((a ≡ true) → (b ≡ true) → ⊥) → (zs : List ℕ)
          → cond b (y ∷ cond a (x ∷ zs) zs) (cond a (x ∷ zs) zs) ≡ cond a (x ∷ cond b (y ∷ zs) zs) (cond b (y ∷ zs) zs)
      swap true true n zs = absurd (n refl refl)
      swap true false n zs = refl
      swap false true n zs = refl
      swap false false n zs = refl

      go : (q : Bool) → leb (key x) (key y) ≡ q → alike key k (insert_by key x ys) ≡ alike key k (x ∷ ys)
          → alike key k (cond q (x ∷ y ∷ ys) (y ∷ insert_by key x ys)) ≡ alike key k (x ∷ y ∷ ys)
      go true e ih = refl
      go false e ih =
          ap (λ zs. cond (eqb (key y) k) (y ∷ zs) zs) ih
          ∙ swap (eqb (key x) k) (eqb (key y) k)
          (λ a b. omega (arith, leb-false (key x) (key y) e, eqb-true (key x) k a, eqb-true (key y) k b)) (alike key k ys)

  sort_rising : (xs : List ℕ) → Rising key (sort_by key xs)
  unfolding sort_by
  sort_rising [] = λ i j h c. absurd (omega arith)
  sort_rising (x ∷ xs) = insert_rising x (sort_by key xs) (sort_rising xs)

  sort_alike : (k : ℕ) (xs : List ℕ) → alike key k (sort_by key xs) ≡ alike key k xs
  unfolding sort_by alike
  sort_alike k [] = refl
  sort_alike k (x ∷ xs) = insert_alike k x (sort_by key xs) ∙ ap (λ zs. cond (eqb (key x) k) (x ∷ zs) zs) (sort_alike k xs)

  pub sort_stably : (xs : List ℕ) → StablySorted key xs (sort_by key xs)
  sort_stably xs = record { rising = sort_rising xs; same = λ x. occ_sort x key xs; stable = λ k. sort_alike k xs }

  -- ---- there is one such order

  -- where no key is below b, elements of key k are there only for k from b on
  alike_least : (b k x : ℕ) (ys zs : List ℕ) → AtLeast b ys → alike key k ys ≡ x ∷ zs → b ≤ k
  unfolding alike
  alike_least b k x [] zs A e = absurd (omega (arith, ap length e))
  alike_least b k x (y ∷ ys) zs A e = go (eqb (key y) k) refl (λ m. alike_least b k x ys zs (λ j c. A (suc j) (omega arith)) m) e
    where
      go : (q : Bool) → eqb (key y) k ≡ q → (alike key k ys ≡ x ∷ zs → b ≤ k) → cond q (y ∷ alike key k ys) (alike key k ys) ≡ x ∷ zs → b ≤ k
      go true h ih m = omega (arith, A 0 (omega arith), eqb-true (key y) k h)
      go false h ih m = ih m

  alike_own : (y : ℕ) (ys : List ℕ) → alike key (key y) (y ∷ ys) ≡ y ∷ alike key (key y) ys
  unfolding alike
  alike_own y ys = rw (eq-eqb (key y) (key y) refl)

  alike-empty : (y : ℕ) (ys : List ℕ) → alike key (key y) [] ≡ alike key (key y) (y ∷ ys) → ⊥
  unfolding alike
  alike-empty y ys e = omega (arith, ap length (e ∙ alike_own y ys))

  -- the first key is least
  head_least : (y : ℕ) (ys : List ℕ) (z : ℕ) (zs : List ℕ) → Rising key (z ∷ zs) → alike key (key y) (y ∷ ys) ≡ alike key (key y) (z ∷ zs)
      → key z ≤ key y
  head_least y ys z zs R e =
      alike_least (key z) (key y) y (z ∷ zs) (alike key (key y) ys) (λ j c. R 0 j (omega arith) c) (sym e ∙ alike_own y ys)

  alike_tail : (k y : ℕ) (ys zs : List ℕ) → alike key k (y ∷ ys) ≡ alike key k (y ∷ zs) → alike key k ys ≡ alike key k zs
  unfolding alike
  alike_tail k y ys zs e = go (eqb (key y) k) e
    where
      go : (q : Bool) → cond q (y ∷ alike key k ys) (alike key k ys) ≡ cond q (y ∷ alike key k zs) (alike key k zs)
          → alike key k ys ≡ alike key k zs
      go true m = ap (drop 1) m
      go false m = m

  one_order : (ys zs : List ℕ) → Rising key ys → Rising key zs → ((k : ℕ) → alike key k ys ≡ alike key k zs) → ys ≡ zs
  one_order [] [] R Q e = refl
  one_order [] (z ∷ zs) R Q e = absurd (alike-empty z zs (e (key z)))
  one_order (y ∷ ys) [] R Q e = absurd (alike-empty y ys (sym (e (key y))))
  one_order (y ∷ ys) (z ∷ zs) R Q e =
      let a : key z ≤ key y = head_least y ys z zs Q (e (key y)) in
      let b : key y ≤ key z = head_least z zs y ys R (sym (e (key z))) in
      let k : key y ≡ key z = omega arith in
      let h : y ≡ z =
      ap (λ l. at l 0) (sym (alike_own y ys) ∙ e (key y) ∙ ap (λ c. alike key c (z ∷ zs)) k ∙ alike_own z zs) in
      let r : ys ≡ zs =
      one_order ys zs (rising_tail y ys R) (rising_tail z zs Q)
      (λ c. alike_tail c y ys zs (e c ∙ ap (λ x. alike key c (x ∷ zs)) (sym h))) in
      ap (λ x. x ∷ ys) h ∙ ap (λ l. z ∷ l) r

  pub one_sort : (xs ys zs : List ℕ) → StablySorted key xs ys → StablySorted key xs zs → ys ≡ zs
  one_sort xs ys zs A B = one_order ys zs A.rising B.rising (λ k. A.stable k ∙ sym (B.stable k))

  rising_rest : (ys : List ℕ) → Rising key ys → Rising key (drop 1 ys)
  rising_rest [] R = R
  rising_rest (y ∷ ys) R = rising_tail y ys R

-- ---- the queue

pub sorted_stably : (t : Tables) → StablySorted (at t.valid) (queue_of t) (sorted t)
unfolding sorted
sorted_stably t = sort_stably (at t.valid) (queue_of t)

-- behind its first the sorted queue is in sorted order
pub rest_rising : (t : Tables) → Rising (at t.valid) (drop 1 (sorted t))
rest_rising t = rising_rest (at t.valid) (sorted t) (sorted_stably t).rising

head_rest : (xs : List ℕ) → 0 < length xs → xs ≡ at xs 0 ∷ drop 1 xs
head_rest [] h = absurd (omega arith)
head_rest (x ∷ xs) h = refl

-- the sorted queue is the segment taken, and behind it the queue that is left
pub first_taken : (G : Geometry) (t : Tables) → Counted G t → 0 < t.queued → sorted t ≡ victim t ∷ queue_of (taken t)
unfolding sorted
first_taken G t S some =
    let e : length (sorted t) ≡ t.queued = length_sort (at t.valid) (queue_of t) ∙ (counted_queue G t S).size in
    let r : length (drop 1 (sorted t)) ≡ t.queued - 1 = length-drop 1 (sorted t) ∙ ap (λ m. m - 1) e in
    head_rest (sorted t) (omega arith) ∙ ap (λ l. victim t ∷ l) (sym (take_at (drop 1 (sorted t)) _ (t.queued - 1) r))

-- so what is left is in sorted order
pub left_rising : (G : Geometry) (t : Tables) → Counted G t → 0 < t.queued → Rising (at t.valid) (queue_of (taken t))
left_rising G t S some =
    rising_tail (at t.valid) (victim t) (queue_of (taken t)) (subst (Rising (at t.valid)) (first_taken G t S some) (sorted_stably t).rising)

-- ---- the walk

module _ (G : Geometry) (used : List ℕ) (g : ℕ) where
  abbrev mark : ℕ → ℕ
  mark k = at used (g * G.p + k)

  -- of f pages from k on, the first that is clear; or none is
  record Clear (k f x : ℕ) : Type 0 where
    from : k ≤ x
    below : x < k + f
    clear : mark x ≡ 0
    first : (j : ℕ) → k ≤ j → j < x → mark j ≢ 0

  abbrev Scanned : ℕ → ℕ → Found → Type 0
  Scanned k f (Some x) = (x.segment ≡ g) × Clear k f x.page
  Scanned k f None = (j : ℕ) → k ≤ j → j < k + f → mark j ≢ 0

  behind : (k : ℕ) → mark k ≢ 0 → (j : ℕ) → k ≤ j → (k < j → mark j ≢ 0) → mark j ≢ 0
  behind k n j a h = go (same? j k)
    where
      go : (j ≡ k) ⊎ (j ≢ k) → mark j ≢ 0
      go (inl e) = λ z. n (sym (ap mark e) ∙ z)
      go (inr m) = h (omega arith)

  onward : (k f : ℕ) → mark k ≢ 0 → (r : Found) → Scanned (suc k) f r → Scanned k (suc f) r
  onward k f n (Some x) c = (
    c.0,
    record {
      from = omega (arith, c.1.from);
      below = omega (arith, c.1.below);
      clear = c.1.clear;
      first = λ j a b. behind k n j a (λ d. c.1.first j d b);
    },
  )
  onward k f n None c = λ j a b. behind k n j a (λ d. c j d (omega arith))

  scanned : (k f : ℕ) → Scanned k f (clear_from G used g k f)
  unfolding clear_from
  scanned k zero = λ j a b. absurd (omega arith)
  scanned k (suc f) = go (eqb (mark k) 0) refl (scanned (suc k) f)
    where
      rest : Found
      rest = clear_from G used g (suc k) f

      go : (b : Bool) → eqb (mark k) 0 ≡ b → Scanned (suc k) f rest → Scanned k (suc f) (cond b (Some (spot g k)) rest)
      go true e ih =
          (refl, record { from = omega arith; below = omega arith; clear = eqb-true (mark k) 0 e; first = λ j a b. absurd (omega arith) })
      go false e ih = onward k f (eqb-false (mark k) 0 e) rest ih

module _ (G : Geometry) (bad : List ℕ) (t : Tables) where
  kept : (g k : ℕ) → (A : FoundAt G bad t g k) → PassedOver bad t (looked G t A.step) → ⊥
  kept g k A (inl n) = n (ap (at bad) (sym A.segment) ∙ A.good)
  kept g k A (inr z) = omega (arith, A.some, ap (at t.free) A.segment)

  same_step : (g k h x : ℕ) → (A : FoundAt G bad t g k) (B : FoundAt G bad t h x) → A.step ≡ B.step
  same_step g k h x A B = go (less? A.step B.step) (less? B.step A.step)
    where
      go : (A.step < B.step) ⊎ (B.step ≤ A.step) → (B.step < A.step) ⊎ (A.step ≤ B.step) → A.step ≡ B.step
      go (inl a) _ = absurd (kept g k A (B.passed A.step a))
      go (inr _) (inl b) = absurd (kept h x B (A.passed B.step b))
      go (inr a) (inr b) = omega arith

  same_page : (g k x : ℕ) → FoundAt G bad t g k → FoundAt G bad t g x → k ≡ x
  same_page g k x A B = go (less? k x) (less? x k)
    where
      go : (k < x) ⊎ (x ≤ k) → (x < k) ⊎ (k ≤ x) → k ≡ x
      go (inl a) _ = absurd (B.first k a A.clear)
      go (inr _) (inl b) = absurd (A.first x b B.clear)
      go (inr a) (inr b) = omega arith

  -- the walk stops at one page
  pub one_found : (g k h x : ℕ) → FoundAt G bad t g k → FoundAt G bad t h x → (g ≡ h) × (k ≡ x)
  one_found g k h x A B =
      let e : g ≡ h = A.segment ∙ ap (looked G t) (same_step g k h x A B) ∙ sym B.segment in
      (e, same_page h k x (subst (λ y. FoundAt G bad t y k) e A) B)

module _ (G : Geometry) (K : Good G) (bad : List ℕ) (t : Tables) (S : Counted G t) where
  abbrev PassedTo : ℕ → Type 0
  PassedTo i = (j : ℕ) → j < i → PassedOver bad t (looked G t j)

  abbrev Walked : Found → Type 0
  Walked (Some x) = FoundAt G bad t x.segment x.page
  Walked None = PassedTo G.n

  passed_more : (i : ℕ) → PassedTo i → PassedOver bad t (looked G t i) → PassedTo (suc i)
  passed_more i p h j b = go (same? j i)
    where
      go : (j ≡ i) ⊎ (j ≢ i) → PassedOver bad t (looked G t j)
      go (inl e) = subst (λ x. PassedOver bad t (looked G t x)) (sym e) h
      go (inr m) = p j (omega arith)

  unusable : (g : ℕ) → usable G bad t g ≡ false → PassedOver bad t g
  unusable g u = go (same? (at bad g) 0)
    where
      go : (at bad g ≡ 0) ⊎ (at bad g ≢ 0) → PassedOver bad t g
      go (inl b) =
          let v : ltb 0 (at t.free g) ≡ false = rw (eq-eqb _ _ b) at u in
          inr (omega (arith, ltb-false 0 (at t.free g) v))
      go (inr n) = inl n

  -- a segment with a free page has a clear one
  some_clear : (g : ℕ) → g < G.n → 0 < at t.free g → Scanned G t.used g 0 G.p None → ⊥
  some_clear g hg h c =
      let j : ℕ = G.p - at t.free g in
      let b : j < G.p = omega (arith, S.free≤ g) in
      c j (omega arith) (omega arith) (S.clear g j hg b (omega (arith, S.free≤ g)))

  walked : (f i : ℕ) → i + f ≡ G.n → PassedTo i → Walked (find_from G bad t i f)
  unfolding find_from
  walked zero i e p = λ j h. p j (omega arith)
  walked (suc f) i e p = go (usable G bad t g) refl (λ q. walked f (suc i) (omega arith) q)
    where
      g : ℕ
      g = looked G t i

      rest : Found
      rest = find_from G bad t (suc i) f

      here : (x : ℕ) → (at bad g ≡ 0) × (0 < at t.free g) → Clear G t.used g 0 G.p x → FoundAt G bad t g x
      here x h c =
          record {
            step = i;
            within = omega arith;
            segment = refl;
            passed = p;
            good = h.0;
            some = h.1;
            page = omega (arith, c.below);
            clear = c.clear;
            first = λ j b. c.first j (omega arith) b;
          }

      stop : (at bad g ≡ 0) × (0 < at t.free g) → (r : Found) → Scanned G t.used g 0 G.p r → Walked (or_else r rest)
      stop h (Some x) c = subst (λ y. FoundAt G bad t y x.page) (sym c.0) (here x.page h c.1)
      stop h None c = absurd (some_clear g (mod-lt (t.alloc + i) K.n≥) h.1 c)

      may : usable G bad t g ≡ true → (at bad g ≡ 0) × (0 < at t.free g)
      may u =
          let h : (eqb (at bad g) 0 ≡ true) × (ltb 0 (at t.free g) ≡ true) = both _ _ u in
          (eqb-true _ _ h.0, ltb-true _ _ h.1)

      go : (b : Bool) → usable G bad t g ≡ b → (PassedTo (suc i) → Walked rest)
          → Walked (cond b (or_else (clear_from G t.used g 0 G.p) rest) rest)
      go true u ih = stop (may u) (clear_from G t.used g 0 G.p) (scanned G t.used g 0 G.p)
      go false u ih = ih (passed_more i p (unusable g u))

  -- a page is found exactly where the walk stops
  pub find_first : (g k : ℕ) → find G bad t ≡ Some (spot g k) → FoundAt G bad t g k
  unfolding find
  find_first g k e = subst Walked e (walked G.n 0 (omega arith) (λ j h. absurd (omega arith)))

  -- nothing is found exactly when every segment is bad or has no free page
  pub find_none : find G bad t ≡ None → AllPassed G bad t
  find_none e g hg = go (found G K t S bad) (same? (at bad g) 0)
    where
      go : Full G K t S bad (find G bad t) ⊎ Free G K t S bad (find G bad t) → (at bad g ≡ 0) ⊎ (at bad g ≢ 0) → PassedOver bad t g
      go (inl f) (inl b) = inr (f.full g hg b)
      go (inl f) (inr n) = inl n
      go (inr f) _ = absurd (let z : ◌≡◌ {A = ℕ} 0 1 = cc (f.is, e) in omega arith)

  pub none_find : AllPassed G bad t → find G bad t ≡ None
  none_find p = go (found G K t S bad)
    where
      never : (g : ℕ) → at bad g ≡ 0 → 0 < at t.free g → PassedOver bad t g → ⊥
      never g b h (inl n) = n b
      never g b h (inr z) = omega arith

      go : Full G K t S bad (find G bad t) ⊎ Free G K t S bad (find G bad t) → find G bad t ≡ None
      go (inl f) = f.is
      go (inr f) = absurd (never f.seg f.good f.next.some_free (p f.seg f.next.seg))

  inside : (g k : ℕ) → FoundAt G bad t g k → g < G.n
  inside g k A = subst (λ x. x < G.n) (sym A.segment) (mod-lt (t.alloc + A.step) K.n≥)

  pub first_find : (g k : ℕ) → FoundAt G bad t g k → find G bad t ≡ Some (spot g k)
  first_find g k A = go (found G K t S bad)
    where
      go : Full G K t S bad (find G bad t) ⊎ Free G K t S bad (find G bad t) → find G bad t ≡ Some (spot g k)
      go (inl f) = absurd (omega (arith, A.some, f.full g (inside g k A) A.good))
      go (inr f) =
          let q : (g ≡ f.seg) × (k ≡ G.p - at t.free f.seg) = one_found G bad t _ _ _ _ A (find_first _ _ f.is) in
          cc (f.is, q.0, q.1)

  -- the pages from it on are the segment's free ones
  pub found_page : (g k : ℕ) → FoundAt G bad t g k → k + at t.free g ≡ G.p
  found_page g k A = go (less? (k + at t.free g) G.p) (less? G.p (k + at t.free g))
    where
      go : (k + at t.free g < G.p) ⊎ (G.p ≤ k + at t.free g) → (G.p < k + at t.free g) ⊎ (k + at t.free g ≤ G.p)
          → k + at t.free g ≡ G.p
      go (inl a) _ = absurd (omega (arith, S.marked g k (inside g k A) a, A.clear))
      go (inr _) (inl b) =
          let j : k - 1 < k = omega (arith, S.free≤ g) in
          absurd (A.first (k - 1) j (S.clear g (k - 1) (inside g k A) (omega (arith, A.page)) (omega arith)))
      go (inr a) (inr b) = omega arith

-- ---- such tables: segments 2, 0 and 1 are queued, of which 2 and 0 hold one page each; segment 4, the allocation segment, is bad

abbrev D : Geometry
D = record { n = 5; p = 2; s = 4; w = 1; e = 4; limit = 5 }

abbrev bads : List ℕ
bads = 0 ∷ 0 ∷ 0 ∷ 0 ∷ 1 ∷ []

abbrev t₀ : Tables
t₀ =
    tables
    (0 ∷ 4 ∷ empty ∷ empty ∷ [])
    (0 ∷ 0 ∷ 0 ∷ 1 ∷ 2 ∷ [])
    (1 ∷ 0 ∷ 1 ∷ 0 ∷ 0 ∷ [])
    (1 ∷ 1 ∷ 1 ∷ 1 ∷ 1 ∷ 1 ∷ 1 ∷ 0 ∷ 0 ∷ 0 ∷ [])
    (0 ∷ 0 ∷ 0 ∷ 0 ∷ 1 ∷ 0 ∷ 0 ∷ 0 ∷ 0 ∷ 0 ∷ [])
    (1 ∷ 0 ∷ 1 ∷ 0 ∷ 0 ∷ [])
    (2 ∷ 0 ∷ 1 ∷ 0 ∷ 0 ∷ [])
    (1 ∷ 1 ∷ 1 ∷ 0 ∷ 0 ∷ [])
    4
    3

good_D : Good D
unfolding every good?
good_D = good_test D refl

counted_t₀ : Counted D t₀
unfolding occ all every blank up_to names soundb
counted_t₀ =
    soundb_counted D t₀ (record { map = refl; free = refl; valid = refl; used = refl; lists = refl; lens = refl; queue = refl; flags = refl }) refl

-- Segment 1 first, then 2 before 0 as they stood. Past bad 4 and full 0, 1 and 2 the walk comes to 3, whose page 0 is used; with 3 bad too to nothing
pub record Shown : Type 0 where
  order : sorted t₀ ≡ 1 ∷ 2 ∷ 0 ∷ []
  stably : StablySorted (at t₀.valid) (2 ∷ 0 ∷ 1 ∷ []) (1 ∷ 2 ∷ 0 ∷ [])
  first : sorted t₀ ≡ victim t₀ ∷ queue_of (taken t₀)
  page : FoundAt D bads t₀ 3 1
  last : page.step ≡ 4
  none : AllPassed D (0 ∷ 0 ∷ 0 ∷ 1 ∷ 1 ∷ []) t₀

shown : Shown
unfolding insert_by sort_by sorted clear_from find_from find
shown =
    let f : FoundAt D bads t₀ 3 1 = find_first D good_D bads t₀ counted_t₀ 3 1 refl in
    record {
      order = refl;
      stably = sorted_stably t₀;
      first = first_taken D t₀ counted_t₀ (omega arith);
      page = f;
      last = omega (arith, f.within, f.segment);
      none = find_none D good_D (0 ∷ 0 ∷ 0 ∷ 1 ∷ 1 ∷ []) t₀ counted_t₀ refl;
    }

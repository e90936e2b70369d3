-- Draining a victim by writes of no bytes: it changes no content, the victim stays the victim, and as many accepted writes as pages are listed end it.
use Prim.Native.Nat.{ℕ, zero, suc, ◌+◌, ◌-◌, ◌≤◌, ◌<◌}
use native.Mathlib.Nat.{add-zero}
use native.Mathlib.Omega.{arith}
use mathlib.Core.Path.{◌≡◌, refl, sym, ap, ◌∙◌, subst}
use mathlib.Core.Bool.{Bool, true, false, cond}
use mathlib.Core.Logic.{◌⊎◌, inl, inr, ◌≢◌}
use mathlib.Core.List.{List, [], ◌∷◌, ◌++◌}
use lib.Dec.{leb}
use lib.ListN.{length, take, drop, take-append-drop}
use lib.Seq.{get_or-set_same, get_or-set_other}
use borrow.Author.Tests.{leb-true, leb-false}
use Rattle.model.specs.Lists.{insert_by, sort_by, splice}
use Rattle.model.specs.declared.Geometry.{Geometry}
use Rattle.model.specs.Numbers.{Answer}
use Rattle.model.specs.Numbers.{Ok, Err}
use Rattle.model.specs.Numbers.{Good, seg_of, logical_page, offset}
use Rattle.model.specs.Tables.{Tables, at, word_of, queue_of}
use Rattle.model.specs.Sound.{Mapped}
use Rattle.model.specs.Device.{State, Out, may_program}
use Rattle.model.specs.PageMap.{find, spend, unlink, forget}
use Rattle.model.specs.PageWrite.{holds, content, old_page, stored, spent, write_at, write_page}
use Rattle.model.specs.PageGc.{sorted, victim}
use Rattle.model.specs.Entry.{Recorder, Lent, lent, back, state_of}
use Rattle.model.specs.History.{Write, lit, run, after, content_of}
use Rattle.model.proofs.Working.{Counted}
use Rattle.model.proofs.Slots.{same?, less?, by_same}
use Rattle.model.proofs.Counts.{occ-get_or, length_sort}
use Rattle.model.proofs.Reading.{in_valid, counted_queue}
use Rattle.model.proofs.View.{view-packed}
use Rattle.model.proofs.Spend.{Next as FirstFree, spend_sound}
use Rattle.model.proofs.Find.{Full, Free, found}
use Rattle.model.proofs.Unlink.{len_pos}
use Rattle.model.proofs.Content.{content_mapped, old_mapped}
use Rattle.model.proofs.Write.{Own, Shorter, Wrote}
use Rattle.model.proofs.Taken.{victim_seg, victim_full, victim_flag}
use Rattle.model.proofs.Collect.{last_in}
use Rattle.model.proofs.Entry.{Fits, inner, wrote_by, back-content}
use Rattle.demands.proofs.Ends.{forget_flagged}
use Rattle.demands.specs.Given.{tab}
use Rattle.demands.specs.Protocol.{Drained, First, Shortened, accepts, DrainsNext, Drains, none, with_fuse, writes}

-- ---- step 1: the victim is the first in the queue with the fewest valid pages

-- there is one such
first_one : (key : ℕ → ℕ) (xs : List ℕ) (v v' : ℕ) → First key xs v → First key xs v' → v ≡ v'
first_one key xs v v' A B = sym A.is ∙ ap (at xs) (go (less? A.place B.place) (less? B.place A.place)) ∙ B.is
  where
    go : (A.place < B.place) ⊎ (B.place ≤ A.place) → (B.place < A.place) ⊎ (A.place ≤ B.place) → A.place ≡ B.place
    go (inl h) _ = absurd (omega (arith, B.earlier A.place h, A.least B.place B.within, ap key A.is, ap key B.is))
    go (inr _) (inl h) = absurd (omega (arith, A.earlier B.place h, B.least A.place A.within, ap key A.is, ap key B.is))
    go (inr a) (inr b) = omega arith

-- with its key lowered and no other changed it is first still
first_lowered : (key key' : ℕ → ℕ) (xs : List ℕ) (v : ℕ) → First key xs v → key' v ≤ key v
    → ((j : ℕ) → j < length xs → at xs j ≢ v → key' (at xs j) ≡ key (at xs j)) → First key' xs v
first_lowered key key' xs v A h k =
    record {
      place = A.place;
      within = A.within;
      is = A.is;
      least = λ j b. low j b (same? (at xs j) v);
      earlier = λ j b.
          let c : j < length xs = omega (arith, A.within) in
          omega (arith, A.earlier j b, k j c (λ e. omega (arith, A.earlier j b, ap key e)));
    }
  where
    low : (j : ℕ) → j < length xs → (at xs j ≡ v) ⊎ (at xs j ≢ v) → key' v ≤ key' (at xs j)
    low j b (inl e) = omega (arith, ap key' e)
    low j b (inr n) = omega (arith, A.least j b, k j b n)

-- a stable sort puts it at the front
insert_front : (key : ℕ → ℕ) (x : ℕ) (zs : List ℕ) → 0 < length zs → at (insert_by key x zs) 0 ≡ cond (leb (key x) (key (at zs 0))) x (at zs 0)
unfolding insert_by
insert_front key x [] h = absurd (omega arith)
insert_front key x (z ∷ zs) h = go (leb (key x) (key z))
  where
    go : (b : Bool) → at (cond b (x ∷ z ∷ zs) (z ∷ insert_by key x zs)) 0 ≡ cond b x z
    go true = refl
    go false = refl

sort_first : (key : ℕ → ℕ) (x : ℕ) (xs : List ℕ) → First key (x ∷ xs) (at (sort_by key (x ∷ xs)) 0)
unfolding sort_by insert_by
sort_first key x [] = record { place = 0; within = omega arith; is = refl; least = only; earlier = λ j h. absurd (omega arith) }
  where
    only : (j : ℕ) → j < 1 → key x ≤ key (at (x ∷ []) j)
    only zero h = omega arith
    only (suc j) h = absurd (omega arith)
sort_first key x (z ∷ zs) =
    subst (First key (x ∷ z ∷ zs)) (sym (insert_front key x (sort_by key (z ∷ zs)) (omega (arith, length_sort key (z ∷ zs)))))
    (go (at (sort_by key (z ∷ zs)) 0) (sort_first key z zs) (leb (key x) (key (at (sort_by key (z ∷ zs)) 0))) refl)
  where
    go : (f : ℕ) → First key (z ∷ zs) f → (b : Bool) → leb (key x) (key f) ≡ b → First key (x ∷ z ∷ zs) (cond b x f)
    go f I true q = record { place = 0; within = omega arith; is = refl; least = low; earlier = λ j h. absurd (omega arith) }
      where
        low : (j : ℕ) → j < suc (suc (length zs)) → key x ≤ key (at (x ∷ z ∷ zs) j)
        low zero h = omega arith
        low (suc j) h = omega (arith, leb-true (key x) (key f) q, I.least j (omega arith))
    go f I false q =
        record { place = suc I.place; within = omega (arith, I.within); is = I.is; least = low; earlier = before }
      where
        low : (j : ℕ) → j < suc (suc (length zs)) → key f ≤ key (at (x ∷ z ∷ zs) j)
        low zero h = omega (arith, leb-false (key x) (key f) q)
        low (suc j) h = I.least j (omega arith)

        before : (j : ℕ) → j < suc I.place → key f < key (at (x ∷ z ∷ zs) j)
        before zero h = leb-false (key x) (key f) q
        before (suc j) h = I.earlier j (omega arith)

pub victim_first : (G : Geometry) (t : Tables) → Counted G t → 0 < t.queued → First (at t.valid) (queue_of t) (victim t)
unfolding sorted
victim_first G t S some = go (queue_of t) (omega (arith, (counted_queue G t S).size))
  where
    go : (xs : List ℕ) → 0 < length xs → First (at t.valid) xs (at (sort_by (at t.valid) xs) 0)
    go [] h = absurd (omega arith)
    go (x ∷ xs) h = sort_first (at t.valid) x xs

-- ---- draining: a write of no bytes to a mapped page

splice_none : (o : ℕ) (xs : List ℕ) → splice o [] xs ≡ xs
unfolding splice
splice_none o xs = ap (λ j. take o xs ++ drop j xs) (add-zero o) ∙ take-append-drop o xs

module _ (G : Geometry) (bad : List ℕ) (sector : ℕ) (d : List ℕ) (s : List (List ℕ)) (r : Recorder) (m : Mapped (tab G r) (logical_page G sector)) where
  abbrev l : ℕ
  l = logical_page G sector

  abbrev x : Lent
  x = lent r [] s

  abbrev deed : Out
  deed = inner G bad sector 0 d x

  abbrev Did : Type 0
  Did = Wrote G (state_of G x) l (offset G sector) [] deed

  own_keeps : (a : Answer) → Own G (state_of G x) deed.st l (offset G sector) [] a → content G deed.st l ≡ content_of G r l
  own_keeps (Ok k) own =
      own.1
      ∙ ap holds (splice_none (offset G sector) (old_page G (state_of G x) l) ∙ old_mapped G (state_of G x) l m)
      ∙ sym (content_mapped G (state_of G x) l m)
  own_keeps (Err c) own = own

  deed_keeps : Fits G bad x → Did → (j : ℕ) → content_of G (back G x deed).left.unit j ≡ content_of G r j
  deed_keeps X W j =
      back-content G bad x X deed W.sound j
      ∙ by_same (λ j. content G deed.st j ≡ content_of G r j) l (own_keeps deed.answer W.own) W.others j

  -- whatever it answers, no logical page's content changes
  pub empty-write_keeps : (j : ℕ) → content_of G (after G bad (Write sector 0 d s) r) j ≡ content_of G r j
  empty-write_keeps =
      wrote_by G bad sector 0 d x (λ y. (j : ℕ) → content_of G y.left.unit j ≡ content_of G r j) (λ j. refl) (λ j. refl) deed_keeps

  -- if it is accepted and the page's segment is full, that segment's list is one shorter
  abbrev g : ℕ
  g = seg_of G (word_of (tab G r) l)

  deed_shortens : (k : ℕ) → deed.answer ≡ Ok k → Fits G bad x → Did → at (tab G r).free g ≡ 0 → suc (at deed.st.tab.lens g) ≡ at (tab G r).lens g
  deed_shortens k e X W z =
      let less : Shorter G (state_of G x) deed.st l g (Ok k) = subst (Shorter G (state_of G x) deed.st l g) e (W.shorter g z) in
      omega (arith, less m refl, len_pos G (tab G r) X.counted l g m refl)

  abbrev OneLess : Recorder → Type 0
  OneLess r' = suc (at (tab G r').lens g) ≡ at (tab G r).lens g

  pub empty-write_shortens : (k : ℕ) → (run G bad (Write sector 0 d s) r).answer ≡ Ok k → at (tab G r).free g ≡ 0 → OneLess (after G bad (Write sector 0 d s) r)
  empty-write_shortens k =
      wrote_by G bad sector 0 d x (λ y. y.answer ≡ Ok k → at (tab G r).free g ≡ 0 → OneLess y.left.unit)
      (λ e. absurd (let z : ◌≡◌ {A = ℕ} 0 1 = cc in omega arith))
      (λ e. absurd (let z : ◌≡◌ {A = ℕ} 0 1 = cc in omega arith))
      (λ X W e z.
      subst (λ t. suc (at t.lens g) ≡ at (tab G r).lens g) (sym (view-packed W.sound.sized)) (deed_shortens k e X W z))

-- ---- the victim stays the victim while it is drained

-- A write of a page of the segment v, which is full and flagged: the queue stays, and of the full segments v alone may have another valid count,
-- and no higher one.
record Aside (v : ℕ) (t t' : Tables) : Type 0 where
  queue : t'.queue ≡ t.queue
  queued : t'.queued ≡ t.queued
  own : at t'.valid v ≤ at t.valid v
  others : (y : ℕ) → at t.free y ≡ 0 → y ≢ v → at t'.valid y ≡ at t.valid y

-- a refused write changes no list
abbrev Unlisted : State → State → Answer → Type 0
Unlisted st st' (Ok m) = Unit {0}
Unlisted st st' (Err c) = st'.tab.lens ≡ st.tab.lens

module _ (G : Geometry) (K : Good G) (bad : List ℕ) (p i : ℕ) (d : List ℕ) (v : ℕ) (st : State) (S : Counted G st.tab) (m : Mapped st.tab p)
    (e : seg_of G (word_of st.tab p) ≡ v) (z : at st.tab.free v ≡ 0) (f : at st.tab.flags v ≡ 1) where
  abbrev Both : Out → Type 0
  Both y = Aside v st.tab y.st.tab × Unlisted st y.st y.answer

  apart : (j k : ℕ) → FirstFree G st.tab j k → (y : ℕ) → at st.tab.free y ≡ 0 → y ≢ j
  apart j k N y w q = omega (arith, N.some_free, ap (at st.tab.free) q)

  stored_aside : (j k : ℕ) → FirstFree G st.tab j k → (page : List ℕ) → Aside v st.tab (stored G p (length d) j k page st).st.tab
  stored_aside j k N page =
      let q : forget G p (spend G j k st.tab) ≡ unlink G p v (spend G j k st.tab) = forget_flagged G p v (spend G j k st.tab) m e f in
      let w : List ℕ = (spend G j k st.tab).valid in
      let b : v < length w = in_valid (spend_sound G st.tab S j k N).sized (subst (λ a. a < G.n) e (S.seg< p m)) in
      record {
        queue = ap (λ (t : Tables). t.queue) q;
        queued = ap (λ (t : Tables). t.queued) q;
        own =
            omega (
              arith,
              ap (λ (t : Tables). at t.valid v) q,
              get_or-set_same w v (at w v - 1) 0 b,
              get_or-set_other st.tab.valid j v (at st.tab.valid j + 1) 0 (apart j k N v z),
            );
        others = λ y h n.
            ap (λ (t : Tables). at t.valid y) q
            ∙ get_or-set_other w v y (at w v - 1) 0 n
            ∙ get_or-set_other st.tab.valid j y (at st.tab.valid j + 1) 0 (apart j k N y h);
      }

  spent_aside : (j k : ℕ) → FirstFree G st.tab j k → Aside v st.tab (spent G j k st).st.tab
  spent_aside j k N =
      record {
        queue = refl;
        queued = refl;
        own = omega (arith, get_or-set_other st.tab.valid j v (at st.tab.valid j + 1) 0 (apart j k N v z));
        others = λ y h n. get_or-set_other st.tab.valid j y (at st.tab.valid j + 1) 0 (apart j k N y h);
      }

  aside : Both (write_page G bad p i d st)
  unfolding write_page write_at
  aside = go (found G K st.tab S bad)
    where
      at_page : (j k : ℕ) → FirstFree G st.tab j k → (b : Bool)
          → Both (cond b (stored G p (length d) j k (splice i d (old_page G st p)) st) (spent G j k st))
      at_page j k N true = (stored_aside j k N (splice i d (old_page G st p)), tt)
      at_page j k N false = (spent_aside j k N, refl)

      go : Full G K st.tab S bad (find G bad st.tab) ⊎ Free G K st.tab S bad (find G bad st.tab) → Both (write_at G (find G bad st.tab) p i d st)
      go (inl full) =
          subst (λ a. Both (write_at G a p i d st)) (sym full.is)
          (record { queue = refl; queued = refl; own = omega arith; others = λ y h n. refl }, refl)
      go (inr free) =
          subst (λ a. Both (write_at G a p i d st)) (sym free.is)
          (at_page free.seg _ free.next (may_program G free.seg _ st.flash))

aside_victim : (G : Geometry) (t t' : Tables) → Counted G t → Counted G t' → 0 < t.queued → Aside (victim t) t t' → victim t' ≡ victim t
aside_victim G t t' S S' some D =
    first_one (at t'.valid) (queue_of t) (victim t') (victim t)
    (subst (λ q. First (at t'.valid) q (victim t')) same (victim_first G t' S' (omega (arith, D.queued))))
    (first_lowered (at t.valid) (at t'.valid) (queue_of t) (victim t) (victim_first G t S some) D.own
    (λ j b n. D.others (at (queue_of t) j) (S.full (at (queue_of t) j) (omega (arith, S.once (at (queue_of t) j), occ-get_or (queue_of t) j b))) n))
  where
    same : queue_of t' ≡ queue_of t
    same = ap (λ k. take k t'.queue) D.queued ∙ ap (take t.queued) D.queue

left_none : (G : Geometry) (r : Recorder) → Shortened G 0 r r
left_none G r = record { same = refl; waits = refl; fewer = omega arith; contents = λ j. refl }

left_more : (G : Geometry) (a b : ℕ) (r r' r'' : Recorder) → Shortened G a r r' → Shortened G b r' r'' → Shortened G (a + b) r r''
left_more G a b r r' r'' A B =
    record {
      same = B.same ∙ A.same;
      waits = B.waits ∙ A.waits;
      fewer = omega (arith, A.fewer, B.fewer, ap (at (tab G r'').lens) A.same, ap (at (tab G r').lens) A.same);
      contents = λ j. B.contents j ∙ A.contents j;
    }

module _ (G : Geometry) (bad : List ℕ) (sector : ℕ) (d : List ℕ) (s : List (List ℕ)) (r : Recorder) (some : 0 < (tab G r).queued) (E : DrainsNext G sector r) where
  abbrev v : ℕ
  v = victim (tab G r)

  abbrev lending : Lent
  lending = lent r [] s

  abbrev out : Out
  out = inner G bad sector 0 d lending

  -- where its tests pass
  module _ (X : Fits G bad lending) (W : Wrote G (state_of G lending) (logical_page G sector) (offset G sector) [] out) where
    full : at (tab G r).free v ≡ 0
    full = victim_full G (tab G r) X.counted some

    here : Mapped (tab G r) (logical_page G sector) × (seg_of G (word_of (tab G r) (logical_page G sector)) ≡ v)
    here =
        subst (λ p. Mapped (tab G r) p × (seg_of G (word_of (tab G r) p) ≡ v)) (sym E.last)
        (last_in G v (victim_seg G (tab G r) X.counted some) (tab G r) X.counted E.more)

    by_side : Aside v (tab G r) out.st.tab × Unlisted (state_of G lending) out.st out.answer
    by_side =
        aside G X.good bad (logical_page G sector) (offset G sector) [] v (state_of G lending) X.counted here.0 here.1 full
        (victim_flag G (tab G r) X.counted some)

    shorter : (a : Answer) → out.answer ≡ a → Unlisted (state_of G lending) out.st a → at out.st.tab.lens v + accepts a ≡ at (tab G r).lens v
    shorter (Ok k) q u =
        let less : suc (at out.st.tab.lens v) ≡ at (tab G r).lens v =
        subst (λ h. suc (at out.st.tab.lens h) ≡ at (tab G r).lens h) here.1
        (deed_shortens G bad sector d s r here.0 k q X W (ap (at (tab G r).free) here.1 ∙ full)) in
        omega arith
    shorter (Err c) q u = omega (arith, ap (λ xs. at xs v) u)

    went : Shortened G (accepts out.answer) r (back G lending out).left.unit
    went =
        let q : tab G (back G lending out).left.unit ≡ out.st.tab = view-packed W.sound.sized in
        record {
          same = ap victim q ∙ aside_victim G (tab G r) out.st.tab X.counted W.sound some by_side.0;
          waits = ap (λ (t : Tables). t.queued) q ∙ by_side.0.queued;
          fewer = ap (λ (t : Tables). at t.lens v + accepts out.answer) q ∙ shorter out.answer refl by_side.1;
          contents = deed_keeps G bad sector d s r here.0 X W;
        }

  emptied_left : Shortened G (accepts (run G bad (Write sector 0 d s) r).answer) r (after G bad (Write sector 0 d s) r)
  emptied_left = wrote_by G bad sector 0 d lending (λ y. Shortened G (accepts y.answer) r y.left.unit) (left_none G r) (left_none G r) went

module _ (G : Geometry) (bad : List ℕ) where
  -- another fuse changes none of these
  relit : (f k : ℕ) (r r' : Recorder) → Shortened G k (lit f r) r' → Shortened G k r r'
  unfolding content
  relit f k r r' L = record { same = L.same; waits = L.waits; fewer = L.fewer; contents = λ j. L.contents j }

  -- whatever each of the writes answers, a refused one changes none of these
  pub drains : {k : ℕ} {r r' : Recorder} → 0 < (tab G r).queued → Drains G bad k r r' → Shortened G k r r'
  drains {r = r} some none = left_none G r
  drains {k} {r} {r'} some (with_fuse f h) = relit f k r r' (drains some h)
  drains {r = r} {r' = r'} some (writes {k} sector d s E h) =
      let A : Shortened G (accepts (run G bad (Write sector 0 d s) r).answer) r (after G bad (Write sector 0 d s) r) = emptied_left G bad sector d s r some E in
      left_more G _ k r (after G bad (Write sector 0 d s) r) r' A (drains (omega (arith, A.waits)) h)

  -- as many accepted as pages were listed, and the victim is drained
  pub drains_all : {k : ℕ} {r r' : Recorder} → 0 < (tab G r).queued → Drains G bad k r r' → at (tab G r).lens (victim (tab G r)) ≡ k → Drained G r'
  drains_all {k} {r} {r'} some h e =
      let L : Shortened G k r r' = drains some h in
      λ _. ap (at (tab G r').lens) L.same ∙ omega (arith, L.fewer)

-- 02, M-109: queueing the full segments that hold dead pages keeps sound tables sound, and changes the queue and the flags alone.
use Prim.Native.Nat.{ℕ, zero, suc, ◌+◌, ◌-◌, ◌≤◌, ◌<◌}
use native.Mathlib.Numerals.{add-one}
use native.Mathlib.Omega.{arith}
use mathlib.Core.Path.{◌≡◌, refl, sym, ap, ◌∙◌}
use mathlib.Core.Bool.{Bool, true, false, cond}
use mathlib.Core.Logic.{◌⊎◌, inl, inr, ◌≢◌}
use mathlib.Core.List.{List, [], ◌∷◌, ◌++◌, append-nil, append_assoc}
use lib.ListN.{get_or, take, drop, set, length-set}
use lib.Seq.{take-suc-set, drop-set-lt, drop-drop, get_or-set_same, get_or-set_other}
use borrow.Author.Tests.{eqb-true}
use Rattle.model.specs.Lists.{occ, bit, zeros}
use Rattle.model.specs.Numbers.{Geometry, Good, empty}
use Rattle.model.specs.Tables.{Tables, at, word_of, list_of, queue_of}
use Rattle.model.specs.Sound.{names}
use Rattle.model.specs.Checkpoint.{Queueing, Empty, Dead, dead?, queue_last, queue_dead, dead_ones, with_queue, requeued, welcome, settle, settle_all, bare, restored}
use Rattle.model.specs.Checkpoint.{restored_by, reason_of, map_of, free_of, alloc_of}
use Rattle.model.proofs.Working.{Counted}
use Rattle.model.proofs.Slots.{same?, set_ind, drop-zeros, same_replicate, mapped_lt}
use Rattle.model.proofs.Counts.{bit_same, bit_other, occ_one, occ-append, sum_to, sum_same, count_all}
use Rattle.model.proofs.Tests.{both}
use Rattle.model.proofs.Reading.{in_flags, list_length, list_mapped}
use Rattle.model.proofs.Enqueue.{lt_queue, flag_set≤, flag_set_full, one_more_fits}
use Rattle.model.proofs.Restore.{Back}
use Rattle.model.proofs.Sealed.{accepted_sound}

module _ (G : Geometry) (t : Tables) (S : Counted G t) (g : ℕ) (seg : g < G.n) (none_free : at t.free g ≡ 0) (off : at t.flags g ≡ 0) where
  pub last_queue : queue_of (queue_last G g t) ≡ queue_of t ++ (g ∷ [])
  last_queue =
      ap (λ k. take k (set t.queue t.queued g)) (add-one t.queued) ∙ take-suc-set t.queue t.queued g (lt_queue G t S g seg none_free off)

  last_once : (j : ℕ) → occ j (queue_of (queue_last G g t)) ≤ at (queue_last G g t).flags j
  last_once =
      set_ind (λ j x. occ j (queue_of (queue_last G g t)) ≤ x) t.flags g 1 0 (in_flags S.sized seg)
      (rw last_queue (omega (arith, occ-append g (queue_of t) (g ∷ []), occ_one g g, bit_same g, S.once g)))
      (λ j n. rw last_queue (omega (arith, occ-append j (queue_of t) (g ∷ []), occ_one j g, bit_other j g n, S.once j)))

  last_behind : drop (t.queued + 1) (set t.queue t.queued g) ≡ zeros (G.n - (t.queued + 1))
  last_behind =
      let e : G.n - t.queued - 1 ≡ G.n - (t.queued + 1) = omega arith in
      drop-set-lt (t.queued + 1) t.queue t.queued g (omega arith)
      ∙ sym (drop-drop 1 t.queued t.queue)
      ∙ ap (drop 1) S.behind
      ∙ drop-zeros 1 (G.n - t.queued)
      ∙ ap zeros e

  pub last_sound : Counted G (queue_last G g t)
  last_sound = search (
    length-set,
    last_once,
    flag_set≤ G t S g seg none_free off,
    flag_set_full G t S g seg none_free off,
    one_more_fits G t S g seg none_free off,
    last_behind,
  )

-- segment by segment from g up: the flags from there on are clear
module _ (G : Geometry) where
  abbrev Ahead : ℕ → Tables → Type 0
  Ahead g t = (x : ℕ) → g ≤ x → at t.flags x ≡ 0

  dead_ahead : (g : ℕ) (t : Tables) → Ahead g t → (b : Bool) → Ahead (suc g) (cond b (queue_last G g t) t)
  dead_ahead g t h true x b = get_or-set_other t.flags g x 1 0 (omega arith) ∙ h x (omega arith)
  dead_ahead g t h false x b = h x (omega arith)

  dead_one : (g : ℕ) (t : Tables) → g < G.n → Counted G t → Ahead g t → (b : Bool) → dead? G g t ≡ b → Counted G (cond b (queue_last G g t) t)
  dead_one g t hg S h true e = last_sound G t S g hg (eqb-true _ _ (both _ _ e).0) (h g (omega arith))
  dead_one g t hg S h false e = S

  dead_sound : (k g : ℕ) (t : Tables) → k + g ≡ G.n → Counted G t → Ahead g t → Counted G (queue_dead G k g t)
  unfolding queue_dead
  dead_sound zero g t e S h = S
  dead_sound (suc k) g t e S h =
      dead_sound k (suc g) _ (omega arith) (dead_one g t (omega arith) S h (dead? G g t) refl) (dead_ahead g t h (dead? G g t))

  dead_alone : (k g : ℕ) (t : Tables) → queue_dead G k g t ≡ with_queue (queue_dead G k g t) t
  unfolding queue_dead
  dead_alone zero g t = refl
  dead_alone (suc k) g t = go (dead? G g t) (λ t'. dead_alone k (suc g) t')
    where
      go : (b : Bool) → ((t' : Tables) → queue_dead G k (suc g) t' ≡ with_queue (queue_dead G k (suc g) t') t')
          → let t' = queue_dead G k (suc g) (cond b (queue_last G g t) t) in t' ≡ with_queue t' t
      go true ih = ih (queue_last G g t)
      go false ih = ih t

  -- what settling a page leaves as it was, a restore leaves as it was
  settled_stays : {A : Type 0} (f : Tables → A) → ((l a : ℕ) (t : Tables) → f (settle G l a t) ≡ f t)
      → (l : ℕ) (ws : List ℕ) (t : Tables) → f (settle_all G l ws t) ≡ f t
  unfolding settle_all
  settled_stays f e l [] t = refl
  settled_stays f e l (a ∷ ws) t = go (welcome G a t) (λ t'. settled_stays f e (suc l) ws t')
    where
      go : (b : Bool) → ((t' : Tables) → f (settle_all G (suc l) ws t') ≡ f t') → f (settle_all G (suc l) ws (cond b (settle G l a t) t)) ≡ f t
      go true ih = ih (settle G l a t) ∙ e l a t
      go false ih = ih t

  pub restored_ahead : (words free : List ℕ) (alloc : ℕ) → Ahead 0 (restored G words free alloc)
  unfolding restored
  restored_ahead words free alloc x h = ap (λ z. at z x) (settled_stays (λ t. t.flags) (λ l a t. refl) 0 words (bare G free alloc)) ∙ same_replicate G.n 0 x

  pub restored_queued : (words free : List ℕ) (alloc : ℕ) → (restored G words free alloc).queued ≡ 0
  unfolding restored
  restored_queued words free alloc = settled_stays (λ t. t.queued) (λ l a t. refl) 0 words (bare G free alloc)

  pub requeued_sound : (q : Queueing) (words free : List ℕ) (alloc : ℕ) → Counted G (restored G words free alloc)
      → Counted G (requeued G q (restored G words free alloc))
  requeued_sound Empty words free alloc S = S
  requeued_sound Dead words free alloc S = dead_sound G.n 0 _ (omega arith) S (restored_ahead words free alloc)

  -- whatever a file that is not refused says, sound tables come of it under either choice
  pub accepted_by : (q : Queueing) (b : List ℕ) → reason_of G b ≡ 0 → Good G → Counted G (restored_by G q b)
  accepted_by q b e K = requeued_sound q (map_of G b) (free_of G b) (alloc_of G b) (accepted_sound G b e K)

  -- the choice changes queue and flags alone
  pub requeued_alone : (q : Queueing) (t : Tables) → requeued G q t ≡ with_queue (requeued G q t) t
  requeued_alone Empty t = refl
  requeued_alone Dead t = dead_alone G.n 0 t

  pub requeued-back : (q : Queueing) (t t' : Tables) → Back t t' → Back t (requeued G q t')
  requeued-back q t t' B =
      let e : requeued G q t' ≡ with_queue (requeued G q t') t' = requeued_alone q t' in
      record { map = ap (λ z. z.map) e ∙ B.map; free = ap (λ z. z.free) e ∙ B.free; alloc = ap (λ z. z.alloc) e ∙ B.alloc }

  -- ---- what comes back: "01's sentence on what comes back is amended for the queue and flags"

  -- these segments hang on free counts and lists' lengths alone
  pub ones_with : (k x : ℕ) (t' t : Tables) → dead_ones G k x (with_queue t' t) ≡ dead_ones G k x t
  unfolding dead_ones
  ones_with zero x t' t = refl
  ones_with (suc k) x t' t = ap (λ z. cond (dead? G x t) (x ∷ z) z) (ones_with k (suc x) t' t)

  walk_queue : (k g : ℕ) (t : Tables) → k + g ≡ G.n → Counted G t → Ahead g t → queue_of (queue_dead G k g t) ≡ queue_of t ++ dead_ones G k g t
  unfolding queue_dead dead_ones
  walk_queue zero g t e S h = sym (append-nil (queue_of t))
  walk_queue (suc k) g t e S h =
      go (dead? G g t) refl (walk_queue k (suc g) _ (omega arith) (dead_one g t (omega arith) S h (dead? G g t) refl) (dead_ahead g t h (dead? G g t)))
    where
      go : (b : Bool) → dead? G g t ≡ b
          → queue_of (queue_dead G k (suc g) (cond b (queue_last G g t) t)) ≡ queue_of (cond b (queue_last G g t) t) ++ dead_ones G k (suc g) (cond b (queue_last G g t) t)
          → queue_of (queue_dead G k (suc g) (cond b (queue_last G g t) t)) ≡ queue_of t ++ cond b (g ∷ dead_ones G k (suc g) t) (dead_ones G k (suc g) t)
      go true q ih =
          ih
          ∙ ap (λ z. queue_of (queue_last G g t) ++ z) (ones_with k (suc g) (queue_last G g t) t)
          ∙ ap (λ z. z ++ dead_ones G k (suc g) t) (last_queue G t S g (omega arith) (eqb-true _ _ (both _ _ q).0) (h g (omega arith)))
          ∙ append_assoc (queue_of t) (g ∷ []) (dead_ones G k (suc g) t)
      go false q ih = ih

  flags_below : (k g : ℕ) (t : Tables) (x : ℕ) → x < g → at (queue_dead G k g t).flags x ≡ at t.flags x
  unfolding queue_dead
  flags_below zero g t x h = refl
  flags_below (suc k) g t x h = go (dead? G g t) (λ t'. flags_below k (suc g) t' x (omega arith))
    where
      go : (b : Bool) → ((t' : Tables) → at (queue_dead G k (suc g) t').flags x ≡ at t'.flags x)
          → at (queue_dead G k (suc g) (cond b (queue_last G g t) t)).flags x ≡ at t.flags x
      go true ih = ih (queue_last G g t) ∙ get_or-set_other t.flags g x 1 0 (omega arith)
      go false ih = ih t

  walk_flags : (k g : ℕ) (t : Tables) → k + g ≡ G.n → Counted G t → Ahead g t → (x : ℕ) → g ≤ x → x < G.n
      → at (queue_dead G k g t).flags x ≡ bit (dead? G x t)
  unfolding queue_dead
  walk_flags zero g t e S h x a b = absurd (omega arith)
  walk_flags (suc k) g t e S h x a b =
      go (dead? G g t) refl (same? x g)
      (λ n. walk_flags k (suc g) _ (omega arith) (dead_one g t (omega arith) S h (dead? G g t) refl) (dead_ahead g t h (dead? G g t)) x n b)
    where
      here : (c : Bool) → dead? G g t ≡ c → at (queue_dead G k (suc g) (cond c (queue_last G g t) t)).flags g ≡ bit c
      here true q = flags_below k (suc g) (queue_last G g t) g (omega arith) ∙ get_or-set_same t.flags g 1 0 (in_flags S.sized (omega arith))
      here false q = flags_below k (suc g) t g (omega arith) ∙ h g (omega arith)

      stays : (c : Bool) → dead? G x (cond c (queue_last G g t) t) ≡ dead? G x t
      stays true = refl
      stays false = refl

      go : (c : Bool) → dead? G g t ≡ c → (x ≡ g) ⊎ (x ≢ g)
          → (suc g ≤ x → at (queue_dead G k (suc g) (cond c (queue_last G g t) t)).flags x ≡ bit (dead? G x (cond c (queue_last G g t) t)))
          → at (queue_dead G k (suc g) (cond c (queue_last G g t) t)).flags x ≡ bit (dead? G x t)
      go c q (inl r) ih = rw r (here c q ∙ ap bit (sym q))
      go c q (inr n) ih = ih (omega arith) ∙ ap bit (stays c)

  -- after a restore: the queue is these segments, ascending, and just their flags are set
  module _ (words free : List ℕ) (alloc : ℕ) (S : Counted G (restored G words free alloc)) where
    pub queue_is : queue_of (requeued G Dead (restored G words free alloc)) ≡ dead_ones G G.n 0 (restored G words free alloc)
    queue_is =
        walk_queue G.n 0 _ (omega arith) S (restored_ahead words free alloc)
        ∙ ap (λ k. take k (restored G words free alloc).queue ++ dead_ones G G.n 0 (restored G words free alloc)) (restored_queued words free alloc)

    pub flags_are : (g : ℕ) → g < G.n → at (requeued G Dead (restored G words free alloc)).flags g ≡ bit (dead? G g (restored G words free alloc))
    flags_are g h = walk_flags G.n 0 _ (omega arith) S (restored_ahead words free alloc) g (omega arith) h

  -- a list holds exactly the pages mapped into its segment: with one map, lists of one length
  same_lens : (t t' : Tables) → Counted G t → Counted G t' → t'.map ≡ t.map → (g : ℕ) → g < G.n → at t'.lens g ≡ at t.lens g
  same_lens t t' S S' e g h = sym (counts t' S') ∙ ap (λ m. sum_to G.e (λ l. names G (get_or m l empty) g)) e ∙ counts t S
    where
      counts : (t : Tables) → Counted G t → sum_to G.e (λ l. names G (word_of t l) g) ≡ at t.lens g
      counts t S =
          sum_same G.e _ _ (λ l. sym (S.listed l g h))
          ∙ count_all G.e (list_of G t g) (λ l b. rw S.sized.map at (mapped_lt t.map l empty (list_mapped G t S l g h b).0))
          ∙ list_length G t S g h

  pub dead_back : (t t' : Tables) → Counted G t → Counted G t' → Back t t' → (g : ℕ) → g < G.n → dead? G g t' ≡ dead? G g t
  dead_back t t' S S' B g h = cc (ap (λ xs. at xs g) B.free, same_lens t t' S S' B.map g h)

  ones_same : (t t' : Tables) → ((g : ℕ) → g < G.n → dead? G g t' ≡ dead? G g t) → (k x : ℕ) → k + x ≡ G.n → dead_ones G k x t' ≡ dead_ones G k x t
  unfolding dead_ones
  ones_same t t' h zero x e = refl
  ones_same t t' h (suc k) x e = cc (h x (omega arith), ones_same t t' h k (suc x) (omega arith))

  -- tables that come back with their map and free counts have the same such segments
  pub ones_back : (t t' : Tables) → Counted G t → Counted G t' → Back t t' → dead_ones G G.n 0 t' ≡ dead_ones G G.n 0 t
  ones_back t t' S S' B = ones_same t t' (dead_back t t' S S' B) G.n 0 (omega arith)

-- The words and the tables that lie in them: sizes, packing and unpacking, what a word read is, and what a store, or a lent part that
-- has come back, does to the view. Assumes nothing.
use Prim.Native.Nat.{ℕ, suc, ◌+◌, ◌*◌, ◌≤◌, ◌<◌}
use native.Mathlib.Omega.{arith}
use mathlib.Core.Path.{◌≡◌, refl, sym, ap, ◌∙◌}
use mathlib.Core.List.{List, [], ◌∷◌}
use lib.ListN.{length, get_or, take, drop, set, length-append, length-drop, take-append-drop}
use lib.Seq.{take_all, take-take, get_or-take, get_or-set_same}
use Rattle.model.specs.Lists.{slot, on_slot}
use Rattle.model.specs.Numbers.{Geometry}
use Rattle.model.specs.Tables.{Tables, tables, at, region, view, packed, pages, tab_words, o_free, o_valid, o_lens, o_queue, o_flags, o_alloc, o_queued, o_lists}
use Rattle.model.specs.Tables.{set_map, set_free, set_valid, set_used, set_lists, set_lens, set_queue, set_flags, set_alloc, set_queued}
use Rattle.model.proofs.Working.{Sized, Counted}
use Rattle.model.proofs.Slots.{part_fits}
use Rattle.model.proofs.Regions.{on_part, on_part_whole, region-at, region-length, region-region, word-at, cut, spot, cut_at, cut_off, cut_set, cut_part}

pub sized-view : (G : Geometry) (w u : List ℕ) → length w ≡ tab_words G → length u ≡ pages G → Sized G (view G w u)
unfolding view
sized-view G w u h hu =
    record {
      map = region-length 0 G.e w (omega arith);
      free = region-length (o_free G) G.n w (omega arith);
      valid = region-length (o_valid G) G.n w (omega arith);
      used = hu;
      lists = region-length (o_lists G) (pages G) w (omega arith);
      lens = region-length (o_lens G) G.n w (omega arith);
      queue = region-length (o_queue G) G.n w (omega arith);
      flags = region-length (o_flags G) G.n w (omega arith);
    }

-- the regions in order, and the tables made of them
unfoldable pub sizes : Geometry → List ℕ
sizes G = G.e ∷ G.n ∷ G.n ∷ G.n ∷ G.n ∷ G.n ∷ 1 ∷ 1 ∷ pages G ∷ []

unfoldable pub made : List (List ℕ) → List ℕ → Tables
made rs u = tables (part 0) (part 1) (part 2) u (part 8) (part 3) (part 4) (part 5) (at (part 6) 0) (at (part 7) 0)
  where
    part : ℕ → List ℕ
    part j = get_or rs j []

-- the view is made of the regions that the words are cut into
pub view_cut : (G : Geometry) (w u : List ℕ) → view G w u ≡ made (cut (sizes G) w) u
unfolding view made sizes spot
view_cut G w u =
    cc (
      cut_at (sizes G) 0 w 0 (omega arith),
      cut_at (sizes G) 1 w (o_free G) (omega arith),
      cut_at (sizes G) 2 w (o_valid G) (omega arith),
      cut_at (sizes G) 3 w (o_lens G) (omega arith),
      cut_at (sizes G) 4 w (o_queue G) (omega arith),
      cut_at (sizes G) 5 w (o_flags G) (omega arith),
      cut_at (sizes G) 6 w (o_alloc G) (omega arith),
      cut_at (sizes G) 7 w (o_queued G) (omega arith),
      cut_at (sizes G) 8 w (o_lists G) (omega arith),
      word-at (o_alloc G) w,
      word-at (o_queued G) w,
    )

pub packed-length : {G : Geometry} {t : Tables} → Sized G t → length (packed t) ≡ tab_words G
unfolding packed
packed-length S = simp length-append (omega arith)

-- two words and the lists: cut, and joined again
words : (a b : ℕ) (xs : List ℕ) {m : ℕ} → length xs ≡ m → cut (1 ∷ 1 ∷ m ∷ []) (a ∷ b ∷ xs) ≡ (a ∷ []) ∷ (b ∷ []) ∷ xs ∷ []
unfolding cut
words a b xs {m} e = ap (λ r. (a ∷ []) ∷ (b ∷ []) ∷ r ∷ []) (take_all m xs (omega arith))

unwords : (m : ℕ) (xs : List ℕ) → length xs ≡ suc (suc m) → at (take 1 xs) 0 ∷ (at (take 1 (drop 1 xs)) 0 ∷ take m (drop 1 (drop 1 xs))) ≡ xs
unwords m [] e = absurd (omega arith)
unwords m (a ∷ []) e = absurd (omega arith)
unwords m (a ∷ (b ∷ xs)) e = ap (λ r. a ∷ (b ∷ r)) (take_all m xs (omega arith))

-- packed tables, cut
parts : {G : Geometry} {t : Tables} → Sized G t
    → cut (sizes G) (packed t) ≡ t.map ∷ t.free ∷ t.valid ∷ t.lens ∷ t.queue ∷ t.flags ∷ (t.alloc ∷ []) ∷ (t.queued ∷ []) ∷ t.lists ∷ []
unfolding packed sizes
parts {G} {t} S =
    rw (
      cut_off _ _ _ _ S.map,
      cut_off _ _ _ _ S.free,
      cut_off _ _ _ _ S.valid,
      cut_off _ _ _ _ S.lens,
      cut_off _ _ _ _ S.queue,
      cut_off _ _ _ _ S.flags,
      words t.alloc t.queued t.lists S.lists,
    )

pub view-packed : {G : Geometry} {t : Tables} → Sized G t → view G (packed t) t.used ≡ t
unfolding made
view-packed {G} {t} S = view_cut G (packed t) t.used ∙ ap (λ rs. made rs t.used) (parts S)

pub packed-view : (G : Geometry) (w u : List ℕ) → length w ≡ tab_words G → packed (view G w u) ≡ w
unfolding packed made sizes cut
packed-view G w u h =
    let rest : List ℕ = drop G.n (drop G.n (drop G.n (drop G.n (drop G.n (drop G.e w))))) in
    let long : length rest ≡ suc (suc (pages G)) = simp length-drop (omega arith) in
    ap packed (view_cut G w u) ∙ rw (unwords (pages G) rest long) (simp take-append-drop)

-- the view settles the words
pub view_settles : (G : Geometry) (w w' u u' : List ℕ) → length w ≡ tab_words G → length w' ≡ tab_words G → view G w u ≡ view G w' u' → (w ≡ w') × (u ≡ u')
unfolding view
view_settles G w w' u u' h h' e = (sym (packed-view G w u h) ∙ ap packed e ∙ packed-view G w' u' h', ap (λ (t : Tables). t.used) e)

module _ (G : Geometry) (w u : List ℕ) where
  -- a word of a region is a word of the whole
  pub map_at : (l d : ℕ) → l < G.e → get_or (view G w u).map l d ≡ get_or w l d
  unfolding view
  map_at = get_or-take G.e w

  pub free_at : (g d : ℕ) → g < G.n → get_or (view G w u).free g d ≡ get_or w (o_free G + g) d
  unfolding view
  free_at = region-at (o_free G) G.n w

  pub valid_at : (g d : ℕ) → g < G.n → get_or (view G w u).valid g d ≡ get_or w (o_valid G + g) d
  unfolding view
  valid_at = region-at (o_valid G) G.n w

  pub lens_at : (g d : ℕ) → g < G.n → get_or (view G w u).lens g d ≡ get_or w (o_lens G + g) d
  unfolding view
  lens_at = region-at (o_lens G) G.n w

  pub queue_at : (i d : ℕ) → i < G.n → get_or (view G w u).queue i d ≡ get_or w (o_queue G + i) d
  unfolding view
  queue_at = region-at (o_queue G) G.n w

  pub flags_at : (g d : ℕ) → g < G.n → get_or (view G w u).flags g d ≡ get_or w (o_flags G + g) d
  unfolding view
  flags_at = region-at (o_flags G) G.n w

  pub lists_at : (i d : ℕ) → i < pages G → get_or (view G w u).lists i d ≡ get_or w (o_lists G + i) d
  unfolding view
  lists_at = region-at (o_lists G) (pages G) w

  pub alloc_at : (view G w u).alloc ≡ at w (o_alloc G)
  unfolding view
  alloc_at = refl

  pub queued_at : (view G w u).queued ≡ at w (o_queued G)
  unfolding view
  queued_at = refl

  pub used_is : (view G w u).used ≡ u
  unfolding view
  used_is = refl

  -- the front of the queue, and a row of the lists, as parts of the words
  pub front_at : (k : ℕ) → k ≤ G.n → take k (view G w u).queue ≡ region (o_queue G) k w
  unfolding view
  front_at k h = take-take k G.n (drop (o_queue G) w) h

  pub row_at : (g : ℕ) → g < G.n → slot G.p g (view G w u).lists ≡ region (o_lists G + g * G.p) G.p w
  unfolding view
  row_at g h = region-region (o_lists G) (pages G) (g * G.p) G.p w (part_fits G.p h)

  -- one word stored: one region set, and so one field
  stored : (j i v x : ℕ) → x ≡ spot j i (sizes G) → i < at (sizes G) j
      → view G (set w x v) u ≡ made (set (cut (sizes G) w) j (set (get_or (cut (sizes G) w) j []) i v)) u
  stored j i v x e h = view_cut G (set w x v) u ∙ ap (λ rs. made rs u) (ap (λ y. cut (sizes G) (set w y v)) e ∙ cut_set (sizes G) j i v w h)

  pub set-map : (l v : ℕ) → l < G.e → view G (set w l v) u ≡ set_map (set (view G w u).map l v) (view G w u)
  unfolding made sizes cut spot
  set-map l v h = rw (stored 0 l v l refl h, view_cut G w u)

  pub set_free_lem : (g v : ℕ) → g < G.n → view G (set w (o_free G + g) v) u ≡ set_free (set (view G w u).free g v) (view G w u)
  unfolding made sizes cut spot
  set_free_lem g v h = rw (stored 1 g v (o_free G + g) (omega arith) h, view_cut G w u)

  pub set_valid_lem : (g v : ℕ) → g < G.n → view G (set w (o_valid G + g) v) u ≡ set_valid (set (view G w u).valid g v) (view G w u)
  unfolding made sizes cut spot
  set_valid_lem g v h = rw (stored 2 g v (o_valid G + g) (omega arith) h, view_cut G w u)

  pub set_lens_lem : (g v : ℕ) → g < G.n → view G (set w (o_lens G + g) v) u ≡ set_lens (set (view G w u).lens g v) (view G w u)
  unfolding made sizes cut spot
  set_lens_lem g v h = rw (stored 3 g v (o_lens G + g) (omega arith) h, view_cut G w u)

  pub set_queue_lem : (i v : ℕ) → i < G.n → view G (set w (o_queue G + i) v) u ≡ set_queue (set (view G w u).queue i v) (view G w u)
  unfolding made sizes cut spot
  set_queue_lem i v h = rw (stored 4 i v (o_queue G + i) (omega arith) h, view_cut G w u)

  pub set_flags_lem : (g v : ℕ) → g < G.n → view G (set w (o_flags G + g) v) u ≡ set_flags (set (view G w u).flags g v) (view G w u)
  unfolding made sizes cut spot
  set_flags_lem g v h = rw (stored 5 g v (o_flags G + g) (omega arith) h, view_cut G w u)

  pub set_lists_lem : (i v : ℕ) → i < pages G → view G (set w (o_lists G + i) v) u ≡ set_lists (set (view G w u).lists i v) (view G w u)
  unfolding made sizes cut spot
  set_lists_lem i v h = rw (stored 8 i v (o_lists G + i) (omega arith) h, view_cut G w u)

  -- a region of one word holds what was stored there
  one_word : (j v x : ℕ) → x ≡ spot j 0 (sizes G) → at (sizes G) j ≡ 1 → x < length w → at (set (get_or (cut (sizes G) w) j []) 0 v) 0 ≡ v
  one_word j v x e one h =
      get_or-set_same (get_or (cut (sizes G) w) j []) 0 v 0 (rw (cut_at (sizes G) j w x e, one, region-length x 1 w (omega arith)) (omega arith))

  pub set_alloc_lem : (v : ℕ) → o_alloc G < length w → view G (set w (o_alloc G) v) u ≡ set_alloc v (view G w u)
  unfolding made sizes cut spot
  set_alloc_lem v h = rw (stored 6 0 v (o_alloc G) (omega arith) (omega arith), view_cut G w u, one_word 6 v (o_alloc G) (omega arith) refl h)

  pub set_queued_lem : (v : ℕ) → o_queued G < length w → view G (set w (o_queued G) v) u ≡ set_queued v (view G w u)
  unfolding made sizes cut spot
  set_queued_lem v h = rw (stored 7 0 v (o_queued G) (omega arith) (omega arith), view_cut G w u, one_word 7 v (o_queued G) (omega arith) refl h)

  -- the use marks are a list of their own
  pub set_used_lem : (u' : List ℕ) → view G w u' ≡ set_used u' (view G w u)
  unfolding view
  set_used_lem u' = refl

  pub used_row_back : (g : ℕ) (f : List ℕ → List ℕ) → view G w (on_part (g * G.p) G.p f u) ≡ set_used (on_slot G.p g f (view G w u).used) (view G w u)
  unfolding view
  used_row_back g f = refl

  -- a lent part that has come back, changed by f: one region changed by f, and so one field
  module _ (f : List ℕ → List ℕ) (h : length w ≡ tab_words G) where
    lent : (j i k x : ℕ) → x ≡ spot j i (sizes G) → i + k ≤ at (sizes G) j → spot j (at (sizes G) j) (sizes G) ≤ length w → length (f (region x k w)) ≡ k
        → view G (on_part x k f w) u ≡ made (set (cut (sizes G) w) j (on_part i k f (get_or (cut (sizes G) w) j []))) u
    lent j i k x e hk l q =
        view_cut G (on_part x k f w) u
        ∙ ap (λ rs. made rs u) (ap (λ y. cut (sizes G) (on_part y k f w)) e ∙ cut_part (sizes G) j i k f w hk l (rw e at q))

    pub queue_back : (c k : ℕ) → c + k ≤ G.n → length (f (region (o_queue G + c) k w)) ≡ k
        → view G (on_part (o_queue G + c) k f w) u ≡ set_queue (on_part c k f (view G w u).queue) (view G w u)
    unfolding made sizes cut spot
    queue_back c k l e = rw (lent 4 c k (o_queue G + c) (omega arith) l (omega arith) e, view_cut G w u)

    pub queue_front : (k : ℕ) → k ≤ G.n → length (f (region (o_queue G) k w)) ≡ k
        → view G (on_part (o_queue G) k f w) u ≡ set_queue (on_part 0 k f (view G w u).queue) (view G w u)
    unfolding made sizes cut spot
    queue_front k l e = rw (lent 4 0 k (o_queue G) (omega arith) (omega arith) (omega arith) e, view_cut G w u)

    pub queue_whole : length (f (region (o_queue G) G.n w)) ≡ G.n → view G (on_part (o_queue G) G.n f w) u ≡ set_queue (f (view G w u).queue) (view G w u)
    unfolding view
    queue_whole e =
        queue_front G.n (omega arith) e
        ∙ ap (λ q. set_queue q (view G w u)) (on_part_whole G.n f (region (o_queue G) G.n w) (region-length (o_queue G) G.n w (omega arith)))

    pub row_back : (g : ℕ) → g < G.n → length (f (region (o_lists G + g * G.p) G.p w)) ≡ G.p
        → view G (on_part (o_lists G + g * G.p) G.p f w) u ≡ set_lists (on_slot G.p g f (view G w u).lists) (view G w u)
    unfolding made sizes cut spot
    row_back g l e = rw (lent 8 (g * G.p) G.p (o_lists G + g * G.p) (omega arith) (part_fits G.p l) (omega arith) e, view_cut G w u)

-- what sound tables say of single words: those of one segment, and the two that stand alone
pub record Row (G : Geometry) (w : List ℕ) (g : ℕ) : Type 0 where
  pub room : at w (o_valid G + g) + at w (o_free G + g) ≤ G.p
  pub listed : at w (o_lens G + g) ≤ at w (o_valid G + g)
  pub flag : at w (o_flags G + g) ≤ 1

pub record Heads (G : Geometry) (w : List ℕ) : Type 0 where
  pub queued : at w (o_queued G) ≤ G.n
  pub alloc : at w (o_alloc G) < G.n

module _ (G : Geometry) (w u : List ℕ) (C : Counted G (view G w u)) where
  pub row : (g : ℕ) → g < G.n → Row G w g
  row g h =
      record {
        room = omega (arith, C.valid≤ g, valid_at G w u g 0 h, free_at G w u g 0 h);
        listed = omega (arith, C.lens≤ g, valid_at G w u g 0 h, lens_at G w u g 0 h);
        flag = omega (arith, C.flag≤ g, flags_at G w u g 0 h);
      }

  pub heads : Heads G w
  heads = record { queued = omega (arith, C.queued≤, queued_at G w u); alloc = omega (arith, C.alloc<, alloc_at G w u) }

-- Resetting the record of a segment whose list is empty and that is not queued keeps sound tables sound.
use Prim.Native.Nat.{ℕ, ◌+◌, ◌*◌, ◌-◌, ◌≤◌, ◌<◌}
use native.Mathlib.Omega.{arith}
use mathlib.Core.Path.{◌≡◌, sym, ap, ◌∙◌}
use mathlib.Core.Logic.{◌⊎◌, inl, inr, ◌≢◌}
use mathlib.Core.List.{List}
use lib.ListN.{length, length-set, length-replicate, get_or-replicate}
use lib.Seq.{get_or-set_same, get_or-set_other}
use Rattle.model.specs.Lists.{occ, on_slot, slot, zeros}
use Rattle.model.specs.Numbers.{Geometry, page_of, seg_of}
use Rattle.model.specs.Tables.{Tables, at, word_of, list_of, queue_of}
use Rattle.model.specs.Sound.{Mapped, names}
use Rattle.model.specs.PageGc.{reset, unflag}
use Rattle.model.proofs.Working.{Counted}
use Rattle.model.proofs.Slots.{same?, by_same, set_ind, set_both, slot_at, on_slot-length, on_slot_same, on_slot_other}
use Rattle.model.proofs.Counts.{occ_nil}
use Rattle.model.proofs.Reading.{Tail, names_one, in_free, in_valid, in_lens, in_flags, in_lists, in_used}

-- segment v as a finished collection leaves it
abbrev pub freed : Geometry → ℕ → Tables → Tables
freed G v t = unflag G v (reset G v t)

-- part v of a list cleared: its length, that part, and the others
abbrev wipe : ℕ → ℕ → List ℕ → List ℕ
wipe p v xs = on_slot p v (λ _. zeros p) xs

module _ (p v : ℕ) (xs : List ℕ) (h : v * p + p ≤ length xs) where
  wipe_length : length (wipe p v xs) ≡ length xs
  wipe_length = on_slot-length p v (λ _. zeros p) xs h (length-replicate p 0)

  wipe_same : slot p v (wipe p v xs) ≡ zeros p
  wipe_same = on_slot_same p v (λ _. zeros p) xs h (length-replicate p 0)

  wipe_other : (j : ℕ) → j ≢ v → slot p j (wipe p v xs) ≡ slot p j xs
  wipe_other j n = on_slot_other p v j (λ _. zeros p) xs h (length-replicate p 0) n

  pub wipe_at_same : (k : ℕ) → k < p → at (on_slot p v (λ _. zeros p) xs) (v * p + k) ≡ 0
  wipe_at_same k b = sym (slot_at p v (wipe p v xs) k 0 b) ∙ ap (λ z. at z k) wipe_same ∙ get_or-replicate p k 0 0 b

  pub wipe_at_other : (j k : ℕ) → j ≢ v → k < p → at (on_slot p v (λ _. zeros p) xs) (j * p + k) ≡ at xs (j * p + k)
  wipe_at_other j k n b = sym (slot_at p j (wipe p v xs) k 0 b) ∙ ap (λ z. at z k) (wipe_other j n) ∙ slot_at p j xs k 0 b

module _ (G : Geometry) (t : Tables) (S : Counted G t) (v : ℕ) (seg : v < G.n) (bare : at t.lens v ≡ 0) where
  none_listed : (l : ℕ) → occ l (list_of G t v) ≡ 0
  none_listed l = rw bare (occ_nil l)

  -- nothing is mapped into a segment whose list is empty
  pub not_here : (l : ℕ) → Mapped t l → seg_of G (word_of t l) ≢ v
  not_here l m e = omega (arith, none_listed l, S.listed l v seg, names_one G (word_of t l) v m e)

  module _ (off : occ v (queue_of t) ≡ 0) where
    abbrev t' : Tables
    t' = freed G v t

    used_same : (k : ℕ) → k < G.p → at t'.used (v * G.p + k) ≡ 0
    used_same = wipe_at_same G.p v t.used (in_used S.sized seg)

    used_other : (j k : ℕ) → j ≢ v → k < G.p → at t'.used (j * G.p + k) ≡ at t.used (j * G.p + k)
    used_other = wipe_at_other G.p v t.used (in_used S.sized seg)

    free_same : at t'.free v ≡ G.p
    free_same = get_or-set_same t.free v G.p 0 (in_free S.sized seg)

    free_other : (j : ℕ) → j ≢ v → at t'.free j ≡ at t.free j
    free_other j n = get_or-set_other t.free v j G.p 0 n

    lens_same : at t'.lens v ≡ 0
    lens_same = get_or-set_same t.lens v 0 0 (in_lens S.sized seg)

    lens_other : (j : ℕ) → j ≢ v → at t'.lens j ≡ at t.lens j
    lens_other j n = get_or-set_other t.lens v j 0 0 n

    slot_same : slot G.p v t'.lists ≡ zeros G.p
    slot_same = wipe_same G.p v t.lists (in_lists S.sized seg)

    slot_other : (j : ℕ) → j ≢ v → slot G.p j t'.lists ≡ slot G.p j t.lists
    slot_other = wipe_other G.p v t.lists (in_lists S.sized seg)

    reset_free≤ : (j : ℕ) → at t'.free j ≤ G.p
    reset_free≤ = set_ind (λ j x. x ≤ G.p) t.free v G.p 0 (in_free S.sized seg) (omega arith) (λ j _. S.free≤ j)

    reset_marked : (j k : ℕ) → j < G.n → k + at t'.free j < G.p → at t'.used (j * G.p + k) ≡ 1
    reset_marked j k hj h = go (same? j v)
      where
        go : (j ≡ v) ⊎ (j ≢ v) → at t'.used (j * G.p + k) ≡ 1
        go (inl e) = let h' : k + G.p < G.p = rw free_same at (rw e at h) in omega arith
        go (inr n) = used_other j k n (omega arith) ∙ S.marked j k hj (rw (free_other j n) at h)

    reset_clear : (j k : ℕ) → j < G.n → k < G.p → G.p ≤ k + at t'.free j → at t'.used (j * G.p + k) ≡ 0
    reset_clear j k hj hk h = go (same? j v)
      where
        go : (j ≡ v) ⊎ (j ≢ v) → at t'.used (j * G.p + k) ≡ 0
        go (inl e) = rw e (used_same k hk)
        go (inr n) = used_other j k n hk ∙ S.clear j k hj hk (rw (free_other j n) at h)

    reset_lens≤ : (j : ℕ) → at t'.lens j ≤ at t'.valid j
    reset_lens≤ =
        set_both (λ _ k x. k ≤ x) t.lens t.valid v 0 0 (in_lens S.sized seg) (in_valid S.sized seg) (omega arith) S.lens≤

    reset_valid≤ : (j : ℕ) → at t'.valid j + at t'.free j ≤ G.p
    reset_valid≤ =
        set_both (λ _ x f. x + f ≤ G.p) t.valid t.free v 0 G.p (in_valid S.sized seg) (in_free S.sized seg) (omega arith) S.valid≤

    reset_page< : (l : ℕ) → Mapped t l → page_of G (word_of t l) + at t'.free (seg_of G (word_of t l)) < G.p
    reset_page< l m = rw (free_other (seg_of G (word_of t l)) (not_here l m)) (S.page< l m)

    reset-listed : (l j : ℕ) → j < G.n → occ l (list_of G t' j) ≡ names G (word_of t l) j
    reset-listed l =
        by_same (λ j. j < G.n → occ l (list_of G t' j) ≡ names G (word_of t l) j) v
        (λ _. rw lens_same (occ_nil l ∙ sym (none_listed l) ∙ S.listed l v seg))
        (λ j n h. rw (lens_other j n, slot_other j n) (S.listed l j h))

    reset_tails : (j : ℕ) → j < G.n → Tail G t' j
    reset_tails =
        let whole : G.p ≡ G.p - 0 = omega arith in
        by_same (λ j. j < G.n → Tail G t' j) v
        (λ _. rw (lens_same, slot_same) (ap zeros whole))
        (λ j n h. rw (lens_other j n, slot_other j n) (S.tails j h))

    reset_once : (j : ℕ) → occ j (queue_of t) ≤ at t'.flags j
    reset_once = set_ind (λ j x. occ j (queue_of t) ≤ x) t.flags v 0 0 (in_flags S.sized seg) (omega (arith, off)) (λ j _. S.once j)

    reset_flag≤ : (j : ℕ) → at t'.flags j ≤ 1
    reset_flag≤ = set_ind (λ j x. x ≤ 1) t.flags v 0 0 (in_flags S.sized seg) (omega arith) (λ j _. S.flag≤ j)

    reset_full : (j : ℕ) → 0 < at t'.flags j → at t'.free j ≡ 0
    reset_full =
        set_both (λ _ x f. 0 < x → f ≡ 0) t.flags t.free v 0 G.p (in_flags S.sized seg) (in_free S.sized seg)
        (λ h. absurd (omega arith))
        S.full

    -- what else sound tables say is as before
    pub reset_sound : Counted G (freed G v t)
    reset_sound =
        search (
          length-set,
          wipe_length G.p v t.used (in_used S.sized seg),
          wipe_length G.p v t.lists (in_lists S.sized seg),
          reset_free≤,
          reset_marked,
          reset_clear,
          reset_lens≤,
          reset_valid≤,
          reset_page<,
          reset-listed,
          reset_tails,
          reset_once,
          reset_flag≤,
          reset_full,
        )

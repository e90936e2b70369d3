-- Document 01, step 2 and the table part of step 4: finding a page, spending it, invalidating, placing.
use Rattle.std.specs.Prelude.{Option, ℕ, zero, suc, ◌+◌, ◌*◌, ◌-◌, ◌%◌, Bool, cond, ◌&&◌, List, ltb, eqb, set}
use Rattle.model.specs.Lists.{on_slot, without, push_front}
use Rattle.model.specs.Numbers.{Geometry, empty, addr, seg_of}
use Rattle.model.specs.Tables.{Tables, at, word_of, set_map, set_free, set_valid, set_used, set_lists, set_lens, set_queue, set_flags, set_alloc, set_queued}
pub use Rattle.std.specs.Prelude.{Some, None}
pub use Rattle.model.specs.declared.Spot.{Spot}

-- page k of segment g
abbrev pub spot : (g k : ℕ) → Spot
spot g k = record { segment = g; page = k }

-- "Finding a page should say whether no segment had room": where the page is; on sound tables `None` exactly when no segment outside the bad list has
-- a free page (`found`, proofs/Find.antt)
abbrev pub Found : Type 0
Found = Option Spot

abbrev pub or_else : Found → Found → Found
or_else (Some x) r = Some x
or_else None r = r

module _ (G : Geometry) where
  -- the first page of segment g, of f pages from k on, whose use mark is clear
  unfoldable pub clear_from : List ℕ → ℕ → ℕ → ℕ → Found
  clear_from used g k zero = None
  clear_from used g k (suc f) = let r = clear_from used g (suc k) f in cond (eqb (at used (g * G.p + k)) 0) (Some (spot g k)) r

  module _ (bad : List ℕ) where
    -- ".. passing bad segments and those with free count 0"
    abbrev pub usable : Tables → ℕ → Bool
    usable t g = eqb (at bad g) 0 && ltb 0 (at t.free g)

    -- the walk over f segments, from the i-th after the allocation segment on
    unfoldable pub find_from : Tables → ℕ → ℕ → Found
    find_from t i zero = None
    find_from t i (suc f) =
        let g = (t.alloc + i) % G.n in
        let r = find_from t (suc i) f in
        let here = or_else (clear_from t.used g 0 G.p) r in
        cond (usable t g) here r

    -- "from the allocation segment g, look at (g+i) mod n for i = 0 to n-1 .. stops at the first page that is clear"
    unfoldable pub find : Tables → Found
    find t = find_from t 0 G.n

  -- ".. g is set to its segment. Free falls and valid rises by one."
  abbrev pub spend : ℕ → ℕ → Tables → Tables
  spend g k t =
      set_alloc g
      (set_free (set t.free g (at t.free g - 1))
      (set_valid (set t.valid g (at t.valid g + 1)) (set_used (set t.used (g * G.p + k) 1) t)))

  -- "drop the logical page from its segment's list, order of the others kept, valid -1" (and out of the map)
  abbrev pub unlink : ℕ → ℕ → Tables → Tables
  unlink l g t =
      set_map (set t.map l empty)
      (set_lists (on_slot G.p g (without l) t.lists)
      (set_lens (set t.lens g (at t.lens g - 1)) (set_valid (set t.valid g (at t.valid g - 1)) t)))

  -- "put it at the queue's front and set the flag"
  abbrev pub enqueue : ℕ → Tables → Tables
  enqueue g t = set_queue (push_front g t.queue) (set_queued (t.queued + 1) (set_flags (set t.flags g 1) t))

  -- "if that segment's free count is 0 and its flag clear"
  abbrev pub due : ℕ → Tables → Bool
  due g t = eqb (at t.free g) 0 && eqb (at t.flags g) 0

  unfoldable pub invalidate : ℕ → ℕ → Tables → Tables
  invalidate l g t = cond (due g t) (enqueue g (unlink l g t)) (unlink l g t)

  -- "if mapped, invalidate"
  unfoldable pub forget : ℕ → Tables → Tables
  forget l t = cond (eqb (word_of t l) empty) t (invalidate l (seg_of G (word_of t l)) t)

  -- "append to the new segment's list and set the map"
  abbrev pub place : ℕ → ℕ → ℕ → Tables → Tables
  place l g k t =
      set_map (set t.map l (addr G g k))
      (set_lists (set t.lists (g * G.p + at t.lens g) l) (set_lens (set t.lens g (at t.lens g + 1)) t))

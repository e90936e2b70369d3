-- Document 01, step 5 and the threshold of step 6: take, drain, finish; one collection, from the list, by a threshold.
use Rattle.std.specs.Prelude.{ℕ, zero, suc, ◌+◌, ◌-◌, cond, List, [], ◌∷◌, ◌++◌, ltb, eqb, set, drop, replicate}
use Rattle.model.specs.Lists.{on_slot, sort_by, total}
use Rattle.model.specs.Numbers.{Geometry, Answer, Ok, Err, Cause, Wrong, Unsound, Unmapped, NoRoom, Device, CopyNoRoom, CopyDevice, Erase, Reason}
use Rattle.model.specs.Tables.{Tables, at, queue_of, set_free, set_valid, set_used, set_lists, set_lens, set_queue, set_flags, set_queued}
use Rattle.model.specs.Sound.{slot_of}
use Rattle.model.specs.Device.{State, state, Out, out, EraseSeg, may_erase, raised, erased, refuse, finish, and_then}
use Rattle.model.specs.PageWrite.{whole, write_page}

-- "the queue is stably sorted by valid count and the first taken; the rest stays in sorted order"
unfoldable pub sorted : Tables → List ℕ
sorted t = sort_by (at t.valid) (queue_of t)

abbrev pub victim : Tables → ℕ
victim t = at (sorted t) 0

abbrev pub taken : Tables → Tables
taken t = set_queue (drop 1 (sorted t) ++ (0 ∷ drop t.queued t.queue)) (set_queued (t.queued - 1) t)

-- 02, M-111: "a victim with v listed pages": the length of its list when it is taken; its valid count also has pages that are spent
abbrev pub listed_of : Tables → ℕ
listed_of t = at t.lens (victim t)

-- "the free pages of segments outside the bad list", by the bad list and the free counts
unfoldable pub outside : List ℕ → List ℕ → ℕ
outside [] fs = 0
outside (b ∷ bs) [] = 0
outside (b ∷ bs) (f ∷ fs) = cond (eqb b 0) f 0 + outside bs fs

-- "a copy gets 14 or 5"; 02, M-101: "whether no segment had room, and all that call it pass that on"
abbrev pub of_copy : Cause → Cause
of_copy Wrong = Wrong
of_copy Unsound = Unsound
of_copy Unmapped = Unmapped
of_copy NoRoom = CopyNoRoom
of_copy Device = CopyDevice
of_copy CopyNoRoom = CopyNoRoom
of_copy CopyDevice = CopyDevice
of_copy Erase = Erase
of_copy (Reason r) = Reason r

abbrev pub copy_answer : Answer → Answer
copy_answer (Ok m) = Ok m
copy_answer (Err c) = Err (of_copy c)

abbrev pub as_copy_out : Out → Out
as_copy_out o = out o.st (copy_answer o.answer) o.ops

module _ (G : Geometry) where
  -- the record of segment g as an erase leaves it: free and valid count, use marks, list
  abbrev pub reset : ℕ → Tables → Tables
  reset g t =
      set_free (set t.free g G.p)
      (set_valid (set t.valid g 0)
      (set_used (on_slot G.p g (λ _. replicate G.p 0) t.used)
      (set_lists (on_slot G.p g (λ _. replicate G.p 0) t.lists) (set_lens (set t.lens g 0) t))))

  abbrev pub unflag : ℕ → Tables → Tables
  unflag g t = set_flags (set t.flags g 0) t

  -- "Then erase, reset the record, clear the flag, answer 0."
  abbrev pub cleared : ℕ → State → Out
  cleared v st = out (state (unflag v (reset v st.tab)) (erased G v st.flash)) (Ok 0) (EraseSeg v (raised G v st.flash) ∷ [])

  unfoldable pub finish_of : ℕ → State → Out
  finish_of v st = cond (may_erase G v st.flash) (cleared v st) (refuse Erase st)

  -- the last logical page of v's list
  abbrev pub last_of : ℕ → Tables → ℕ
  last_of v t = slot_of G t v (at t.lens v - 1)

  module _ (bad : List ℕ) where
    -- read whole and written whole by the inner write
    abbrev pub copy_one : ℕ → State → Out
    copy_one v st = as_copy_out (write_page G bad (last_of v st.tab) 0 (whole G st (last_of v st.tab)) st)

    -- "While the victim's list is not empty, its last logical page is read whole and written whole": at most b pages
    unfoldable pub drain : ℕ → ℕ → State → Out
    drain zero v st = finish 0 st
    drain (suc b) v st = cond (eqb (at st.tab.lens v) 0) (finish 0 st) (and_then (copy_one v st) (λ st'. drain b v st'))

    -- take, drain, finish. A sound list has at most p pages
    unfoldable pub collect_of : ℕ → State → Out
    collect_of v st = and_then (drain G.p v (state (taken st.tab) st.flash)) (λ st'. finish_of v st')

    -- "One collection: an empty queue answers 0."
    unfoldable pub collect : State → Out
    collect st = cond (eqb st.tab.queued 0) (finish 0 st) (collect_of (victim st.tab) st)

    -- "run one; on a refusal answer that; if the queue is empty, stop before counting; else count one, until m": c are counted already
    unfoldable pub collect_more : ℕ → ℕ → State → Out
    collect_more zero c st = finish c st
    collect_more (suc m) c st =
        and_then (collect st) (λ st'. cond (eqb st'.tab.queued 0) (finish c st') (collect_more m (suc c) st'))

    -- "m = 0 runs none."
    unfoldable pub collect_list : ℕ → State → Out
    collect_list m st = collect_more m 0 st

    -- "total free (all segments) above it runs nothing and answers 0; else collect from the list with limit m"
    unfoldable pub collect_threshold : ℕ → ℕ → State → Out
    collect_threshold threshold m st = cond (ltb threshold (total st.tab.free)) (finish 0 st) (collect_list m st)

-- What a write and a collection answer: a number that a signed word holds. A list counts no more passes than there were segments in the queue,
-- since a pass that takes a victim leaves the queue one shorter.
use Prim.Native.Nat.{ℕ, zero, suc, ◌+◌, ◌-◌, ◌≤◌, ◌<◌}
use native.Mathlib.Omega.{arith}
use mathlib.Core.Path.{◌≡◌, refl, sym, ap, ◌∙◌, subst}
use mathlib.Core.Bool.{Bool, true, false, cond, ◌&&◌}
use mathlib.Core.Logic.{◌≢◌}
use mathlib.Core.List.{List}
use lib.Dec.{eqb, ltb}
use lib.ListN.{length}
use borrow.Author.Tests.{eqb-true, eqb-false, ne_eqb}
use Rattle.model.specs.Lists.{splice, total}
use Rattle.model.specs.declared.Geometry.{Geometry}
use Rattle.model.specs.Numbers.{Answer}
use Rattle.model.specs.Numbers.{Ok, Err}
use Rattle.model.specs.declared.Cause.TheVariants.{Erase}
use Rattle.model.specs.PageMap.{Found}
use Rattle.model.specs.PageMap.{Some, None}
use Rattle.model.specs.Numbers.{Good, empty, seg_of}
use Rattle.model.specs.Causes.{Kind, in_tests, in_read, in_write, in_copy, in_erase, in_file, kind_of, OfReason}
use Rattle.model.specs.Tables.{Tables, at, word_of}
use Rattle.model.specs.Device.{State, state, Out, finish, refuse, go_on, may_program, may_erase}
use Rattle.model.specs.PageMap.{find, spend, unlink, enqueue, invalidate, forget}
use Rattle.model.specs.PageWrite.{whole, old_page, stored, spent, write_at, write_page}
use Rattle.model.specs.PageGc.{victim, taken, copy_answer, cleared, finish_of, last_of, copy_one}
use Rattle.model.specs.PageGc.{drain, collect_of, collect, collect_more, collect_list, collect_threshold}
use Rattle.model.specs.Contract.{Fit}
use Rattle.model.proofs.Causes.{kind_copied}
use Rattle.model.proofs.Working.{Counted}
use Rattle.model.proofs.Taken.{taken_sound, victim_flag, victim_full, victim_seg}
use Rattle.model.proofs.Write.{Wrote, Busy}
use Rattle.model.proofs.Collect.{W, last_in, Kept, collected}
use Rattle.guard.specs.Countable.{Countable}
use Rattle.ftl.specs.declared.calls.Passes.{Passes}
use Rattle.ftl.specs.declared.calls.Passes.TheVariants as by
use Rattle.ftl.specs.Calls.{passes_of}

-- the causes of a write's or a collection's own deed, behind its tests
abbrev pub Deed : Kind → Type 0
Deed in_tests = ⊥
Deed in_read = ⊥
Deed (in_write f) = Unit {0}
Deed (in_copy f) = Unit {0}
Deed in_erase = Unit {0}
Deed (in_file r) = ⊥

deed_known : (k : Kind) → Deed k → OfReason (λ r. r < 4096) k
deed_known in_tests h = tt
deed_known in_read h = tt
deed_known (in_write f) h = tt
deed_known (in_copy f) h = tt
deed_known in_erase h = tt
deed_known (in_file r) h = absurd h

-- a count of at most k, or such a cause
abbrev pub Upto : ℕ → Answer → Type 0
Upto k (Ok m) = m ≤ k
Upto k (Err c) = Deed (kind_of c)

pub upto_countable : (k : ℕ) (a : Answer) → k < 9223372036854775808 → Upto k a → Countable a
upto_countable k (Ok m) h u = omega arith
upto_countable k (Err c) h u = deed_known (kind_of c) u

upto_more : (j k : ℕ) (a : Answer) → j ≤ k → Upto j a → Upto k a
upto_more j k (Ok m) h u = omega arith
upto_more j k (Err c) h u = u

-- one after the other
upto_then : (j k : ℕ) (a : Answer) (o : Out) (f : State → Out) → o.answer ≡ a → Upto j a → Upto k (f o.st).answer
    → Upto k (go_on a o f).answer
upto_then j k (Ok m) o f e h r = r
upto_then j k (Err c) o f e h r = subst (Upto k) (sym e) h

upto_copy : (k : ℕ) (a : Answer) → Upto k a → Upto k (copy_answer a)
upto_copy k (Ok m) h = h
upto_copy k (Err c) h = kind_copied Deed (λ _ d. d) c h

module _ (G : Geometry) (bad : List ℕ) where
  -- ---- the answers

  pub write_upto : (l off : ℕ) (d : List ℕ) (st : State) → Upto (length d) (write_page G bad l off d st).answer
  unfolding write_page write_at
  write_upto l off d st = go (find G bad st.tab)
    where
      at_page : (g k : ℕ) (b : Bool)
          → Upto (length d) (cond b (stored G l (length d) g k (splice off d (old_page G st l)) st) (spent G g k st)).answer
      at_page g k true = omega arith
      at_page g k false = tt

      go : (r : Found) → Upto (length d) (write_at G r l off d st).answer
      go None = tt
      go (Some x) = at_page x.segment x.page (may_program G x.segment x.page st.flash)

  drain_upto : (b v : ℕ) (st : State) → Upto 0 (drain G bad b v st).answer
  unfolding drain
  drain_upto zero v st = omega arith
  drain_upto (suc b) v st = go (eqb (at st.tab.lens v) 0) (λ st'. drain_upto b v st')
    where
      go : (c : Bool) → ((st' : State) → Upto 0 (drain G bad b v st').answer)
          → Upto 0 (cond c (finish 0 st) (go_on (copy_one G bad v st).answer (copy_one G bad v st) (λ st'. drain G bad b v st'))).answer
      go true ih = omega arith
      go false ih =
          let l : ℕ = last_of G v st.tab in
          upto_then (length (whole G st l)) 0 (copy_one G bad v st).answer (copy_one G bad v st) (λ st'. drain G bad b v st') refl
          (upto_copy (length (whole G st l)) (write_page G bad l 0 (whole G st l) st).answer (write_upto l 0 (whole G st l) st))
          (ih (copy_one G bad v st).st)

  finish_upto : (v : ℕ) (st : State) → Upto 0 (finish_of G v st).answer
  unfolding finish_of
  finish_upto v st = go (may_erase G v st.flash)
    where
      go : (b : Bool) → Upto 0 (cond b (cleared G v st) (refuse Erase st)).answer
      go true = omega arith
      go false = tt

  -- the drain that a collection begins with
  abbrev first : State → Out
  first st = drain G bad G.p (victim st.tab) (state (taken st.tab) st.flash)

  pub collect_upto : (st : State) → Upto 0 (collect G bad st).answer
  unfolding collect collect_of
  collect_upto st = go (eqb st.tab.queued 0)
    where
      go : (b : Bool) → Upto 0 (cond b (finish 0 st) (collect_of G bad (victim st.tab) st)).answer
      go true = omega arith
      go false =
          upto_then 0 0 (first st).answer (first st) (λ st'. finish_of G (victim st.tab) st') refl
          (drain_upto G.p (victim st.tab) (state (taken st.tab) st.flash))
          (finish_upto (victim st.tab) (first st).st)

  pub collect_countable : (st : State) → Countable (collect G bad st).answer
  collect_countable st = upto_countable 0 (collect G bad st).answer (omega arith) (collect_upto st)

  -- ---- the queue

  -- a page of a segment whose flag is set queues nothing
  module _ (t : Tables) (l : ℕ) where
    abbrev g : ℕ
    g = seg_of G (word_of t l)

    unlinked : (a b : Bool) → b ≡ false → (cond (a && b) (enqueue G g (unlink G l g t)) (unlink G l g t)).queued ≡ t.queued
    unlinked true b e = rw e
    unlinked false b e = refl

    forget_queued : at t.flags g ≡ 1 → (forget G l t).queued ≡ t.queued
    unfolding forget invalidate
    forget_queued e = go (eqb (word_of t l) empty)
      where
        go : (b : Bool) → (cond b t (invalidate G l g t)).queued ≡ t.queued
        go true = refl
        go false =
            unlinked (eqb (at t.free g) 0) (eqb (at t.flags g) 0) (ne_eqb (at t.flags g) 0 (λ z. omega (arith, e, z)))

  write_queued : (l off : ℕ) (d : List ℕ) (st : State) → at st.tab.flags (seg_of G (word_of st.tab l)) ≡ 1
      → (write_page G bad l off d st).st.tab.queued ≡ st.tab.queued
  unfolding write_page write_at
  write_queued l off d st e = go (find G bad st.tab)
    where
      at_page : (g k : ℕ) (b : Bool)
          → (cond b (stored G l (length d) g k (splice off d (old_page G st l)) st) (spent G g k st)).st.tab.queued ≡ st.tab.queued
      at_page g k true = forget_queued (spend G g k st.tab) l e
      at_page g k false = refl

      go : (r : Found) → (write_at G r l off d st).st.tab.queued ≡ st.tab.queued
      go None = refl
      go (Some x) = at_page x.segment x.page (may_program G x.segment x.page st.flash)

queued_then : (k : ℕ) (a : Answer) (o : Out) (f : State → Out) → o.st.tab.queued ≡ k → (f o.st).st.tab.queued ≡ k
    → (go_on a o f).st.tab.queued ≡ k
queued_then k (Ok m) o f e h = h
queued_then k (Err c) o f e h = e

module _ (G : Geometry) (K : Good G) (bad : List ℕ) where
  -- a drain of a full segment whose flag is set
  drain_queued : (v : ℕ) → v < G.n → (b : ℕ) (st : State) → Counted G st.tab → Fit G st.flash → at st.tab.free v ≡ 0 → at st.tab.flags v ≡ 1
      → (drain G bad b v st).st.tab.queued ≡ st.tab.queued
  unfolding drain
  drain_queued v seg zero st S F z f = refl
  drain_queued v seg (suc b) st S F z f = go (eqb (at st.tab.lens v) 0) refl (λ st' S' F' z' f'. drain_queued v seg b st' S' F' z' f')
    where
      go : (c : Bool) → eqb (at st.tab.lens v) 0 ≡ c
          → ((st' : State) → Counted G st'.tab → Fit G st'.flash → at st'.tab.free v ≡ 0 → at st'.tab.flags v ≡ 1 → (drain G bad b v st').st.tab.queued ≡ st'.tab.queued)
          → (cond c (finish 0 st) (go_on (copy_one G bad v st).answer (copy_one G bad v st) (λ st'. drain G bad b v st'))).st.tab.queued ≡ st.tab.queued
      go true e ih = refl
      go false e ih =
          let some : at st.tab.lens v ≢ 0 = eqb-false _ _ e in
          let l : ℕ = last_of G v st.tab in
          let R : Wrote G st l 0 (whole G st l) (write_page G bad l 0 (whole G st l) st) = W G K bad v seg st S F some in
          let B : Busy G v st.tab (copy_one G bad v st).st.tab = R.busy v z f in
          let q : (copy_one G bad v st).st.tab.queued ≡ st.tab.queued =
          write_queued G bad l 0 (whole G st l) st (ap (at st.tab.flags) (last_in G v seg st.tab S some).1 ∙ f) in
          queued_then st.tab.queued (copy_one G bad v st).answer (copy_one G bad v st) (λ st'. drain G bad b v st') q
          (ih (copy_one G bad v st).st R.sound R.fit B.full B.flagged ∙ q)

  finish_queued : (v : ℕ) (st : State) → (finish_of G v st).st.tab.queued ≡ st.tab.queued
  unfolding finish_of
  finish_queued v st = go (may_erase G v st.flash)
    where
      go : (b : Bool) → (cond b (cleared G v st) (refuse Erase st)).st.tab.queued ≡ st.tab.queued
      go true = refl
      go false = refl

  -- one pass: an empty queue stays empty, any other is one shorter
  collect_queued : (st : State) → Counted G st.tab → Fit G st.flash → (collect G bad st).st.tab.queued ≡ st.tab.queued - 1
  unfolding collect collect_of
  collect_queued st S F = go (eqb st.tab.queued 0) refl
    where
      go : (b : Bool) → eqb st.tab.queued 0 ≡ b
          → (cond b (finish 0 st) (collect_of G bad (victim st.tab) st)).st.tab.queued ≡ st.tab.queued - 1
      go true e = omega (arith, eqb-true st.tab.queued 0 e)
      go false e =
          let n : st.tab.queued ≢ 0 = eqb-false st.tab.queued 0 e in
          let some : 0 < st.tab.queued = omega arith in
          let q : (first G bad st).st.tab.queued ≡ st.tab.queued - 1 =
          drain_queued (victim st.tab) (victim_seg G st.tab S some) G.p (state (taken st.tab) st.flash)
          (taken_sound G st.tab S some)
          F
          (victim_full G st.tab S some)
          (victim_flag G st.tab S some) in
          queued_then (st.tab.queued - 1) (first G bad st).answer (first G bad st) (λ st'. finish_of G (victim st.tab) st') q
          (finish_queued (victim st.tab) (first G bad st).st ∙ q)

  abbrev onward : State → State
  onward st = (collect G bad st).st

  -- so a list counts at most what was queued
  more_upto : (m c : ℕ) (st : State) → Counted G st.tab → Fit G st.flash → Upto (c + st.tab.queued) (collect_more G bad m c st).answer
  unfolding collect_more
  more_upto zero c st S F = omega arith
  more_upto (suc m) c st S F =
      upto_then 0 (c + st.tab.queued) (collect G bad st).answer (collect G bad st) _ refl (collect_upto G bad st)
      (go (eqb (onward st).tab.queued 0) refl (more_upto m (suc c) (onward st) C.sound C.fit))
    where
      C : Kept G st (collect G bad st)
      C = collected G K bad st S F

      go : (b : Bool) → eqb (onward st).tab.queued 0 ≡ b → Upto (suc c + (onward st).tab.queued) (collect_more G bad m (suc c) (onward st)).answer
          → Upto (c + st.tab.queued) (cond b (finish c (onward st)) (collect_more G bad m (suc c) (onward st))).answer
      go true e ih = omega arith
      go false e ih =
          upto_more (suc c + (onward st).tab.queued) (c + st.tab.queued) (collect_more G bad m (suc c) (onward st)).answer
          (omega (arith, eqb-false (onward st).tab.queued 0 e, collect_queued st S F))
          ih

  pub list_countable : (m : ℕ) (st : State) → Counted G st.tab → Fit G st.flash → Countable (collect_list G bad m st).answer
  unfolding collect_list
  list_countable m st S F = upto_countable (0 + st.tab.queued) (collect_more G bad m 0 st).answer (omega (arith, S.queued≤, K.n≤)) (more_upto m 0 st S F)

  pub threshold_countable : (threshold m : ℕ) (st : State) → Counted G st.tab → Fit G st.flash
      → Countable (collect_threshold G bad threshold m st).answer
  unfolding collect_threshold
  threshold_countable threshold m st S F = go (ltb threshold (total st.tab.free))
    where
      go : (b : Bool) → Countable (cond b (finish 0 st) (collect_list G bad m st)).answer
      go true = omega arith
      go false = list_countable m st S F

  pub passes_countable : (passes : Passes) (st : State) → Counted G st.tab → Fit G st.flash → Countable (passes_of G bad passes st).answer
  unfolding collect_list
  passes_countable by.One st S F = collect_countable G bad st
  passes_countable (by.List m) st S F = list_countable m st S F
  passes_countable (by.Threshold threshold m) st S F = threshold_countable threshold m st S F

-- A collection, finished or refused, keeps sound tables sound and changes no logical page's content.
use Prim.Native.Nat.{ℕ, zero, suc, ◌-◌, ◌≤◌, ◌<◌}
use native.Mathlib.Omega.{arith}
use mathlib.Core.Path.{◌≡◌, refl, sym, ap, ◌∙◌}
use mathlib.Core.Bool.{Bool, true, false, cond}
use mathlib.Core.Logic.{◌≢◌}
use mathlib.Core.List.{List, []}
use lib.Dec.{eqb, ltb}
use lib.ListN.{length, get_or}
use lib.Seq.{get_or-set_other}
use borrow.Author.Tests.{eqb-true, eqb-false}
use Rattle.model.specs.Lists.{occ, total}
use Rattle.model.specs.Numbers.{Geometry, Good, Answer, Ok, Err, Erase, empty, seg_of}
use Rattle.model.specs.Tables.{Tables, at, word_of, queue_of}
use Rattle.model.specs.Sound.{Mapped, slot_of}
use Rattle.model.specs.Device.{State, state, Out, out, may_erase, perform_all, finish, refuse, behind, go_on, raised}
use Rattle.model.specs.PageWrite.{content, holds, whole, old_page, write_page}
use Rattle.model.specs.PageGc.{victim, taken, copy_answer, cleared, finish_of, last_of, copy_one}
use Rattle.model.specs.PageGc.{drain, collect_of, collect, collect_more, collect_list, collect_threshold}
use Rattle.model.specs.Contract.{Fit}
use Rattle.model.proofs.Working.{Counted}
use Rattle.model.proofs.Slots.{by_same, mapped_lt, whole-splice}
use Rattle.model.proofs.Reading.{stands, counted_list, list_mapped}
use Rattle.model.proofs.Content.{content_same, content_mapped, page_length, blank_other, blank_fit}
use Rattle.model.proofs.Ops.{Holds, Safe, safe_behind, perform-append}
use Rattle.model.proofs.Write.{Own, Busy, Shorter, Wrote, wrote, old_length}
use Rattle.model.proofs.Taken.{taken_sound, victim_flag, victim_full, victim_seg, victim_off}
use Rattle.model.proofs.Reset.{not_here, reset_sound}

-- what every collection keeps
pub record Kept (G : Geometry) (st : State) (o : Out) : Type 0 where
  pub sound : Counted G o.st.tab
  pub fit : Fit G o.st.flash
  pub contents : (x : ℕ) → content G o.st x ≡ content G st x
  pub performs : o.st.flash ≡ perform_all G o.ops st.flash
  pub safe : (M : List ℕ) → Holds G M st.tab.free → Safe G M o.ops o.st.tab.free

kept_none : (G : Geometry) (st : State) (a : Answer) → Counted G st.tab → Fit G st.flash → Kept G st (out st a [])
kept_none G st a S F =
    record {
      sound = S;
      fit = F;
      contents = λ x. refl;
      performs = refl;
      safe = λ M H. record { safe = tt; holds = λ _. H };
    }

-- one after the other
kept-behind : (G : Geometry) (st : State) (o o' : Out) → Kept G st o → Kept G o.st o' → Kept G st (behind o.ops o')
kept-behind G st o o' A B =
    record {
      sound = B.sound;
      fit = B.fit;
      contents = λ x. B.contents x ∙ A.contents x;
      performs = B.performs ∙ ap (perform_all G o'.ops) A.performs ∙ sym (perform-append G o.ops o'.ops st.flash);
      safe = λ M H. safe_behind G M o.ops o'.ops o.st.tab.free o'.st.tab.free (A.safe M H) (λ H'. B.safe M H');
    }

-- the answer does not matter to what is kept
kept_answer : (G : Geometry) (st : State) (o : Out) (a : Answer) → Kept G st o → Kept G st (out o.st a o.ops)
kept_answer G st o a k = search

-- a drained list is empty, unless a copy was refused
abbrev pub Emptied : Tables → ℕ → Answer → Type 0
Emptied t v (Ok m) = at t.lens v ≡ 0
Emptied t v (Err r) = Unit {0}

pub record Drained (G : Geometry) (v : ℕ) (st : State) (o : Out) : Type 0 where
  pub kept : Kept G st o
  pub busy : Busy G v st.tab o.st.tab
  pub emptied : Emptied o.st.tab v o.answer

module _ (G : Geometry) (v : ℕ) (seg : v < G.n) (t : Tables) (S : Counted G t) (some : at t.lens v ≢ 0) where
  abbrev j : ℕ
  j = at t.lens v - 1

  -- the last logical page of v's list is mapped into v
  pub last_in : Mapped t (last_of G v t) × (seg_of G (word_of t (last_of G v t)) ≡ v)
  last_in = list_mapped G t S (slot_of G t v j) v seg (stands (counted_list G t S v seg) j (omega arith))

module _ (G : Geometry) (K : Good G) (bad : List ℕ) (v : ℕ) (seg : v < G.n) where
  -- one copy: the inner write of the last logical page, whole
  module _ (st : State) (S : Counted G st.tab) (F : Fit G st.flash) (some : at st.tab.lens v ≢ 0) where
    abbrev l : ℕ
    l = last_of G v st.tab

    abbrev o : Out
    o = write_page G bad l 0 (whole G st l) st

    m : Mapped st.tab l
    m = (last_in G v seg st.tab S some).0

    length_whole : length (whole G st l) ≡ G.s
    length_whole = page_length G st.flash F (S.seg< l m) (omega (arith, S.page< l m))

    pub W : Wrote G st l 0 (whole G st l) o
    W = wrote G K bad st S F l 0 (whole G st l) (rw S.sized.map at (mapped_lt st.tab.map l empty m)) (omega (arith, length_whole))

    -- of the page copied itself: what it held is what was written
    own_same : (a : Answer) → Own G st o.st l 0 (whole G st l) a → content G o.st l ≡ content G st l
    own_same (Ok k) own =
        own.1
        ∙ ap holds (whole-splice (whole G st l) (old_page G st l) (length_whole ∙ sym (old_length G K st S F l)))
        ∙ sym (content_mapped G st l m)
    own_same (Err r) own = own

    pub copied : Kept G st o
    copied =
        record {
          sound = W.sound;
          fit = W.fit;
          contents = by_same (λ x. content G o.st x ≡ content G st x) l (own_same o.answer W.own) W.others;
          performs = W.performs;
          safe = W.safe;
        }

  -- v is full and its flag is set: what a drain from such a state must show
  abbrev pub Draining : State → Out → Type 0
  Draining st o = Counted G st.tab → Fit G st.flash → at st.tab.free v ≡ 0 → at st.tab.flags v ≡ 1 → Drained G v st o

  drained_none : (st : State) → at st.tab.lens v ≡ 0 → Draining st (finish 0 st)
  drained_none st e S F z f =
      record { kept = kept_none G st (Ok 0) S F; busy = record { full = z; flagged = f; queue = refl }; emptied = e }

  -- a copy, and if it was no refusal, the rest
  drained_more : (st : State) (rest : State → Out) → at st.tab.lens v ≢ 0
      → ((st' : State) → at st'.tab.lens v ≡ at st.tab.lens v - 1 → Draining st' (rest st'))
      → Draining st (go_on (copy_one G bad v st).answer (copy_one G bad v st) rest)
  drained_more st rest some ih S F z f = go (o st S F some).answer ((W st S F some).shorter v z)
    where
      st' : State
      st' = (o st S F some).st

      B : Busy G v st.tab st'.tab
      B = (W st S F some).busy v z f

      go : (a : Answer) → Shorter G st st' (l st S F some) v a
          → Drained G v st (go_on (copy_answer a) (out st' (copy_answer a) (o st S F some).ops) rest)
      go (Err r) less =
          record { kept = kept_answer G st (o st S F some) _ (copied st S F some); busy = B; emptied = tt }
      go (Ok k) less =
          let I : Drained G v st' (rest st') =
          ih st' (less (m st S F some) (last_in G v seg st.tab S some).1) (W st S F some).sound (W st S F some).fit B.full B.flagged in
          record {
            kept = kept-behind G st (o st S F some) _ (copied st S F some) I.kept;
            busy = record { full = I.busy.full; flagged = I.busy.flagged; queue = I.busy.queue ∙ B.queue };
            emptied = I.emptied;
          }

  pub drained : (b : ℕ) (st : State) → at st.tab.lens v ≤ b → Draining st (drain G bad b v st)
  unfolding drain
  drained zero st h = drained_none st (omega arith)
  drained (suc b) st h = go (eqb (at st.tab.lens v) 0) refl (λ st' e. drained b st' (omega arith))
    where
      go : (c : Bool) → eqb (at st.tab.lens v) 0 ≡ c
          → ((st' : State) → at st'.tab.lens v ≡ at st.tab.lens v - 1 → Draining st' (drain G bad b v st'))
          → Draining st (cond c (finish 0 st) (go_on (copy_one G bad v st).answer (copy_one G bad v st) (λ st'. drain G bad b v st')))
      go true e ih = drained_none st (eqb-true _ _ e)
      go false e ih = drained_more st (λ st'. drain G bad b v st') (eqb-false _ _ e) ih

  -- the erase and the reset at the end
  finished : (st : State) → Counted G st.tab → Fit G st.flash → at st.tab.lens v ≡ 0 → occ v (queue_of st.tab) ≡ 0
      → Kept G st (finish_of G v st)
  unfolding finish_of
  finished st S F bare off = go (may_erase G v st.flash)
    where
      go : (b : Bool) → Kept G st (cond b (cleared G v st) (refuse Erase st))
      go false = kept_none G st (Err Erase) S F
      go true =
          record {
            sound = reset_sound G st.tab S v seg bare off;
            fit = blank_fit G st.flash F v (raised G v st.flash) seg;
            contents = λ x.
                content_same G st (cleared G v st).st x refl
                (λ m.
                blank_other G st.flash F v (raised G v st.flash) seg _ _ (omega (arith, S.page< x m)) (not_here G st.tab S v seg bare x m));
            performs = refl;
            safe = λ M H.
                record {
                  safe = (seg, λ _. tt);
                  holds = λ e.
                      record {
                        seg = H.seg;
                        page = λ l m. rw (get_or-set_other st.tab.free v (seg_of G (get_or M l empty)) G.p 0 (e.0 l m)) (H.page l m);
                      };
                };
          }

module _ (G : Geometry) (K : Good G) (bad : List ℕ) (st : State) (S : Counted G st.tab) (F : Fit G st.flash) where
  module _ (some : 0 < st.tab.queued) where
    abbrev v : ℕ
    v = victim st.tab

    abbrev st₁ : State
    st₁ = state (taken st.tab) st.flash

    abbrev d : Out
    d = drain G bad G.p v st₁

    seg : v < G.n
    seg = victim_seg G st.tab S some

    D : Drained G v st₁ d
    D =
        drained G K bad v seg G.p st₁ (omega (arith, S.lens≤ v, S.valid≤ v))
        (taken_sound G st.tab S some)
        F
        (victim_full G st.tab S some)
        (victim_flag G st.tab S some)

    -- taking the victim off the queue changes no page
    first : Kept G st d
    first =
        let k : Kept G st₁ d = D.kept in
        let same : (x : ℕ) → content G d.st x ≡ content G st x = λ x. k.contents x ∙ content_same G st st₁ x refl (λ _. refl) in
        search same

    then : (a : Answer) → Emptied d.st.tab v a → Kept G st (go_on a d (λ st'. finish_of G v st'))
    then (Ok m) bare =
        kept-behind G st d _ first
        (finished G K bad v seg d.st D.kept.sound D.kept.fit bare (D.busy.queue ∙ victim_off G st.tab S some))
    then (Err r) _ = first

    collected_of : Kept G st (collect_of G bad v st)
    unfolding collect_of
    collected_of = then d.answer D.emptied

  pub collected : Kept G st (collect G bad st)
  unfolding collect
  collected = go (eqb st.tab.queued 0) refl
    where
      go : (b : Bool) → eqb st.tab.queued 0 ≡ b → Kept G st (cond b (finish 0 st) (collect_of G bad (victim st.tab) st))
      go true e = kept_none G st (Ok 0) S F
      go false e = let n : st.tab.queued ≢ 0 = eqb-false _ _ e in collected_of (omega arith)

module _ (G : Geometry) (K : Good G) (bad : List ℕ) where
  collected_more : (m c : ℕ) (st : State) → Counted G st.tab → Fit G st.flash → Kept G st (collect_more G bad m c st)
  unfolding collect_more
  collected_more zero c st S F = kept_none G st (Ok c) S F
  collected_more (suc m) c st S F = go o.answer (λ st' S' F'. collected_more m (suc c) st' S' F')
    where
      o : Out
      o = collect G bad st

      C : Kept G st o
      C = collected G K bad st S F

      next : (b : Bool) → Kept G o.st (collect_more G bad m (suc c) o.st)
          → Kept G st (behind o.ops (cond b (finish c o.st) (collect_more G bad m (suc c) o.st)))
      next true I = kept-behind G st o _ C (kept_none G o.st (Ok c) C.sound C.fit)
      next false I = kept-behind G st o _ C I

      go : (a : Answer) → ((st' : State) → Counted G st'.tab → Fit G st'.flash → Kept G st' (collect_more G bad m (suc c) st'))
          → Kept G st (go_on a o (λ t. cond (eqb t.tab.queued 0) (finish c t) (collect_more G bad m (suc c) t)))
      go (Ok k) ih = next (eqb o.st.tab.queued 0) (ih o.st C.sound C.fit)
      go (Err r) ih = C

  pub collected_list : (m : ℕ) (st : State) → Counted G st.tab → Fit G st.flash → Kept G st (collect_list G bad m st)
  unfolding collect_list
  collected_list m st S F = collected_more m 0 st S F

  pub collected_threshold : (threshold m : ℕ) (st : State) → Counted G st.tab → Fit G st.flash
      → Kept G st (collect_threshold G bad threshold m st)
  unfolding collect_threshold
  collected_threshold threshold m st S F = go (ltb threshold (total st.tab.free))
    where
      go : (b : Bool) → Kept G st (cond b (finish 0 st) (collect_list G bad m st))
      go true = kept_none G st (Ok 0) S F
      go false = collected_list m st S F

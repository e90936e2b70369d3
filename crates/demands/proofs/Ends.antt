-- How the inner calls end, by their answers: a write, the draining of a victim, one collection.
use Prim.Native.Nat.{ℕ, zero, suc, ◌+◌, ◌*◌, ◌-◌, ◌≤◌, ◌<◌}
use native.Mathlib.Omega.{arith}
use mathlib.Core.Path.{◌≡◌, refl, sym, ap, ◌∙◌, subst}
use mathlib.Core.Bool.{Bool, true, false, cond, ◌&&◌}
use mathlib.Core.Logic.{◌⊎◌, inl, inr, ◌≢◌}
use mathlib.Core.List.{List, [], ◌∷◌, ◌++◌, append-nil}
use lib.Dec.{eqb}
use lib.ListN.{length, get_or, set, take, drop, length-append, length-drop}
use lib.Seq.{take_at, take-take, get_or-set_same, get_or-set_other}
use borrow.Author.Tests.{eqb-true, eqb-false, eq-eqb, ne_eqb}
use Rattle.model.specs.Lists.{bit, occ, slot, splice}
use Rattle.model.specs.declared.Geometry.{Geometry}
use Rattle.model.specs.Numbers.{Answer}
use Rattle.model.specs.declared.Cause.{Cause}
use Rattle.model.specs.Numbers.{Ok, Err}
use Rattle.model.specs.declared.Cause.TheVariants.{Wrong, Unsound, Unmapped, NoRoom, Device, CopyNoRoom, CopyDevice, Erase, Reason}
use Rattle.model.specs.Numbers.{Good, empty, seg_of}
use Rattle.model.specs.Tables.{Tables, at, word_of, queue_of, list_of}
use Rattle.model.specs.Sound.{Mapped, slot_of}
use Rattle.model.specs.Device.{Flash, Op, Program, EraseSeg, State, state, Out, out, may_program, may_erase, raised, blanked, perform_all, finish, refuse, behind, go_on}
use Rattle.model.specs.PageMap.{Some, spot}
use Rattle.model.specs.PageMap.{find, spend, due, unlink, invalidate, forget, place}
use Rattle.model.specs.PageWrite.{content, old_page, whole, stored, spent, write_at, write_page}
use Rattle.model.specs.PageGc.{sorted, victim, taken, copy_answer, cleared, finish_of, last_of, copy_one, drain, collect_of, collect}
use Rattle.model.specs.Contract.{Fit}
use Rattle.model.proofs.Working.{Counted}
use Rattle.model.proofs.Counts.{length_sort, remove, occ-get_or}
use Rattle.model.proofs.Reading.{Reads, counted_list, counted_queue, in_valid, names_one}
use Rattle.model.proofs.Slots.{slot-set_other}
use Rattle.model.proofs.Spend.{Next, spend_sound}
use Rattle.model.proofs.Unlink.{unlink_list}
use Rattle.model.proofs.Forget.{Forgot, forgot}
use Rattle.model.proofs.Find.{Full, Free, found}
use Rattle.model.proofs.Ops.{perform-append}
use Rattle.model.proofs.Write.{Busy, Shorter, Wrote}
use Rattle.model.proofs.Content.{content_same, blank_other}
use Rattle.model.proofs.Reset.{not_here}
use Rattle.model.proofs.Taken.{taken_sound, victim_flag, victim_full, victim_seg, victim_off}
use Rattle.model.proofs.Collect.{Kept, last_in, W, copied}
use Rattle.demands.specs.When.{Copies, none, copy}
use Rattle.demands.specs.Left.{Spent, NotFound, Programs, Stand, CopyEnds, Off, ContentKept, Finished, CopyRefused, EraseRefused, PassEnds}
use Rattle.demands.proofs.Walk.{write_by}

-- ---- 5 (write): "the page found is spent: used, free -1, valid +1, allocation segment set; map, lists, queue, flash unchanged"

pub record Stored (G : Geometry) (bad : List ℕ) (d : List ℕ) (m : ℕ) (st : State) (ops : List Op) : Type 0 where
  pub seg : ℕ
  pub page : ℕ
  pub found : find G bad st.tab ≡ Some (spot seg page)
  pub allowed : may_program G seg page st.flash ≡ true
  pub moved : m ≡ length d
  pub bytes : List ℕ
  pub done : ops ≡ Program seg page bytes ∷ []

-- how a write of the bytes d ends, by its answer
abbrev pub WriteEnds : Geometry → List ℕ → List ℕ → State → State → List Op → Answer → Type 0
WriteEnds G bad d st st' ops (Ok m) = Stored G bad d m st ops
WriteEnds G bad d st st' ops (Err NoRoom) = NotFound G bad st st' × (ops ≡ [])
WriteEnds G bad d st st' ops (Err Device) = Spent G bad st st' × (ops ≡ [])
WriteEnds G bad d st st' ops (Err Wrong) = ⊥
WriteEnds G bad d st st' ops (Err Unsound) = ⊥
WriteEnds G bad d st st' ops (Err Unmapped) = ⊥
WriteEnds G bad d st st' ops (Err CopyNoRoom) = ⊥
WriteEnds G bad d st st' ops (Err CopyDevice) = ⊥
WriteEnds G bad d st st' ops (Err Erase) = ⊥
WriteEnds G bad d st st' ops (Err (Reason r)) = ⊥

abbrev EndsAs : Geometry → List ℕ → List ℕ → State → Out → Type 0
EndsAs G bad d st o = WriteEnds G bad d st o.st o.ops o.answer

module _ (G : Geometry) (K : Good G) (bad : List ℕ) where
  pub write_ends : (l off : ℕ) (d : List ℕ) (st : State) → Counted G st.tab
      → WriteEnds G bad d st (write_page G bad l off d st).st (write_page G bad l off d st).ops (write_page G bad l off d st).answer
  unfolding write_page write_at
  write_ends l off d st S = go (found G K st.tab S bad)
    where
      at_page : (g k : ℕ) → find G bad st.tab ≡ Some (spot g k) → Next G st.tab g k → at bad g ≡ 0 → (b : Bool) → may_program G g k st.flash ≡ b
          → EndsAs G bad d st (cond b (stored G l (length d) g k (splice off d (old_page G st l)) st) (spent G g k st))
      at_page g k e N z true q =
          record { seg = g; page = k; found = e; allowed = q; moved = refl; bytes = splice off d (old_page G st l); done = refl }
      at_page g k e N z false q = (
        record {
          seg = g;
          page = k;
          found = e;
          segment = N.seg;
          first = N.first;
          good = z;
          refused = q;
          used = refl;
          free = refl;
          valid = refl;
          alloc = refl;
          map = refl;
          lists = refl;
          lens = refl;
          queue = refl;
          queued = refl;
          flags = refl;
          flash = refl;
        },
        refl,
      )

      go : Full G K st.tab S bad (find G bad st.tab) ⊎ Free G K st.tab S bad (find G bad st.tab)
          → EndsAs G bad d st (write_at G (find G bad st.tab) l off d st)
      go (inl full) = rw full.is (record { none = full.full; same = refl }, refl)
      go (inr free) =
          subst (λ r. EndsAs G bad d st (write_at G r l off d st)) (sym free.is)
          (at_page free.seg _ free.is free.next free.good (may_program G free.seg _ st.flash) refl)

-- ---- one collection

programs_append : (a b : List Op) → Programs a → Programs b → Programs (a ++ b)
programs_append [] b h k = k
programs_append (Program g i page ∷ a) b h k = programs_append a b h k
programs_append (EraseSeg g c ∷ a) b h k = absurd h

-- dropping a logical page from a segment whose flag is set queues nothing
and_false : (b : Bool) → (b && false) ≡ false
and_false true = refl
and_false false = refl

pub forget_flagged : (G : Geometry) (l v : ℕ) (t : Tables) → Mapped t l → seg_of G (word_of t l) ≡ v → at t.flags v ≡ 1 → forget G l t ≡ unlink G l v t
unfolding forget invalidate
forget_flagged G l v t m e f =
    let d : due G v t ≡ false = rw f (and_false (eqb (at t.free v) 0)) in
    rw (ne_eqb (word_of t l) empty m, e, d)

-- what a copy leaves of the queue and the flags, done or refused, and the operations that it did
abbrev One : List Op → Answer → Type 0
One ops (Ok m) = length ops ≡ 1
One ops (Err c) = ops ≡ []

record Quietly (st : State) (o : Out) : Type 0 where
  queue : o.st.tab.queue ≡ st.tab.queue
  queued : o.st.tab.queued ≡ st.tab.queued
  flags : o.st.tab.flags ≡ st.tab.flags
  programs : Programs o.ops
  one : One o.ops o.answer

quietly : (G : Geometry) (bad : List ℕ) (l off v : ℕ) (d : List ℕ) (st : State) → Mapped st.tab l → seg_of G (word_of st.tab l) ≡ v
    → at st.tab.flags v ≡ 1 → Quietly st (write_page G bad l off d st)
quietly G bad l off v d st m e f =
    write_by G bad (Quietly st) l off d st (record { queue = refl; queued = refl; flags = refl; programs = tt; one = refl }) done
    (λ _ _ _. record { queue = refl; queued = refl; flags = refl; programs = tt; one = refl })
  where
    done : (g k : ℕ) → may_program G g k st.flash ≡ true → Quietly st (stored G l (length d) g k (splice off d (old_page G st l)) st)
    done g k _ =
        let q : forget G l (spend G g k st.tab) ≡ unlink G l v (spend G g k st.tab) = forget_flagged G l v (spend G g k st.tab) m e f in
        record {
          queue = ap (λ (t : Tables). t.queue) q;
          queued = ap (λ (t : Tables). t.queued) q;
          flags = ap (λ (t : Tables). t.flags) q;
          programs = tt;
          one = refl;
        }

-- the last of a list, which stands there once, taken off
remove_last : (x : ℕ) (xs : List ℕ) (j : ℕ) → length xs ≡ suc j → at xs j ≡ x → occ x xs ≡ 1 → remove x xs ≡ take j xs
unfolding remove occ
remove_last x [] j n e o = absurd (omega arith)
remove_last x (y ∷ []) zero n e o = rw (eq-eqb x y (sym e))
remove_last x (y ∷ z ∷ ys) zero n e o = absurd (omega arith)
remove_last x (y ∷ ys) (suc j) n e o = go (eqb x y) (remove_last x ys j (omega arith) e) o
  where
    there : 0 < occ x ys
    there = subst (λ z. 0 < occ z ys) e (occ-get_or ys j (omega arith))

    go : (b : Bool) → (occ x ys ≡ 1 → remove x ys ≡ take j ys) → bit b + occ x ys ≡ 1 → cond b ys (y ∷ remove x ys) ≡ y ∷ take j ys
    go true ih c = absurd (omega (arith, there))
    go false ih c = ap (λ zs. y ∷ zs) (ih (omega arith))

-- a copy that is done takes the last logical page off v's list, and leaves the others in order
abbrev Shrinks : Geometry → ℕ → State → State → Answer → Type 0
Shrinks G v st st' (Ok m) = list_of G st'.tab v ≡ take (at st.tab.lens v - 1) (list_of G st.tab v)
Shrinks G v st st' (Err c) = Unit {0}

module _ (G : Geometry) (K : Good G) (bad : List ℕ) (v : ℕ) (seg : v < G.n) (st : State) (S : Counted G st.tab) (some : at st.tab.lens v ≢ 0)
    (z : at st.tab.free v ≡ 0) (f : at st.tab.flags v ≡ 1) where
  abbrev last : ℕ
  last = last_of G v st.tab

  here_in : Mapped st.tab last × (seg_of G (word_of st.tab last) ≡ v)
  here_in = last_in G v seg st.tab S some

  removed : remove last (list_of G st.tab v) ≡ take (at st.tab.lens v - 1) (list_of G st.tab v)
  removed =
      let R : Reads (list_of G st.tab v) (at st.tab.lens v) (slot_of G st.tab v) = counted_list G st.tab S v seg in
      remove_last last (list_of G st.tab v) (at st.tab.lens v - 1) (omega (arith, R.size)) (R.each (at st.tab.lens v - 1) (omega arith))
      (S.listed last v seg ∙ names_one G (word_of st.tab last) v here_in.0 here_in.1)

  stored_list : (g k : ℕ) → Next G st.tab g k → list_of G (place G last g k (forget G last (spend G g k st.tab))) v
      ≡ take (at st.tab.lens v - 1) (list_of G st.tab v)
  stored_list g k N =
      ap (λ n. take n (slot G.p v (set t₂.lists (g * G.p + at t₂.lens g) last))) (get_or-set_other t₂.lens g v (at t₂.lens g + 1) 0 apart)
      ∙ ap (take (at t₂.lens v)) (slot-set_other G.p g v (at t₂.lens g) last t₂.lists room apart)
      ∙ ap (λ t. list_of G t v) (forget_flagged G last v t₁ here_in.0 here_in.1 f)
      ∙ unlink_list G t₁ S₁ last v here_in.0 here_in.1
      ∙ removed
    where
      t₁ : Tables
      t₁ = spend G g k st.tab

      t₂ : Tables
      t₂ = forget G last (spend G g k st.tab)

      S₁ : Counted G (spend G g k st.tab)
      S₁ = spend_sound G st.tab S g k N

      Fo : Forgot G last (spend G g k st.tab) (forget G last (spend G g k st.tab))
      Fo = forgot G (spend G g k st.tab) S₁ last

      apart : v ≢ g
      apart e = omega (arith, N.some_free, ap (at st.tab.free) e)

      gap : at (spend G g k st.tab).lens g < at (spend G g k st.tab).valid g
      gap = rw (get_or-set_same st.tab.valid g _ 0 (in_valid S.sized N.seg)) (omega (arith, S.lens≤ g))

      room : at (forget G last (spend G g k st.tab)).lens g < G.p
      room = omega (arith, Fo.gap g gap, Fo.sound.valid≤ g)

  shrinks : Shrinks G v st (write_page G bad last 0 (whole G st last) st).st (write_page G bad last 0 (whole G st last) st).answer
  unfolding write_page write_at
  shrinks = go (found G K st.tab S bad)
    where
      Goal : Out → Type 0
      Goal o = Shrinks G v st o.st o.answer

      at_page : (g k : ℕ) → Next G st.tab g k → (b : Bool)
          → Goal (cond b (stored G last (length (whole G st last)) g k (splice 0 (whole G st last) (old_page G st last)) st) (spent G g k st))
      at_page g k N true = stored_list g k N
      at_page g k N false = tt

      go : Full G K st.tab S bad (find G bad st.tab) ⊎ Free G K st.tab S bad (find G bad st.tab)
          → Goal (write_at G (find G bad st.tab) last 0 (whole G st last) st)
      go (inl n) = subst (λ r. Goal (write_at G r last 0 (whole G st last) st)) (sym n.is) tt
      go (inr free) =
          subst (λ r. Goal (write_at G r last 0 (whole G st last) st)) (sym free.is)
          (at_page free.seg _ free.next (may_program G free.seg _ st.flash))

-- how draining v ends: after `done` copies, with the list empty, or at a copy that was refused
abbrev pub DrainEnd : Geometry → List ℕ → ℕ → State → State → Answer → Type 0
DrainEnd G bad v here st' (Ok m) = (st' ≡ here) × (at here.tab.lens v ≡ 0)
DrainEnd G bad v here st' (Err c) = (st' ≡ (copy_one G bad v here).st) × ((copy_one G bad v here).answer ≡ Err c) × (at here.tab.lens v ≢ 0)

pub record DrainEnds (G : Geometry) (bad : List ℕ) (v : ℕ) (st : State) (o : Out) : Type 0 where
  pub done : ℕ
  pub here : State
  pub sound : Counted G here.tab
  pub fit : Fit G here.flash
  pub copies : Copies G bad v done st here
  pub stand : Stand G v done st here o.ops
  pub end : DrainEnd G bad v here o.st o.answer

module _ (G : Geometry) (K : Good G) (bad : List ℕ) (v : ℕ) (seg : v < G.n) where
  abbrev pub Draining : State → Out → Type 0
  Draining st o = Counted G st.tab → Fit G st.flash → at st.tab.free v ≡ 0 → at st.tab.flags v ≡ 1 → DrainEnds G bad v st o

  stand_none : (st : State) → at st.tab.free v ≡ 0 → Stand G v 0 st st []
  stand_none st z =
      record {
        contents = λ l. refl;
        performs = refl;
        programs = tt;
        many = refl;
        fewer = omega arith;
        listed = sym (take-take (at st.tab.lens v) (at st.tab.lens v) (slot G.p v st.tab.lists) (omega arith));
        full = z;
        queue = refl;
        queued = refl;
        flags = refl;
      }

  drain_none : (st : State) → at st.tab.lens v ≡ 0 → Draining st (finish 0 st)
  drain_none st e S F z f =
      record { done = 0; here = st; sound = S; fit = F; copies = none; stand = stand_none st z; end = (refl, e) }

  drain_more : (st : State) (rest : State → Out) → at st.tab.lens v ≢ 0
      → ((st' : State) → at st'.tab.lens v ≡ at st.tab.lens v - 1 → Draining st' (rest st'))
      → Draining st (go_on (copy_one G bad v st).answer (copy_one G bad v st) rest)
  drain_more st rest some ih S F z f = go o.answer refl (w.shorter v z) Q.one (shrinks G K bad v seg st S some z f)
    where
      l : ℕ
      l = last_of G v st.tab

      o : Out
      o = write_page G bad l 0 (whole G st l) st

      here_in : Mapped st.tab l × (seg_of G (word_of st.tab l) ≡ v)
      here_in = last_in G v seg st.tab S some

      w : Wrote G st l 0 (whole G st l) o
      w = W G K bad v seg st S F some

      C : Kept G st o
      C = copied G K bad v seg st S F some

      Q : Quietly st o
      Q = quietly G bad l 0 v (whole G st l) st here_in.0 here_in.1 f

      B : Busy G v st.tab o.st.tab
      B = w.busy v z f

      go : (a : Answer) → o.answer ≡ a → Shorter G st o.st l v a → One o.ops a → Shrinks G v st o.st a
          → DrainEnds G bad v st (go_on (copy_answer a) (out o.st (copy_answer a) o.ops) rest)
      go (Err r) q less n shrunk =
          record {
            done = 0;
            here = st;
            sound = S;
            fit = F;
            copies = none;
            stand = subst (Stand G v 0 st st) (sym n) (stand_none st z);
            end = (refl, ap copy_answer q, some);
          }
      go (Ok k) q less n shrunk =
          let short : at o.st.tab.lens v ≡ at st.tab.lens v - 1 = less here_in.0 here_in.1 in
          let I : DrainEnds G bad v o.st (rest o.st) = ih o.st short w.sound w.fit B.full B.flagged in
          record {
            done = suc I.done;
            here = I.here;
            sound = I.sound;
            fit = I.fit;
            copies = copy some (ap copy_answer q) I.copies;
            stand =
                record {
                  contents = λ x. I.stand.contents x ∙ C.contents x;
                  performs =
                      I.stand.performs ∙ ap (perform_all G (rest o.st).ops) C.performs
                      ∙ sym (perform-append G o.ops (rest o.st).ops st.flash);
                  programs = programs_append o.ops (rest o.st).ops Q.programs I.stand.programs;
                  many = length-append o.ops (rest o.st).ops ∙ omega (arith, n, I.stand.many);
                  fewer = omega (arith, short, I.stand.fewer);
                  listed =
                      I.stand.listed
                      ∙ ap (take (at I.here.tab.lens v)) shrunk
                      ∙ take-take (at I.here.tab.lens v) (at st.tab.lens v - 1) (list_of G st.tab v) (omega (arith, short, I.stand.fewer));
                  full = I.stand.full;
                  queue = I.stand.queue ∙ Q.queue;
                  queued = I.stand.queued ∙ Q.queued;
                  flags = I.stand.flags ∙ Q.flags;
                };
            end = I.end;
          }

  pub drain_ends : (b : ℕ) (st : State) → at st.tab.lens v ≤ b → Draining st (drain G bad b v st)
  unfolding drain
  drain_ends zero st h = drain_none st (omega arith)
  drain_ends (suc b) st h = go (eqb (at st.tab.lens v) 0) refl (λ st' e. drain_ends b st' (omega arith))
    where
      go : (c : Bool) → eqb (at st.tab.lens v) 0 ≡ c
          → ((st' : State) → at st'.tab.lens v ≡ at st.tab.lens v - 1 → Draining st' (drain G bad b v st'))
          → Draining st (cond c (finish 0 st) (go_on (copy_one G bad v st).answer (copy_one G bad v st) (λ st'. drain G bad b v st')))
      go true e ih = drain_none st (eqb-true _ _ e)
      go false e ih = drain_more st (λ st'. drain G bad b v st') (eqb-false _ _ e) ih

module _ (G : Geometry) (K : Good G) (bad : List ℕ) (st : State) (S : Counted G st.tab) (F : Fit G st.flash) where
  module _ (some : 0 < st.tab.queued) where
    abbrev v : ℕ
    v = victim st.tab

    abbrev st₁ : State
    st₁ = state (taken st.tab) st.flash

    abbrev d : Out
    d = drain G bad G.p v st₁

    seg : v < G.n
    seg = victim_seg G st.tab S some

    D : DrainEnds G bad v st₁ d
    D =
        drain_ends G K bad v seg G.p st₁ (omega (arith, S.lens≤ v, S.valid≤ v))
        (taken_sound G st.tab S some)
        F
        (victim_full G st.tab S some)
        (victim_flag G st.tab S some)

    taken_rest : queue_of (taken st.tab) ≡ drop 1 (sorted st.tab)
    unfolding sorted
    taken_rest =
        take_at (drop 1 (sorted st.tab)) _ (st.tab.queued - 1)
        (length-drop 1 (sorted st.tab) ∙ ap (λ m. m - 1) (length_sort _ (queue_of st.tab) ∙ (counted_queue G st.tab S).size))

    -- with the queue and the flags of the tables that the victim was taken off
    off_as : (st' : State) → st'.tab.queue ≡ (taken st.tab).queue → st'.tab.queued ≡ st.tab.queued - 1 → st'.tab.flags ≡ st.tab.flags
        → Off st st'
    off_as st' q n f =
        let e : queue_of st'.tab ≡ queue_of (taken st.tab) = ap (λ k. take k st'.tab.queue) n ∙ ap (take (st.tab.queued - 1)) q in
        record {
          some = some;
          rest = e ∙ taken_rest;
          off = ap (occ v) e ∙ victim_off G st.tab S some;
          flag = ap (λ xs. at xs v) f ∙ victim_flag G st.tab S some;
          flags = f;
        }

    off_here : Off st D.here
    off_here = off_as D.here D.stand.queue D.stand.queued D.stand.flags

    first : (l : ℕ) → content G D.here l ≡ content G st l
    first l = D.stand.contents l ∙ content_same G st st₁ l refl (λ _. refl)

    -- a copy that was refused
    none_copied : (c : Cause) → d.st ≡ (copy_one G bad v D.here).st → (copy_one G bad v D.here).answer ≡ Err c → at D.here.tab.lens v ≢ 0
        → NotFound G bad D.here d.st → CopyEnds G bad D.here d.st c → CopyRefused G bad c st d.st d.ops
    none_copied c e q n N last =
        record {
          done = D.done;
          here = D.here;
          copies = D.copies;
          stand = D.stand;
          more = n;
          refused = q;
          last = last;
          victim_off = subst (Off st) (sym N.same) off_here;
          kept =
              subst (λ z. ContentKept G st z d.ops) (sym N.same) (record { contents = first; performs = D.stand.performs });
        }

    one_spent : (c : Cause) → d.st ≡ (copy_one G bad v D.here).st → (copy_one G bad v D.here).answer ≡ Err c → at D.here.tab.lens v ≢ 0
        → Spent G bad D.here d.st → CopyEnds G bad D.here d.st c → CopyRefused G bad c st d.st d.ops
    one_spent c e q n P last =
        record {
          done = D.done;
          here = D.here;
          copies = D.copies;
          stand = D.stand;
          more = n;
          refused = q;
          last = last;
          victim_off =
              off_as d.st (P.queue ∙ D.stand.queue) (P.queued ∙ D.stand.queued) (P.flags ∙ D.stand.flags);
          kept =
              record {
                contents = λ l.
                    content_same G D.here d.st l (ap (λ m. get_or m l empty) P.map) (λ _. ap (λ f. slotted f l) P.flash) ∙ first l;
                performs = P.flash ∙ D.stand.performs;
              };
        }
      where
        slotted : Flash → ℕ → List ℕ
        slotted f l = whole G (state D.here.tab f) l

    abbrev copy_of : Out
    copy_of = write_page G bad (last_of G v D.here.tab) 0 (whole G D.here (last_of G v D.here.tab)) D.here

    ends_copy : (a : Answer) → copy_of.answer ≡ a → WriteEnds G bad (whole G D.here (last_of G v D.here.tab)) D.here copy_of.st copy_of.ops a
        → (c : Cause) → d.st ≡ copy_of.st → copy_answer a ≡ Err c → at D.here.tab.lens v ≢ 0 → PassEnds G bad st d.st d.ops (copy_answer a)
    ends_copy (Ok m) q w c e n some = absurd (let z : ◌≡◌ {A = ℕ} 0 1 = cc in omega arith)
    ends_copy (Err NoRoom) q w c e n some =
        let N : NotFound G bad D.here d.st = subst (NotFound G bad D.here) (sym e) w.0 in
        none_copied CopyNoRoom e (ap copy_answer q) some N N
    ends_copy (Err Device) q w c e n some =
        let P : Spent G bad D.here d.st = subst (Spent G bad D.here) (sym e) w.0 in
        one_spent CopyDevice e (ap copy_answer q) some P P
    ends_copy (Err Wrong) q w c e n some = absurd w
    ends_copy (Err Unsound) q w c e n some = absurd w
    ends_copy (Err Unmapped) q w c e n some = absurd w
    ends_copy (Err CopyNoRoom) q w c e n some = absurd w
    ends_copy (Err CopyDevice) q w c e n some = absurd w
    ends_copy (Err Erase) q w c e n some = absurd w
    ends_copy (Err (Reason r)) q w c e n some = absurd w

    -- the erase that was refused
    ends_erase : may_erase G v D.here.flash ≡ false → at D.here.tab.lens v ≡ 0 → EraseRefused G bad st D.here d.ops
    ends_erase q n =
        let all : D.done ≡ at st.tab.lens v = omega (arith, D.stand.fewer, n) in
        record {
          copies = subst (λ k. Copies G bad v k st₁ D.here) all D.copies;
          stand = subst (λ k. Stand G v k st₁ D.here d.ops) all D.stand;
          emptied = n;
          refused = q;
          not_reset = λ k h. D.sound.marked v k seg (omega (arith, D.stand.full));
          victim_off = off_here;
          kept = record { contents = first; performs = D.stand.performs };
        }

    -- the erase that was done
    ends_finished : may_erase G v D.here.flash ≡ true → at D.here.tab.lens v ≡ 0
        → Finished G bad st (cleared G v D.here).st (d.ops ++ (cleared G v D.here).ops)
    ends_finished q n =
        let all : D.done ≡ at st.tab.lens v = omega (arith, D.stand.fewer, n) in
        record {
          here = D.here;
          copied = d.ops;
          some = some;
          copies = subst (λ k. Copies G bad v k st₁ D.here) all D.copies;
          stand = subst (λ k. Stand G v k st₁ D.here d.ops) all D.stand;
          erase = q;
          ops_are = refl;
          flash = refl;
          tables = refl;
          rest = off_here.rest;
          kept =
              record {
                contents = λ l.
                    content_same G D.here (cleared G v D.here).st l refl
                    (λ m.
                    blank_other G D.here.flash D.fit v (raised G v D.here.flash) seg _ _ (omega (arith, D.sound.page< l m))
                    (not_here G D.here.tab D.sound v seg n l m))
                    ∙ first l;
                performs =
                    ap (blanked G v (raised G v D.here.flash)) D.stand.performs
                    ∙ sym (perform-append G d.ops (EraseSeg v (raised G v D.here.flash) ∷ []) st.flash);
              };
        }

    abbrev Ends : Out → Type 0
    Ends o = PassEnds G bad st o.st o.ops o.answer

    then : (a : Answer) → DrainEnd G bad v D.here d.st a → Ends (go_on a (out d.st a d.ops) (λ st'. finish_of G v st'))
    unfolding finish_of
    then (Err c) e =
        subst (PassEnds G bad st d.st d.ops) e.1
        (ends_copy copy_of.answer refl
        (write_ends G K bad (last_of G v D.here.tab) 0 (whole G D.here (last_of G v D.here.tab)) D.here D.sound)
        c e.0 e.1 e.2)
    then (Ok m) e = go (may_erase G v d.st.flash) refl
      where
        go : (b : Bool) → may_erase G v d.st.flash ≡ b → Ends (behind d.ops (cond b (cleared G v d.st) (refuse Erase d.st)))
        go true q =
            inr
            (subst (λ z. Finished G bad st (cleared G v z).st (d.ops ++ (cleared G v z).ops)) (sym e.0)
            (ends_finished (ap (λ z. may_erase G v z.flash) (sym e.0) ∙ q) e.1))
        go false q =
            subst (EraseRefused G bad st d.st) (sym (append-nil d.ops))
            (subst (λ z. EraseRefused G bad st z d.ops) (sym e.0) (ends_erase (ap (λ z. may_erase G v z.flash) (sym e.0) ∙ q) e.1))

    ends_of : Ends (collect_of G bad v st)
    unfolding collect_of
    ends_of = then d.answer D.end

  pub pass_ends : PassEnds G bad st (collect G bad st).st (collect G bad st).ops (collect G bad st).answer
  unfolding collect
  pass_ends = go (eqb st.tab.queued 0) refl
    where
      go : (b : Bool) → eqb st.tab.queued 0 ≡ b
          → PassEnds G bad st (cond b (finish 0 st) (collect_of G bad (victim st.tab) st)).st
          (cond b (finish 0 st) (collect_of G bad (victim st.tab) st)).ops
          (cond b (finish 0 st) (collect_of G bad (victim st.tab) st)).answer
      go true e = inl (eqb-true _ _ e, refl, refl)
      go false e = let n : st.tab.queued ≢ 0 = eqb-false _ _ e in ends_of (omega arith)

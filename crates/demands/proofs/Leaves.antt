-- 01's table, "Left behind": what each refusal leaves, for every call on every input.
use Prim.Native.Nat.{ℕ, zero, suc, ◌≤◌}
use native.Mathlib.Omega.{arith}
use mathlib.Core.Path.{◌≡◌, refl, sym, ap, ◌∙◌, subst}
use mathlib.Core.Bool.{Bool, true, false, cond}
use mathlib.Core.Logic.{◌≢◌}
use mathlib.Core.List.{List, [], ◌∷◌, ◌++◌, append_assoc}
use lib.Dec.{eqb, ltb, leb}
use lib.ListN.{length, take}
use lib.Seq.{length-take-le}
use borrow.Author.Tests.{eqb-false, ltb-true, ltb-false, leb-true}
use Rattle.model.specs.Lists.{total}
use Rattle.model.specs.declared.Geometry.{Geometry}
use Rattle.model.specs.Numbers.{Answer}
use Rattle.model.specs.declared.Cause.{Cause}
use Rattle.model.specs.Numbers.{Ok, Err}
use Rattle.model.specs.declared.Cause.TheVariants.{Wrong, Unsound, Unmapped, NoRoom, Device, CopyNoRoom, CopyDevice, Erase, Reason}
use Rattle.model.specs.Numbers.{Good, logical_page, offset}
use Rattle.model.specs.Causes.{kind_of}
use Rattle.model.specs.Device.{Op, State, state, Out, perform_all, finish, go_on}
use Rattle.model.specs.PageWrite.{write_page}
use Rattle.model.specs.PageGc.{collect, collect_more, collect_list, collect_threshold}
use Rattle.model.specs.Checkpoint.{reason_of}
use Rattle.model.specs.Entry.{Recorder, Lent, lent, Outcome, refused, back, state_of, tables_of, page_scratch, seen_scratch, all_fits, collecting}
use Rattle.model.specs.Entry.{formatting, opening, read, write, collection, list_collection, threshold_collection, encoding, restoring}
use Rattle.model.specs.History.{Call, Format, Open, Read, Write, Collect, CollectList, CollectThreshold, Encode, Restore, run}
use Rattle.model.specs.Contract.{Fit}
use Rattle.model.proofs.Working.{Counted}
use Rattle.model.proofs.Ops.{perform-append}
use Rattle.model.proofs.View.{view-packed}
use Rattle.model.proofs.Write.{Wrote, wrote}
use Rattle.model.proofs.Guard.{each, guarded_by, unless_by}
use Rattle.model.proofs.Entry.{SoundIn, Fits, all_fit, packed_in}
use Rattle.demands.proofs.Ends.{WriteEnds, write_ends, pass_ends}
use Rattle.demands.proofs.Unchanged.{stays, formats_all}
use Rattle.model.proofs.Collect.{Kept, collected, collected_list, collected_threshold}
use Rattle.demands.specs.Given.{state_in, lent_to, TablesFit}
use Rattle.demands.specs.When.{start, pass}
use Rattle.demands.specs.Left.{Quiet, PassEnds, Earlier, WriteLeft, Row, Leaves}

-- ---- collections from the list: fewer than m finished passes, each with the queue not empty behind it, and then the pass that was refused

abbrev pub ListEnds : Geometry → List ℕ → ℕ → State → State → List Op → Answer → Type 0
ListEnds G bad m st st' ops (Ok x) = Unit {0}
ListEnds G bad m st st' ops (Err k) = Earlier G bad m k st st' ops

module _ (G : Geometry) (K : Good G) (bad : List ℕ) where
  more_ends : (m c : ℕ) (st : State) → Counted G st.tab → Fit G st.flash
      → ListEnds G bad m st (collect_more G bad m c st).st (collect_more G bad m c st).ops (collect_more G bad m c st).answer
  unfolding collect_more
  more_ends zero c st S F = tt
  more_ends (suc m) c st S F =
      go (collect G bad st).answer refl (pass_ends G K bad st S F) (more_ends m (suc c) (collect G bad st).st C.sound C.fit)
    where
      o : Out
      o = collect G bad st

      C : Kept G st o
      C = collected G K bad st S F

      rest : Out
      rest = collect_more G bad m (suc c) (collect G bad st).st

      more : {k : ℕ} → o.answer ≡ Ok k → o.st.tab.queued ≢ 0 → (a : Answer) → ListEnds G bad m o.st rest.st rest.ops a
          → ListEnds G bad (suc m) st rest.st (o.ops ++ rest.ops) a
      more q n (Ok x) I = tt
      more q n (Err x) I =
          record {
            count = suc I.count;
            fewer = omega (arith, I.fewer);
            here = I.here;
            before = o.ops ++ I.before;
            behind = I.behind;
            passes = pass q n I.passes;
            ops_are = ap (λ z. o.ops ++ z) I.ops_are ∙ sym (append_assoc o.ops I.before I.behind);
            last = I.last;
            kept =
                record {
                  contents = λ l. I.kept.contents l ∙ C.contents l;
                  performs =
                      I.kept.performs ∙ ap (perform_all G rest.ops) C.performs ∙ sym (perform-append G o.ops rest.ops st.flash);
                };
          }

      next : {k : ℕ} → o.answer ≡ Ok k → (b : Bool) → eqb o.st.tab.queued 0 ≡ b → ListEnds G bad m o.st rest.st rest.ops rest.answer
          → ListEnds G bad (suc m) st (cond b (finish c o.st) rest).st (o.ops ++ (cond b (finish c o.st) rest).ops) (cond b (finish c o.st) rest).answer
      next q true e I = tt
      next q false e I = more q (eqb-false _ _ e) rest.answer I

      tail : State → Out
      tail t = cond (eqb t.tab.queued 0) (finish c t) (collect_more G bad m (suc c) t)

      go : (a : Answer) → o.answer ≡ a → PassEnds G bad st o.st o.ops o.answer → ListEnds G bad m o.st rest.st rest.ops rest.answer
          → ListEnds G bad (suc m) st (go_on a o tail).st (go_on a o tail).ops (go_on a o tail).answer
      go (Ok k) q p I = next q (eqb o.st.tab.queued 0) refl I
      go (Err x) q p I =
          subst (ListEnds G bad (suc m) st o.st o.ops) (sym q)
          (record {
            count = 0;
            fewer = omega arith;
            here = st;
            before = [];
            behind = o.ops;
            passes = start;
            ops_are = refl;
            last = subst (PassEnds G bad st o.st o.ops) q p;
            kept = record { contents = C.contents; performs = C.performs };
          })

  -- by a threshold: above it nothing runs, and nothing is refused
  abbrev pub BelowEnds : ℕ → ℕ → State → State → List Op → Answer → Type 0
  BelowEnds t m st st' ops (Ok x) = Unit {0}
  BelowEnds t m st st' ops (Err k) = (total st.tab.free ≤ t) × Earlier G bad m k st st' ops

  threshold_ends : (t m : ℕ) (st : State) → Counted G st.tab → Fit G st.flash
      → BelowEnds t m st (collect_threshold G bad t m st).st (collect_threshold G bad t m st).ops (collect_threshold G bad t m st).answer
  unfolding collect_threshold collect_list
  threshold_ends t m st S F = go (ltb t (total st.tab.free)) refl
    where
      o : Out
      o = collect_more G bad m 0 st

      below : ltb t (total st.tab.free) ≡ false → (a : Answer) → ListEnds G bad m st o.st o.ops a → BelowEnds t m st o.st o.ops a
      below e (Ok x) h = tt
      below e (Err k) h = (ltb-false _ _ e, h)

      go : (b : Bool) → ltb t (total st.tab.free) ≡ b
          → BelowEnds t m st (cond b (finish 0 st) o).st (cond b (finish 0 st) o).ops (cond b (finish 0 st) o).answer
      go true e = tt
      go false e = below e o.answer (more_ends m 0 st S F)

-- ---- every call

-- a write's end, where its refusal is not one of "nothing changed"
write_left : (G : Geometry) (bad : List ℕ) (k : Cause) (d : List ℕ) (st st' : State) (ops : List Op) → (Quiet (kind_of k) → ⊥) → WriteEnds G bad d st st' ops (Err k)
    → WriteLeft G bad k st st' ops
write_left G bad Device d st st' ops n w = w
write_left G bad NoRoom d st st' ops n w = n tt
write_left G bad Wrong d st st' ops n w = w
write_left G bad Unsound d st st' ops n w = w
write_left G bad Unmapped d st st' ops n w = w
write_left G bad CopyNoRoom d st st' ops n w = w
write_left G bad CopyDevice d st st' ops n w = w
write_left G bad Erase d st st' ops n w = w
write_left G bad (Reason r) d st st' ops n w = w

module _ (G : Geometry) (bad : List ℕ) where
  -- what the outcome o of a call c that was lent x says of its row, where it is refused with k
  abbrev Loud : Call → Cause → Lent → Outcome → Type 0
  Loud c k x o =
      o.answer ≡ Err k
      → ((Quiet (kind_of k) → ⊥) → Row G bad c k (state_in G x.unit) (state_in G o.left.unit) o.ops × TablesFit G o.left.unit)
      × (o.left.buffer ≡ x.buffer)
      × (o.left.scratch ≡ x.scratch)

  abbrev QuietAnswer : Answer → Type 0
  QuietAnswer (Ok m) = ⊥
  QuietAnswer (Err c) = Quiet (kind_of c)

  -- a refusal of a test
  tested : (c : Call) (k : Cause) (x : Lent) (t : Cause) → Quiet (kind_of t) → Loud c k x (refused t x)
  tested c k x t q e = (λ n. absurd (n (subst QuietAnswer e q)), refl, refl)

  -- an inner call put back
  put_back : (c : Call) (k : Cause) (x : Lent) (o : Out) → Counted G o.st.tab → ((Quiet (kind_of k) → ⊥) → Row G bad c k (state_of G x) o.st o.ops)
      → ((Quiet (kind_of k) → ⊥) → Row G bad c k (state_in G x.unit) (state_in G (back G x o).left.unit) o.ops × TablesFit G (back G x o).left.unit)
  put_back c k x o S h n =
      let P : SoundIn G (back G x o).left.unit = packed_in G o.st.tab o.st.flash S in (
        subst (λ t. Row G bad c k (state_of G x) (state t o.st.flash) o.ops) (sym (view-packed S.sized)) (h n),
        record { words = P.words_size; used = P.used_size },
      )

  write_loud : (sector len : ℕ) (d : List ℕ) (s : List (List ℕ)) (r : Recorder) (k : Cause)
      → Loud (Write sector len d s) k (lent r [] s) (write G bad sector len d (lent r [] s))
  unfolding write
  write_loud sector len d s r k =
      guarded_by (Loud (Write sector len d s) k x) _ _ _ _ x _ (tested (Write sector len d s) k x Wrong tt)
      (tested (Write sector len d s) k x Unsound tt)
      (λ a b c f e.
      let t : (i : ℕ) → _ = each (all_fits G bad (page_scratch G ∷ seen_scratch G ∷ []) x ∷ leb len (length d) ∷ []) a in
      let X : Fits G bad x = all_fit G bad _ x (t 0) b in
      let w : Wrote G (state_of G x) (logical_page G sector) (offset G sector) (take len d) o =
      wrote G X.good bad (state_of G x) X.counted X.fit (logical_page G sector) (offset G sector) (take len d) (ltb-true _ _ c)
      (rw (length-take-le len d (leb-true _ _ (t 1))) (leb-true _ _ f)) in (
        put_back (Write sector len d s) k x o w.sound
            (λ n. write_left G bad k (take len d) (state_of G x) o.st o.ops n
            (subst (WriteEnds G bad (take len d) (state_of G x) o.st o.ops) e
            (write_ends G X.good bad (logical_page G sector) (offset G sector) (take len d) (state_of G x) X.counted))),
        refl,
        refl,
      ))
    where
      x : Lent
      x = lent r [] s

      o : Out
      o = write_page G bad (logical_page G sector) (offset G sector) (take len d) (state_of G (lent r [] s))

  -- a collection of any kind: its inner call keeps the tables sound, and its end is its row
  collecting_loud : (c : Call) (k : Cause) (x : Lent) (o : Out)
      → (Good G → Counted G (tables_of G x) → Fit G x.unit.flash → Kept G (state_of G x) o)
      → (Good G → Counted G (tables_of G x) → Fit G x.unit.flash → o.answer ≡ Err k → Row G bad c k (state_of G x) o.st o.ops)
      → Loud c k x (collecting G bad x o)
  collecting_loud c k x o keeps ends =
      guarded_by (Loud c k x) _ _ _ _ x _ (tested c k x Wrong tt) (tested c k x Unsound tt)
      (λ a b _ _ e.
      let X : Fits G bad x = all_fit G bad _ x a b in
      (put_back c k x o (keeps X.good X.counted X.fit).sound (λ _. ends X.good X.counted X.fit e), refl, refl))

  -- the calls that only test
  abbrev Silent : Answer → Type 0
  Silent (Ok m) = Unit {0}
  Silent (Err c) = Quiet (kind_of c)

  abbrev SilentOut : Outcome → Type 0
  SilentOut y = Silent y.answer

  silent_leaves : (c : Call) (r : Recorder) (k : Cause) → Silent (run G bad c r).answer → (run G bad c r).answer ≡ Err k → Leaves G bad c r k (run G bad c r)
  silent_leaves c r k s e =
      let q : Quiet (kind_of k) = subst Silent e s in
      let u : (run G bad c r).left ≡ lent_to c r = (stays G bad k q c r e).0 in
      record {
        unchanged = λ _. stays G bad k q c r e;
        row = λ n. absurd (n q);
        buffer = ap (λ (x : Lent). x.buffer) u;
        scratch = ap (λ (x : Lent). x.scratch) u;
      }

  loud_leaves : (c : Call) (r : Recorder) (k : Cause) (x : Lent) → lent_to c r ≡ x → Loud c k x (run G bad c r) → x.unit ≡ r
      → (run G bad c r).answer ≡ Err k → Leaves G bad c r k (run G bad c r)
  loud_leaves c r k x l h u e =
      record {
        unchanged = λ q. stays G bad k q c r e;
        row = subst (λ z. (Quiet (kind_of k) → ⊥) → Row G bad c k (state_in G z) (state_in G (run G bad c r).left.unit) (run G bad c r).ops × TablesFit G (run G bad c r).left.unit) u (h e).0;
        buffer = (h e).1 ∙ ap (λ (x : Lent). x.buffer) (sym l);
        scratch = (h e).2 ∙ ap (λ (x : Lent). x.scratch) (sym l);
      }

  pub leaves : (c : Call) (r : Recorder) (k : Cause) → (run G bad c r).answer ≡ Err k → Leaves G bad c r k (run G bad c r)
  unfolding formatting opening read encoding restoring collection list_collection threshold_collection collect_list
  leaves Format r k =
      silent_leaves Format r k
      (guarded_by SilentOut _ _ _ _ (lent r [] []) _ tt tt (λ _ _ _ _. subst Silent (sym (formats_all G bad G.n 0 (state_of G (lent r [] [])))) tt))
  leaves Open r k = silent_leaves Open r k (guarded_by SilentOut _ _ _ _ (lent r [] []) _ tt tt (λ _ _ _ _. tt))
  leaves (Read sector len o s) r k =
      silent_leaves (Read sector len o s) r k
      (guarded_by SilentOut _ _ _ _ (lent r o s) _ tt tt (λ _ _ _ _. unless_by SilentOut _ Unmapped (lent r o s) _ tt (λ _. tt)))
  leaves (Write sector len d s) r k = loud_leaves (Write sector len d s) r k (lent r [] s) refl (write_loud sector len d s r k) refl
  leaves (Collect s) r k =
      loud_leaves (Collect s) r k (lent r [] s) refl
      (collecting_loud (Collect s) k (lent r [] s) _ (λ K S F. collected G K bad _ S F)
      (λ K S F e. let st = state_of G (lent r [] s) in subst (PassEnds G bad st (collect G bad st).st (collect G bad st).ops) e (pass_ends G K bad st S F)))
      refl
  leaves (CollectList m s) r k =
      loud_leaves (CollectList m s) r k (lent r [] s) refl
      (collecting_loud (CollectList m s) k (lent r [] s) _ (λ K S F. collected_list G K bad m _ S F)
      (λ K S F e.
      let st = state_of G (lent r [] s) in
      subst (ListEnds G bad m st (collect_more G bad m 0 st).st (collect_more G bad m 0 st).ops) e (more_ends G K bad m 0 st S F)))
      refl
  leaves (CollectThreshold t m s) r k =
      loud_leaves (CollectThreshold t m s) r k (lent r [] s) refl
      (collecting_loud (CollectThreshold t m s) k (lent r [] s) _ (λ K S F. collected_threshold G K bad t m _ S F)
      (λ K S F e.
      let st = state_of G (lent r [] s) in
      subst (BelowEnds G K bad t m st (collect_threshold G bad t m st).st (collect_threshold G bad t m st).ops) e (threshold_ends G K bad t m st S F)))
      refl
  leaves (Encode b s) r k = silent_leaves (Encode b s) r k (guarded_by SilentOut _ _ _ _ (lent r b s) _ tt tt (λ _ _ _ _. tt))
  leaves (Restore q b s) r k =
      silent_leaves (Restore q b s) r k
      (guarded_by SilentOut _ _ _ _ (lent r [] s) _ tt tt
      (λ _ _ _ _. unless_by SilentOut _ (Reason (reason_of G b)) (lent r [] s) _ tt (λ _. tt)))

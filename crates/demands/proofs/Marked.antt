-- Demand 3, second half, where each page mapped at the checkpoint is marked as programmed: the device's own rule guards it. No premise is then
-- needed on openings, restores or tables: whatever is called, over whatever tables, before a cut or behind it, if no erase is begun in a segment
-- that holds a page mapped then, the checkpoint gives back each page.
use Prim.Native.Nat.{ℕ, zero, suc, ◌+◌, ◌*◌, ◌≤◌, ◌<◌}
use native.Mathlib.Omega.{arith}
use mathlib.Core.Path.{◌≡◌, refl, sym, ap, ◌∙◌, subst}
use mathlib.Core.Bool.{Bool, true, false, cond}
use mathlib.Core.Logic.{◌⊎◌, inl, inr, ◌≢◌}
use mathlib.Core.List.{List, [], ◌∷◌, ◌++◌}
use lib.Dec.{eqb}
use lib.ListN.{length, get_or, set, take, drop, replicate, length-replicate}
use lib.Seq.{get_or-set_other}
use Rattle.model.specs.Lists.{slot, on_slot, zeros, blank}
use Rattle.model.specs.declared.Geometry.{Geometry}
use Rattle.model.specs.Numbers.{Answer}
use Rattle.model.specs.Numbers.{Ok, Err}
use Rattle.model.specs.Numbers.{empty, endless, flat, seg_of, page_of}
use Rattle.model.specs.Tables.{at, tab_words, pages}
use Rattle.model.specs.Device.{Flash, flash, Op, Program, EraseSeg, State, state, Out, out, finish, behind, go_on, blanked, burn, programmed, perform_all, format_from, clear_up, may_program, page_at}
use Rattle.model.specs.PageWrite.{content, whole, write_page}
use Rattle.model.specs.PageGc.{victim, finish_of, last_of, copy_one, collect, collect_more, collect_list, collect_threshold}
use Rattle.model.specs.declared.Queueing.{Queueing}
use Rattle.model.specs.Checkpoint.{restored_by, sealed}
use Rattle.model.specs.Entry.{Recorder, Lent, lent, state_of, collecting, formatting, write, collection, list_collection, threshold_collection}
use Rattle.model.specs.History.{Call, Format, Open, Read, Write, Collect, CollectList, CollectThreshold, Encode, Restore, lit, run, after, ops_of, content_of, map_in, Begins, Elsewhere, Spares, Cut, GivesBack}
use Rattle.model.specs.Contract.{Fit}
use Rattle.model.proofs.Working.{Counted}
use Rattle.model.proofs.Tests.{both}
use Rattle.model.proofs.Slots.{slot_at, on_slot_other, part_fits}
use Rattle.model.proofs.View.{view-packed}
use Rattle.model.proofs.Content.{content_same, program_other, program_fit, segment_other, blank_fit}
use Rattle.model.proofs.Ops.{Holds, SafeOps, perform-append}
use Rattle.model.proofs.Restore.{Back}
use Rattle.model.proofs.Sealed.{comes_back}
use Rattle.model.proofs.Requeue.{requeued-back}
use Rattle.model.proofs.Guard.{guarded_by}
use Rattle.model.proofs.Entry.{stepped, by_kind, Begun, opened-flash, restored-flash, read_unit, encoding_unit, performs}
use Rattle.model.proofs.Cut.{Encoded, encoded, restores}
use Rattle.demands.specs.Given.{tab}
use Rattle.demands.specs.Unit.{Ever, start, tables_lost, lent_fuse, called, cut}
use Rattle.demands.proofs.Walk.{write_by, finish_by, collect_by, more_by, threshold_by}
use Rattle.demands.proofs.Programs.{clear_zero}

-- every listed programming is of a page that is unmarked, with every higher one of its segment, as it is done
abbrev pub Clear : Geometry → List Op → Flash → Type 0
Clear G [] f = Unit {0}
Clear G (Program g k page ∷ os) f = (clear_up G g k f ≡ true) × Clear G os (programmed G g k page f)
Clear G (EraseSeg g c ∷ os) f = Clear G os (blanked G g c f)

clear_append : (G : Geometry) (a b : List Op) (f : Flash) → Clear G a f → Clear G b (perform_all G a f) → Clear G (a ++ b) f
clear_append G [] b f h k = k
clear_append G (Program g i page ∷ a) b f h k = (h.0, clear_append G a b _ h.1 k)
clear_append G (EraseSeg g c ∷ a) b f h k = clear_append G a b _ h k

-- a call does its operations, and lists what the device allows
record Honest (G : Geometry) (f : Flash) (o : Out) : Type 0 where
  performs : o.st.flash ≡ perform_all G o.ops f
  clear : Clear G o.ops f

honest_behind : (G : Geometry) (f : Flash) (o o' : Out) → Honest G f o → Honest G o.st.flash o' → Honest G f (behind o.ops o')
honest_behind G f o o' A B =
    record {
      performs = B.performs ∙ ap (perform_all G o'.ops) A.performs ∙ sym (perform-append G o.ops o'.ops f);
      clear = clear_append G o.ops o'.ops f A.clear (subst (Clear G o'.ops) A.performs B.clear);
    }

module _ (G : Geometry) (bad : List ℕ) where
  none : (st : State) (a : Answer) → Honest G st.flash (out st a [])
  none st a = record { performs = refl; clear = tt }

  then : (a : Answer) (f : Flash) (o : Out) (rest : State → Out) → Honest G f o → Honest G o.st.flash (rest o.st) → Honest G f (go_on a o rest)
  then (Ok m) f o rest A B = honest_behind G f o (rest o.st) A B
  then (Err c) f o rest A B = A

  write_honest : (l off : ℕ) (d : List ℕ) (st : State) → Honest G st.flash (write_page G bad l off d st)
  unfolding may_program
  write_honest l off d st =
      write_by G bad (Honest G st.flash) l off d st (none st _)
      (λ g k e. record { performs = refl; clear = ((both _ _ e).0, tt) })
      (λ g k e. record { performs = refl; clear = tt })

  abbrev HonestOut : State → Out → Type 0
  HonestOut st o = Honest G st.flash o

  copy_honest : (v : ℕ) (st : State) → Honest G st.flash (copy_one G bad v st)
  copy_honest v st =
      let l : ℕ = last_of G v st.tab in
      let W : Honest G st.flash (write_page G bad l 0 (whole G st l) st) = write_honest l 0 (whole G st l) st in
      record { performs = W.performs; clear = W.clear }

  finish_honest : (v : ℕ) (st : State) → Honest G st.flash (finish_of G v st)
  finish_honest v st = finish_by G bad (Honest G st.flash) v st (record { performs = refl; clear = tt }) (none st _)

  went_honest : (st : State) (o : Out) (rest : State → Out) → HonestOut st o → HonestOut o.st (rest o.st) → HonestOut st (go_on o.answer o rest)
  went_honest st o rest = then o.answer st.flash o rest

  collect_honest : (st : State) → Honest G st.flash (collect G bad st)
  collect_honest st =
      collect_by G bad HonestOut (λ c st. none st (Ok c)) copy_honest (λ _ _ h. h) went_honest st (λ _. finish_honest (victim st.tab))

  more_honest : (m c : ℕ) (st : State) → Honest G st.flash (collect_more G bad m c st)
  more_honest = more_by G bad HonestOut (λ c st. none st (Ok c)) copy_honest (λ _ _ h. h) went_honest finish_honest

  threshold_honest : (t m : ℕ) (st : State) → Honest G st.flash (collect_threshold G bad t m st)
  threshold_honest = threshold_by G bad HonestOut (λ c st. none st (Ok c)) copy_honest (λ _ _ h. h) went_honest finish_honest

  format_clear : (j g : ℕ) (st : State) → Clear G (format_from G j g st).ops st.flash
  unfolding format_from
  format_clear zero g st = tt
  format_clear (suc j) g st = go (eqb st.flash.fuse 0) (format_clear j (suc g) (state st.tab (blanked G g 0 st.flash)))
    where
      go : (b : Bool) → Clear G (format_from G j (suc g) (state st.tab (blanked G g 0 st.flash))).ops (blanked G g 0 st.flash)
          → Clear G (cond b (finish 0 st) (behind (EraseSeg g 0 ∷ []) (format_from G j (suc g) (state st.tab (blanked G g 0 st.flash))))).ops st.flash
      go true ih = tt
      go false ih = ih

  -- the operations of every public call, whatever it is lent
  quiet : (ops : List Op) (f : Flash) → ops ≡ [] → Clear G ops f
  quiet ops f e = subst (λ os. Clear G os f) (sym e) tt

  collecting_clear : (x : Lent) (o : Out) → Clear G o.ops x.unit.flash → Clear G (collecting G bad x o).ops x.unit.flash
  collecting_clear x o h = guarded_by (λ y. Clear G y.ops x.unit.flash) _ _ _ _ x _ tt tt (λ _ _ _ _. h)

  -- every public call, whatever it is lent, programs in order: the page and all higher ones of its segment are unmarked as it is done
  pub run_clear : (c : Call) (r : Recorder) → Clear G (run G bad c r).ops r.flash
  unfolding formatting write collection list_collection threshold_collection collect_list
  run_clear Format r =
      guarded_by (λ y. Clear G y.ops r.flash) _ _ _ _ (lent r [] []) _ tt tt (λ _ _ _ _. format_clear G.n 0 (state_of G (lent r [] [])))
  run_clear Open r = quiet _ r.flash (opened-flash G bad r).1
  run_clear (Read sector len o s) r = quiet _ r.flash (read_unit G sector len (lent r o s)).1
  run_clear (Write sector len d s) r =
      guarded_by (λ y. Clear G y.ops r.flash) _ _ _ _ (lent r [] s) _ tt tt
      (λ _ _ _ _. (write_honest _ _ (take len d) (state_of G (lent r [] s))).clear)
  run_clear (Collect s) r = collecting_clear (lent r [] s) _ (collect_honest (state_of G (lent r [] s))).clear
  run_clear (CollectList m s) r = collecting_clear (lent r [] s) _ (more_honest m 0 (state_of G (lent r [] s))).clear
  run_clear (CollectThreshold t m s) r = collecting_clear (lent r [] s) _ (threshold_honest t m (state_of G (lent r [] s))).clear
  run_clear (Encode b s) r = quiet _ r.flash (encoding_unit G (lent r b s)).1
  run_clear (Restore q b s) r = quiet _ r.flash (restored-flash G bad q b s r).1

  -- and they are of pages and segments of the device, on flash of the right size
  abbrev Shaped : Flash → List Op → Type 0
  Shaped f ops = (ops ≡ []) ⊎ (Fit G f × SafeOps G [] ops)

  nobody : (free : List ℕ) → Holds G [] free
  nobody free = record { seg = λ l m. absurd (m refl); page = λ l m. absurd (m refl) }

  run_shaped : (c : Call) (r : Recorder) → Shaped r.flash (run G bad c r).ops
  run_shaped c r =
      by_kind (λ c. Shaped r.flash (run G bad c r).ops) (inl (opened-flash G bad r).1) (λ q b s. inl (restored-flash G bad q b s r).1)
      (λ c n. go c n (stepped G bad c r n).fits)
      c
    where
      go : (c : Call) (n : Begins c → ⊥) → ((run G bad c r).ops ≡ []) ⊎ Fit G r.flash → Shaped r.flash (run G bad c r).ops
      go c n (inl q) = inl q
      go c n (inr F) = inr (F, ((stepped G bad c r n).safe [] (nobody _)).safe)

-- ---- what stays: a marked page, as long as the erases are elsewhere

module _ (G : Geometry) (M : List ℕ) (l : ℕ) (m : get_or M l empty ≢ empty) (page : page_of G (get_or M l empty) < G.p) where
  abbrev pub a : ℕ
  a = get_or M l empty

  pub record Stays (f f' : Flash) : Type 0 where
    pub mark : at f'.marks (flat G a) ≢ 0
    pub bytes : page_at G f' a ≡ page_at G f a

  abbrev Set : Flash → Type 0
  Set f = at f.marks (flat G a) ≢ 0

  -- a programming, done or torn
  programmed_stays : (f : Flash) → Fit G f → Set f → (g k : ℕ) → g < G.n → k < G.p → (b : List ℕ) → length b ≡ G.s → clear_up G g k f ≡ true
      → (v fuse : ℕ) → Stays f (flash (on_slot G.s (g * G.p + k) (λ _. b) f.bytes) (set f.marks (g * G.p + k) v) f.counts fuse)
  programmed_stays f F z g k hg hk b hb c v fuse =
      let n : flat G a ≢ g * G.p + k = λ e. z (ap (at f.marks) e ∙ clear_zero G g k f c k (omega arith) hk) in
      record {
        mark = λ e. z (sym (get_or-set_other f.marks (g * G.p + k) (flat G a) v 0 n) ∙ e);
        bytes = program_other G f F g k hg hk b hb (flat G a) n;
      }

  -- an erase elsewhere, done or torn
  erased_stays : (f : Flash) → Fit G f → Set f → (g : ℕ) → g < G.n → Elsewhere G M g → (b w : List ℕ) → length b ≡ G.p * G.s → length w ≡ G.p
      → (c fuse : ℕ) → Stays f (flash (on_slot (G.p * G.s) g (λ _. b) f.bytes) (on_slot G.p g (λ _. w) f.marks) (set f.counts g c) fuse)
  erased_stays f F z g hg e b w hb hw c fuse =
      let room : g * G.p + G.p ≤ length f.marks = rw F.marks (part_fits G.p hg) in
      let same : at (on_slot G.p g (λ _. w) f.marks) (flat G a) ≡ at f.marks (flat G a) =
      sym (slot_at G.p (seg_of G a) (on_slot G.p g (λ _. w) f.marks) (page_of G a) 0 page)
      ∙ ap (λ xs. at xs (page_of G a)) (on_slot_other G.p g (seg_of G a) (λ _. w) f.marks room hw (e l m))
      ∙ slot_at G.p (seg_of G a) f.marks (page_of G a) 0 page in
      record { mark = λ q. z (sym same ∙ q); bytes = segment_other G f F g hg b hb (seg_of G a) (page_of G a) page (e l m) }

  more : {f f' f'' : Flash} → Stays f f' → Stays f' f'' → Stays f f''
  more A B = record { mark = B.mark; bytes = B.bytes ∙ A.bytes }

  here : (f : Flash) → Set f → Stays f f
  here f z = record { mark = z; bytes = refl }

  all_stays : (os : List Op) (f : Flash) → Fit G f → SafeOps G [] os → Clear G os f → Spares G M os → Set f → Stays f (perform_all G os f)
  all_stays [] f F s c e z = here f z
  all_stays (Program g k b ∷ os) f F s c e z =
      let A : Stays f (programmed G g k b f) = programmed_stays f F z g k s.0.seg s.0.page< b s.0.size c.0 1 (burn f.fuse) in
      more A (all_stays os _ (program_fit G f F g k s.0.seg s.0.page< b s.0.size 1 (burn f.fuse)) s.1 c.1 e A.mark)
  all_stays (EraseSeg g n ∷ os) f F s c e z =
      let A : Stays f (blanked G g n f) =
      erased_stays f F z g s.0 e.0 (replicate (G.p * G.s) 255) (zeros G.p) (length-replicate (G.p * G.s) 255) (length-replicate G.p 0) n (burn f.fuse) in
      more A (all_stays os _ (blank_fit G f F g n s.0) (s.1 (λ x y. absurd (y refl))) c e.1 A.mark)

  cut_stays : (i : ℕ) (os : List Op) (f f' : Flash) → Fit G f → SafeOps G [] os → Clear G os f → Spares G M (take (suc i) os) → Cut G i os f f' → Set f
      → Stays f f'
  cut_stays i [] f f' F s c e k z = subst (Stays f) (sym k) (here f z)
  cut_stays zero (Program g j b ∷ os) f f' F s c e k z =
      subst (Stays f) (sym k.4) (programmed_stays f F z g j s.0.seg s.0.page< k.0 k.2 c.0 k.1 f.fuse)
  cut_stays zero (EraseSeg g n ∷ os) f f' F s c e k z =
      subst (Stays f) (sym k.5) (erased_stays f F z g s.0 e.0 k.0 k.1 k.3 k.4 k.2 f.fuse)
  cut_stays (suc i) (Program g j b ∷ os) f f' F s c e k z =
      let A : Stays f (programmed G g j b f) = programmed_stays f F z g j s.0.seg s.0.page< b s.0.size c.0 1 (burn f.fuse) in
      more A (cut_stays i os _ f' (program_fit G f F g j s.0.seg s.0.page< b s.0.size 1 (burn f.fuse)) s.1 c.1 e k A.mark)
  cut_stays (suc i) (EraseSeg g n ∷ os) f f' F s c e k z =
      let A : Stays f (blanked G g n f) =
      erased_stays f F z g s.0 e.0 (replicate (G.p * G.s) 255) (zeros G.p) (length-replicate (G.p * G.s) 255) (length-replicate G.p 0) n (burn f.fuse) in
      more A (cut_stays i os _ f' (blank_fit G f F g n s.0) (s.1 (λ x y. absurd (y refl))) c e.1 k A.mark)

-- ---- histories

module _ (G : Geometry) (bad : List ℕ) (r₀ : Recorder) (l : ℕ) (m : get_or (map_in G r₀) l empty ≢ empty) (page : page_of G (get_or (map_in G r₀) l empty) < G.p)
    (set₀ : at r₀.flash.marks (flat G (get_or (map_in G r₀) l empty)) ≢ 0) where
  abbrev pub M : List ℕ
  M = map_in G r₀

  abbrev pub Kept : Flash → Type 0
  Kept f = Stays G M l m page r₀.flash f

  done : (c : Call) (r : Recorder) → Kept r.flash → Spares G M (run G bad c r).ops → Kept (after G bad c r).flash
  done c r P e =
      subst Kept (sym (performs G bad c r))
      (go (run_shaped G bad c r))
    where
      go : Shaped G bad r.flash (run G bad c r).ops → Kept (perform_all G (run G bad c r).ops r.flash)
      go (inl q) = subst (λ os. Kept (perform_all G os r.flash)) (sym q) P
      go (inr s) = more G M l m page P (all_stays G M l m page (run G bad c r).ops r.flash s.0 s.1 (run_clear G bad c r) e P.mark)

  clear_lit : (os : List Op) (f f' : Flash) → f.marks ≡ f'.marks → Clear G os f → Clear G os f'
  clear_lit [] f f' e c = tt
  clear_lit (Program g k b ∷ os) f f' e c = (sym (ap (λ x. blank (drop k (slot G.p g x))) e) ∙ c.0, clear_lit os _ _ (ap (λ x. set x (g * G.p + k) 1) e) c.1)
  clear_lit (EraseSeg g n ∷ os) f f' e c = clear_lit os _ _ (ap (λ x. on_slot G.p g (λ _. zeros G.p) x) e) c

  torn : (c : Call) (r : Recorder) (i : ℕ) (f : Flash) → Kept r.flash → Spares G M (take (suc i) (ops_of G bad c r)) → Cut G i (ops_of G bad c r) r.flash f
      → Kept f
  torn c r i f P e k = go (run_shaped G bad c (lit endless r))
    where
      go : Shaped G bad (lit endless r).flash (ops_of G bad c r) → Kept f
      go (inl q) = subst Kept (sym (subst (λ os. Cut G i os r.flash f) q k)) P
      go (inr s) =
          more G M l m page P
          (cut_stays G M l m page i (ops_of G bad c r) r.flash f
          (record { bytes = s.0.bytes; marks = s.0.marks; counts = s.0.counts })
          s.1
          (clear_lit (ops_of G bad c r) (lit endless r).flash r.flash refl (run_clear G bad c (lit endless r)))
          e
          k
          P.mark)

  pub ever : {r : Recorder} → Ever G bad r₀ r → Kept r.flash
  ever start = here G M l m page r₀.flash set₀
  ever (tables_lost h w u) = ever h
  ever (lent_fuse h f) = let P = ever h in record { mark = P.mark; bytes = P.bytes }
  ever (called {r} h c e) = done c r (ever h) e
  ever (cut {r} h c i f e k w u) = torn c r i f (ever h) e k

-- the theorem
pub marked_restores : (G : Geometry) (bad : List ℕ) (r₀ : Recorder) (buffer : List ℕ) (scratch : List (List ℕ)) (n : ℕ)
    → (run G bad (Encode buffer scratch) r₀).answer ≡ Ok n
    → ((l : ℕ) → get_or (map_in G r₀) l empty ≢ empty → at r₀.flash.marks (flat G (get_or (map_in G r₀) l empty)) ≢ 0)
    → {r : Recorder} → Ever G bad r₀ r → length r.words ≡ tab_words G → length r.used ≡ pages G
    → (q : Queueing) → GivesBack G bad r₀ (take n (run G bad (Encode buffer scratch) r₀).left.buffer) q r
marked_restores G bad r₀ buffer scratch n e marked {r} h a b q =
    let E : Encoded G (lent r₀ buffer scratch) n (run G bad (Encode buffer scratch) r₀).left.buffer = encoded G (lent r₀ buffer scratch) n e in
    let S : Counted G (tab G r₀) = E.counted in
    let B : Back (tab G r₀) (restored_by G q (sealed G (tab G r₀))) = requeued-back G q _ _ (comes_back G E.good (tab G r₀) S) in
    let D : Begun G r (restored_by G q (sealed G (tab G r₀))) (run G bad (Restore q (sealed G (tab G r₀)) (zeros (pages G) ∷ [])) r) =
    restores G bad r₀ E.good S q r a b in
    subst (λ z. GivesBack G bad r₀ z q r) (sym E.file)
    (record {
      answer = D.answer;
      contents = λ l.
          ap (λ z. content_of G z l) D.unit
          ∙ ap (λ t. content G (state t r.flash) l) (view-packed D.counted.sized)
          ∙ content_same G (state (tab G r₀) r₀.flash) (state (restored_by G q (sealed G (tab G r₀))) r.flash) l (ap (λ x. get_or x l empty) B.map)
          (λ m. (ever G bad r₀ l m (omega (arith, S.page< l m)) (marked l m) h).bytes);
    })

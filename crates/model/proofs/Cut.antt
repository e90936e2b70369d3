-- Demand 3, second half: the checkpoint that the encoding entry wrote, restored by the restoring entry over the flash as a power cut left
-- it, gives each logical page exactly what it held when the checkpoint was taken.
use Prim.Native.Nat.{ℕ, suc, ◌<◌}
use native.Mathlib.Omega.{arith}
use mathlib.Core.Path.{◌≡◌, refl, sym, ap, ◌∙◌, subst}
use mathlib.Core.Bool.{true}
use mathlib.Core.Logic.{◌⊎◌, inl, inr, ◌≢◌}
use mathlib.Core.List.{List, [], ◌∷◌}
use lib.Dec.{leb, eqb}
use lib.ListN.{length, get_or, take}
use borrow.Author.Tests.{eq-eqb}
use Rattle.model.specs.Lists.{every, zeros}
use Rattle.model.specs.Numbers.{Answer, Cause, Geometry, Good, good?, Ok, Err, empty, endless, page_of}
use Rattle.model.specs.Tables.{Tables, tab_words, pages}
use Rattle.model.specs.Device.{Flash, Op, state, page_at, perform_all}
use Rattle.model.specs.PageWrite.{content}
use Rattle.model.specs.Checkpoint.{Queueing, restored_by, sealed, file_size, reason_of, restored_from}
use Rattle.model.specs.Entry.{Recorder, Lent, lent, Outcome, tables_fit, tables_of, clean, seen_scratch, formatting, encoding, restoring}
use Rattle.model.specs.History.{Call, Format, Encode, Restore, lit, run, after, ops_of, content_of, map_in, Cut, Spares, IsRefused}
use Rattle.model.specs.History.{Keeps, Phase, running, lost, Allowed, Since, checkpoint, lent_fuse, called, off, cut, regained, GivesBack}
use Rattle.model.specs.Contract.{Fit}
use Rattle.model.proofs.Working.{Counted}
use Rattle.model.proofs.View.{sized-view, view-packed}
use Rattle.model.proofs.Official.{soundb_counted, counted_sound}
use Rattle.model.proofs.Content.{content_same}
use Rattle.model.proofs.Ops.{Holds, SafeOps, all-kept, cut_kept}
use Rattle.model.proofs.Restore.{Back}
use Rattle.model.proofs.Requeue.{accepted_by, requeued-back}
use Rattle.model.proofs.Sealed.{saved_passes, comes_back, file_end}
use Rattle.model.proofs.Guard.{each, good_test, test_good, tables_test, test_tables, clean-zeros, unless_passes, guarded_passes, guarded_by}
use Rattle.model.proofs.Entry.{SoundIn, tab, packed_in, Step, stepped, Begun, Stayed}
use Rattle.model.proofs.Entry.{opened_or, restored_or, by_kind, Wiped, wiped, opened-flash, restored-flash, performs}

-- ---- what an encoding that was not refused tells

pub record Encoded (G : Geometry) (x : Lent) (m : ℕ) (buffer : List ℕ) : Type 0 where
  pub good : Good G
  pub words_size : length x.unit.words ≡ tab_words G
  pub used_size : length x.unit.used ≡ pages G
  pub counted : Counted G (tables_of G x)
  pub file : take m buffer ≡ sealed G (tables_of G x)

pub encoded : (G : Geometry) (x : Lent) (m : ℕ) → (encoding G x).answer ≡ Ok m → Encoded G x m (encoding G x).left.buffer
unfolding encoding
encoded G x m =
    guarded_by (λ y. y.answer ≡ Ok m → Result y) _ _ _ _ x _ (λ e. absurd (no e)) (λ e. absurd (no e))
    (λ a b _ _ e.
    let t : (i : ℕ) → _ = each (good? G ∷ tables_fit G x ∷ leb (file_size G) (length x.buffer) ∷ clean (seen_scratch G ∷ []) x.scratch ∷ []) a in
    let K : Good G = good_test G (t 0) in
    let h : (length x.unit.words ≡ tab_words G) × (length x.unit.used ≡ pages G) = tables_test G x (t 1) in
    let S : Counted G (tables_of G x) = soundb_counted G (tables_of G x) (sized-view G x.unit.words x.unit.used h.0 h.1) b in
    record {
      good = K;
      words_size = h.0;
      used_size = h.1;
      counted = S;
      file = rw (length_is e) (file_end G K (tables_of G x) S x.buffer);
    })
  where
    Result : Outcome → Type 0
    Result y = Encoded G x m y.left.buffer

    no : {c : Cause} → ◌≡◌ {A = Answer} (Err c) (Ok m) → ⊥
    no e = let z : ◌≡◌ {A = ℕ} 0 1 = cc in omega arith

    length_is : ◌≡◌ {A = Answer} (Ok (file_size G)) (Ok m) → m ≡ file_size G
    length_is e = cc

module _ (G : Geometry) (bad : List ℕ) (r₀ : Recorder) (K : Good G) (S₀ : Counted G (tab G r₀)) where
  abbrev t₀ : Tables
  t₀ = tab G r₀

  abbrev M : List ℕ
  M = map_in G r₀

  abbrev file : List ℕ
  file = sealed G t₀

  held₀ : Holds G M t₀.free
  held₀ = record { seg = S₀.seg<; page = S₀.page< }

  page₀ : (l : ℕ) → get_or M l empty ≢ empty → page_of G (get_or M l empty) < G.p
  page₀ l m = omega (arith, S₀.page< l m)

  -- the pages mapped at the checkpoint hold what they held
  Pages : Flash → Type 0
  Pages f = (l : ℕ) → get_or M l empty ≢ empty → page_at G f (get_or M l empty) ≡ page_at G r₀.flash (get_or M l empty)

  -- and while running, the tables are sound and keep those pages in use
  record Still (r : Recorder) : Type 0 where
    sound : SoundIn G r
    holds : Holds G M (tab G r).free
    pages : Pages r.flash

  Inv : Phase → Recorder → Type 0
  Inv running r = Still r
  Inv lost r = Pages r.flash

  -- the checkpoint's tables come back with its map and free counts
  B₀ : (q : Queueing) → Back t₀ (restored_by G q file)
  B₀ q = requeued-back G q t₀ (restored_from G file) (comes_back G K t₀ S₀)

  -- a restore of the file that is not refused
  restored_still : (q : Queueing) (r : Recorder) (o : Outcome) → Pages r.flash → Begun G r (restored_by G q file) o → Still o.left.unit
  unfolding Pages
  restored_still q r o P b =
      subst Still (sym b.unit)
      (record {
        sound = packed_in G (restored_by G q file) r.flash b.counted;
        holds = subst (λ t. Holds G M t.free) (sym (view-packed b.counted.sized)) (rw (B₀ q).free held₀);
        pages = P;
      })

  -- operations that are none, or safe on flash of the right size, done or cut, keep the pages
  Listed : Flash → List Op → Type 0
  Listed f ops = (ops ≡ []) ⊎ (Fit G f × SafeOps G M ops)

  done-pages : (ops : List Op) (f : Flash) → Pages f → Listed f ops → Spares G M ops → Pages (perform_all G ops f)
  unfolding Pages Listed
  done-pages ops f P (inl q) e l m = ap (λ os. page_at G (perform_all G os f) (get_or M l empty)) q ∙ P l m
  done-pages ops f P (inr s) e l m = all-kept G M l m (page₀ l m) ops f s.0 s.1 e ∙ P l m

  cut_pages : (ops : List Op) (i : ℕ) (f f' : Flash) → Pages f → Listed f ops → Spares G M (take (suc i) ops) → Cut G i ops f f' → Pages f'
  unfolding Pages Listed
  cut_pages ops i f f' P (inl q) e k l m = ap (λ z. page_at G z (get_or M l empty)) (subst (λ os. Cut G i os f f') q k) ∙ P l m
  cut_pages ops i f f' P (inr s) e k l m = cut_kept G M l m (page₀ l m) i ops f f' s.0 s.1 e k ∙ P l m

  -- a step's operations are such a list
  step_listed : (r r' : Recorder) (ops : List Op) → Holds G M (tab G r).free → Step G r r' ops → Listed r.flash ops
  unfolding Listed
  step_listed r r' ops H R = go R.fits
    where
      go : (ops ≡ []) ⊎ Fit G r.flash → (ops ≡ []) ⊎ (Fit G r.flash × SafeOps G M ops)
      go (inl q) = inl q
      go (inr F) = inr (F, (R.safe M H).safe)

  -- and formatting's, whatever the tables hold
  wiped_listed : (f : Flash) (ops : List Op) → (ops ≡ []) ⊎ (Fit G f × ((M : List ℕ) → SafeOps G M ops)) → Listed f ops
  unfolding Listed
  wiped_listed f ops (inl q) = inl q
  wiped_listed f ops (inr e) = inr (e.0, e.1 M)

  -- the size of the flash does not hang on the fuse
  relisted : (r : Recorder) (f : ℕ) (ops : List Op) → Listed (lit f r).flash ops → Listed r.flash ops
  unfolding Listed
  relisted r f ops (inl q) = inl q
  relisted r f ops (inr s) = inr (record { bytes = s.0.bytes; marks = s.0.marks; counts = s.0.counts }, s.1)

  -- a call that begins nothing
  stepped_still : (r r' : Recorder) (ops : List Op) → Still r → Step G r r' ops → Spares G M ops → Still r'
  stepped_still r r' ops B R e =
      record {
        sound = R.sound B.sound;
        holds = (R.safe M B.holds).holds e;
        pages = subst Pages (sym R.performs) (done-pages ops r.flash B.pages (step_listed r r' ops B.holds R) e);
      }

  -- a refused call leaves everything
  stayed_still : (r : Recorder) (x : Lent) (o : Outcome) → x.unit ≡ r → Still r → Stayed x o → Still o.left.unit
  stayed_still r x o e B s = subst (λ y. Still y.left.unit) (sym s.is) (subst Still (sym e) B)

  -- an opening that kept the checkpoint was refused; a restore was of the file, or refused
  opened_still : (r : Recorder) (t : Tables) (o : Outcome) → Still r → IsRefused o.answer → Stayed (lent r [] []) o ⊎ Begun G r t o
      → Still o.left.unit
  opened_still r t o B k (inl s) = stayed_still r (lent r [] []) o refl B s
  opened_still r t o B k (inr b) = absurd (subst IsRefused b.answer k)

  restore_still : (q : Queueing) (r : Recorder) (b : List ℕ) (s : List (List ℕ)) (o : Outcome) → Still r → (b ≡ file) ⊎ IsRefused o.answer
      → Stayed (lent r [] s) o ⊎ Begun G r (restored_by G q b) o → Still o.left.unit
  restore_still q r b s o B k (inl y) = stayed_still r (lent r [] s) o refl B y
  restore_still q r b s o B (inl e) (inr y) = restored_still q r o B.pages (subst (λ z. Begun G r (restored_by G q z) o) e y)
  restore_still q r b s o B (inr k) (inr y) = absurd (subst IsRefused y.answer k)

  called_still : (c : Call) (r : Recorder) → Still r → Keeps file c (run G bad c r).answer → Spares G M (run G bad c r).ops → Still (after G bad c r)
  called_still c r B =
      by_kind (λ c. Keeps file c (run G bad c r).answer → Spares G M (run G bad c r).ops → Still (after G bad c r))
      (λ k _. opened_still r _ _ B (k.no_opening refl) (opened_or G (lent r [] [])))
      (λ q b s k _. restore_still q r b s _ B (k.no_other q b s refl) (restored_or G q b (lent r [] s)))
      (λ c n _ e. stepped_still r _ _ B (stepped G bad c r n) e)
      c

  -- the operations of a call while running, under an endless fuse
  listed : (c : Call) (r : Recorder) → Still r → Listed r.flash (ops_of G bad c r)
  unfolding Listed
  listed c r B =
      by_kind (λ c. Listed r.flash (ops_of G bad c r))
      (inl (opened-flash G bad (lit endless r)).1)
      (λ q b s. inl (restored-flash G bad q b s (lit endless r)).1)
      (λ c n. relisted r endless _ (step_listed (lit endless r) _ _ B.holds (stepped G bad c (lit endless r) n)))
      c

  -- formatting while the power is gone
  formatted_pages : (r : Recorder) → Pages r.flash → Spares G M (run G bad Format r).ops → Pages (after G bad Format r).flash
  formatted_pages r P e =
      let W : Wiped G r (formatting G (lent r [] [])) = wiped G (lent r [] []) in
      subst Pages (sym W.performs) (done-pages _ r.flash P (wiped_listed r.flash _ W.erases) e)

  formatted_cut : (r : Recorder) (i : ℕ) (f : Flash) → Pages r.flash → Spares G M (take (suc i) (ops_of G bad Format r))
      → Cut G i (ops_of G bad Format r) r.flash f → Pages f
  formatted_cut r i f P e k =
      let W : Wiped G (lit endless r) (formatting G (lent (lit endless r) [] [])) = wiped G (lent (lit endless r) [] []) in
      cut_pages _ i r.flash f P (relisted r endless _ (wiped_listed (lit endless r).flash _ W.erases)) e k

  -- a call that does no operation leaves the flash, done or cut
  idle_pages : (c : Call) (r : Recorder) → (run G bad c r).ops ≡ [] → Pages r.flash → Pages (after G bad c r).flash
  idle_pages c r q P = subst Pages (sym (performs G bad c r ∙ ap (λ os. perform_all G os r.flash) q)) P

  -- a call in either phase, done or cut
  called_inv : (p : Phase) (c : Call) (r : Recorder) → Inv p r → Allowed p c (run G bad c r).ops → Keeps file c (run G bad c r).answer
      → Spares G M (run G bad c r).ops → Inv p (after G bad c r)
  unfolding Inv
  called_inv running c r B _ k e = called_still c r B k e
  called_inv lost c r P (inl q) k e =
      subst (λ c. Spares G M (run G bad c r).ops → Pages (after G bad c r).flash) (sym q) (formatted_pages r P) e
  called_inv lost c r P (inr q) k e = idle_pages c r q P

  cut_inv : (p : Phase) (c : Call) (r : Recorder) (i : ℕ) (f : Flash) → Inv p r → Allowed p c (ops_of G bad c r)
      → Spares G M (take (suc i) (ops_of G bad c r)) → Cut G i (ops_of G bad c r) r.flash f → Pages f
  unfolding Inv
  cut_inv running c r i f B _ e k = cut_pages (ops_of G bad c r) i r.flash f B.pages (listed c r B) e k
  cut_inv lost c r i f P (inl q) e k =
      subst (λ c. Spares G M (take (suc i) (ops_of G bad c r)) → Cut G i (ops_of G bad c r) r.flash f → Pages f) (sym q) (formatted_cut r i f P) e k
  cut_inv lost c r i f P (inr q) e k = subst Pages (sym (subst (λ os. Cut G i os r.flash f) q k)) P

  regained_still : (q : Queueing) (r : Recorder) (s : List (List ℕ)) (o : Outcome) → Pages r.flash → o.answer ≡ Ok 0
      → Stayed (lent r [] s) o ⊎ Begun G r (restored_by G q file) o → Still o.left.unit
  regained_still q r s o P e (inl y) = absurd (let z : ◌≡◌ {A = ℕ} 0 1 = cc in omega arith)
  regained_still q r s o P e (inr y) = restored_still q r o P y

  pages_of : (p : Phase) (r : Recorder) → Inv p r → Pages r.flash
  unfolding Inv
  pages_of running r B = B.pages
  pages_of lost r P = P

  relit : (p : Phase) (r : Recorder) (f : ℕ) → Inv p r → Inv p (lit f r)
  unfolding Inv Pages
  relit lost r f P = P
  relit running r f B =
      record {
        sound = record { words_size = B.sound.words_size; used_size = B.sound.used_size; sound = B.sound.sound };
        holds = B.holds;
        pages = B.pages;
      }

  still : {p : Phase} {r : Recorder} → SoundIn G r₀ → Since G bad r₀ file p r → Inv p r
  unfolding Inv Pages
  still S checkpoint = record { sound = S; holds = held₀; pages = λ l m. refl }
  still S (lent_fuse {p} {r} h f) = relit p r f (still S h)
  still S (called {p} {r} h c q k e) = called_inv p c r (still S h) q k e
  still S (off {p} {r} h w u) = pages_of p r (still S h)
  still S (cut {p} {r} h c q i f e k w u) = cut_inv p c r i f (still S h) q e k
  still S (regained {r} h q s e) = regained_still q r s _ (still S h) e (restored_or G q file (lent r [] s))

  -- over tables of the right size and clean scratch the restore is not refused
  pub restores : (q : Queueing) (r : Recorder) → length r.words ≡ tab_words G → length r.used ≡ pages G
      → Begun G r (restored_by G q file) (run G bad (Restore q file (zeros (pages G) ∷ [])) r)
  unfolding restoring every
  restores q r a b =
      let p : every (good? G ∷ tables_fit G x ∷ clean (pages G ∷ []) x.scratch ∷ []) ≡ true =
      rw (test_good G K, test_tables G x a b, clean-zeros (pages G)) in
      let e : eqb (reason_of G file) 0 ≡ true = eq-eqb _ _ (saved_passes G K t₀ S₀) in
      subst (Begun G r (restored_by G q file)) (sym (guarded_passes _ _ _ _ x _ p refl refl refl ∙ unless_passes _ _ x _ e))
      (record { good = K; counted = accepted_by G q file (saved_passes G K t₀ S₀) K; unit = refl; answer = refl; ops = refl })
    where
      x : Lent
      x = lent r [] (zeros (pages G) ∷ [])

  pub gives_back : SoundIn G r₀ → {r : Recorder} → Since G bad r₀ file lost r → length r.words ≡ tab_words G → length r.used ≡ pages G
      → (q : Queueing) → GivesBack G bad r₀ file q r
  unfolding Inv Pages
  gives_back S {r} h a b q =
      let D : Begun G r (restored_by G q file) (run G bad (Restore q file (zeros (pages G) ∷ [])) r) = restores q r a b in
      record {
        answer = D.answer;
        contents = λ l.
            ap (λ z. content_of G z l) D.unit
            ∙ ap (λ t. content G (state t r.flash) l) (view-packed D.counted.sized)
            ∙ content_same G (state t₀ r₀.flash) (state (restored_by G q file) r.flash) l (ap (λ x. get_or x l empty) (B₀ q).map) (λ m. still S h l m);
      }

-- Demand 3, second half. A checkpoint was taken of r₀: the encoding was not refused. Whatever was done since, as `Since` says, and wherever
-- the power went, restoring the file that the encoding wrote, over tables of the right size that hold anything, gives back each page.
pub cut_restores : (G : Geometry) (bad : List ℕ) (r₀ : Recorder) (buffer : List ℕ) (scratch : List (List ℕ)) (m : ℕ)
    → (run G bad (Encode buffer scratch) r₀).answer ≡ Ok m
    → {r : Recorder} → Since G bad r₀ (take m (run G bad (Encode buffer scratch) r₀).left.buffer) lost r
    → length r.words ≡ tab_words G → length r.used ≡ pages G
    → (q : Queueing) → GivesBack G bad r₀ (take m (run G bad (Encode buffer scratch) r₀).left.buffer) q r
cut_restores G bad r₀ buffer scratch m e {r} h a b q =
    let E : Encoded G (lent r₀ buffer scratch) m (run G bad (Encode buffer scratch) r₀).left.buffer = encoded G (lent r₀ buffer scratch) m e in
    let S : SoundIn G r₀ = record { words_size = E.words_size; used_size = E.used_size; sound = counted_sound G (tab G r₀) E.counted } in
    subst (λ z. GivesBack G bad r₀ z q r) (sym E.file)
    (gives_back G bad r₀ E.good E.counted S (subst (λ z. Since G bad r₀ z lost r) E.file h) a b q)

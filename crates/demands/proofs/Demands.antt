-- The demands, of the functions that run. Each premise `PromiseIn N …` follows from the `ensures` of `write` or a collection in crates/ftl/src/lib.rt by
-- `told_in` (crates/model/proofs/Outcome.antt), and is that of its C name in crates/ffi/src/lib.rt; for the other calls N is `Old`, and it follows by
-- `format_runs` to `restore_runs`. None of these functions has a `requires`. The second demand is the `ensures` themselves, under the old choices, each
-- function equal to its definition, and the runs beside the Rust.
use Prim.Native.Nat.{ℕ, suc, ◌≤◌}
use mathlib.Core.Path.{◌≡◌, refl, sym, ap, ◌∙◌, subst}
use mathlib.Core.Logic.{◌⊎◌, inl, inr, ◌≢◌}
use mathlib.Core.List.{List, [], ◌∷◌}
use lib.IntN.{ℤ, pos, negsuc}
use lib.ListN.{length, take, drop}
use Rattle.model.specs.declared.Geometry.{Geometry}
use Rattle.model.specs.declared.Numbers.{Numbers}
use Rattle.model.specs.declared.Numbers.TheVariants.{Old}
use Rattle.model.specs.Numbers.{Answer}
use Rattle.model.specs.Numbers.{Ok, Err}
use Rattle.model.specs.declared.Cause.{Cause}
use Rattle.model.specs.declared.Cause.TheVariants.{Reason}
use Rattle.model.specs.Lists.{zeros}
use Rattle.model.specs.Numbers.{flat, refusal, number, logical_page}
use Rattle.model.specs.Tables.{tab_words, pages, word_of, view}
use Rattle.model.specs.Sound.{Mapped}
use Rattle.model.specs.Device.{Flash, flash}
use Rattle.model.specs.Checkpoint.{file_size}
use Rattle.model.specs.Entry.{Recorder, recorder, Lent, lent, Outcome, outcome, Promise, PromiseIn, no_flash}
use Rattle.model.specs.Entry.{formatting, opening, read, encoding, restoring}
use Rattle.model.specs.declared.Queueing.{Queueing}
use Rattle.model.specs.History.{Call, Format, Open, Read, Write, Encode, Restore}
use Rattle.model.specs.History.{run, content_of, Reached, Since, lost, GivesBack}
use Rattle.model.proofs.Outcome.{one_outcome}
use Rattle.model.proofs.Entry.{write_others, apart}
use Rattle.model.proofs.Cut.{cut_restores}
use Rattle.model.proofs.Frame.{over, with_flash, with_tables, formatting_alone, opening_alone, encoding_alone, restoring_alone, read_alone}
use Rattle.demands.specs.Given.{lent_to}
use Rattle.demands.specs.When.{When, IsCount, IsRefusal}
use Rattle.demands.specs.Left.{Leaves}
use Rattle.demands.specs.Unit.{Collects, Shows, Ever, FromOpening}
use Rattle.demands.proofs.Beyond.{read_beyond, encode_beyond}
use Rattle.demands.proofs.Seen.{collected_content, read-behind-collection}
use Rattle.demands.proofs.Unchanged.{scratch_back}
use Rattle.demands.proofs.Signs.{signs, moved_of, reasons, same_below, unlike_count}
use Rattle.demands.proofs.Exactly.{answers_of}
use Rattle.demands.proofs.Leaves.{leaves}
use Rattle.demands.proofs.Kept.{unit_restores}

-- ---- a function's call is a call of a history

-- `write` and the collections are lent the whole recorder: their promises are those of `run` as they stand. `format` is lent no tables, `open`,
-- `encode` and `restore` no flash, `read` its bytes alone: over the whole recorder, what was not lent stays.
beside : (h : Lent → Lent) {o o' : Outcome} {x : Lent} {z : ℤ} → o' ≡ over h o → Promise o x z → Promise o' (h x) z
beside h e P =
    record {
      left_is = ap h P.left_is ∙ sym (ap (λ (o : Outcome). o.left) e);
      answer_is = P.answer_is ∙ sym (ap (λ (o : Outcome). number Old o.answer) e);
    }

module _ (G : Geometry) (bad : List ℕ) where
  pub format_runs : (w u : List ℕ) (f f' : Flash) (z : ℤ)
      → Promise (formatting G (lent (recorder [] [] f) [] [])) (lent (recorder [] [] f') [] []) z
      → Promise (run G bad Format (recorder w u f)) (lent (recorder w u f') [] []) z
  format_runs w u f f' z P = beside (with_tables w u) (formatting_alone G w u (lent (recorder [] [] f) [] [])) P

  pub open_runs : (f : Flash) (w u w' u' : List ℕ) (z : ℤ)
      → Promise (opening G (lent (recorder w u no_flash) [] [])) (lent (recorder w' u' no_flash) [] []) z
      → Promise (run G bad Open (recorder w u f)) (lent (recorder w' u' f) [] []) z
  open_runs f w u w' u' z P = beside (with_flash f) (opening_alone G f (lent (recorder w u no_flash) [] [])) P

  pub read_runs : (f : Flash) (sector len : ℕ) (w u b b' : List ℕ) (s s' : List (List ℕ)) (z : ℤ)
      → Promise (read G sector len (lent (recorder w u (flash f.bytes [] [] 0)) b s)) (lent (recorder w u (flash f.bytes [] [] 0)) b' s') z
      → Promise (run G bad (Read sector len b s) (recorder w u f)) (lent (recorder w u f) b' s') z
  read_runs f sector len w u b b' s s' z P = beside (with_flash f) (read_alone G f sector len w u b s) P

  pub encode_runs : (f : Flash) (w u b b' : List ℕ) (s s' : List (List ℕ)) (z : ℤ)
      → Promise (encoding G (lent (recorder w u no_flash) b s)) (lent (recorder w u no_flash) b' s') z
      → Promise (run G bad (Encode b s) (recorder w u f)) (lent (recorder w u f) b' s') z
  encode_runs f w u b b' s s' z P = beside (with_flash f) (encoding_alone G f (lent (recorder w u no_flash) b s)) P

  pub restore_runs : (f : Flash) (q : Queueing) (b w u w' u' : List ℕ) (s s' : List (List ℕ)) (z : ℤ)
      → Promise (restoring G q b (lent (recorder w u no_flash) [] s)) (lent (recorder w' u' no_flash) [] s') z
      → Promise (run G bad (Restore q b s) (recorder w u f)) (lent (recorder w' u' f) [] s') z
  restore_runs f q b w u w' u' s s' z P = beside (with_flash f) (restoring_alone G f q b (lent (recorder w u no_flash) [] s)) P

  -- ---- the first demand: each answer is one of 01's or 02's numbers, given exactly when they say, and a refusal leaves what they name

  -- "bytes moved, or a refusal number negated": 0 or above, or below 0
  abbrev Signed : Numbers → Answer → ℤ → Type 0
  Signed N a z = ((h : IsCount a) × (z ≡ pos h.moved)) ⊎ ((h : IsRefusal N a) × (z ≡ negsuc h.below))

  pub sign_of : {N : Numbers} (c : Call) (r : Recorder) {x : Lent} {z : ℤ} → PromiseIn N (run G bad c r) x z → Signed N (run G bad c r).answer z
  sign_of {N} c r {x} {z} P = go (signs G bad N c r)
    where
      go : IsCount (run G bad c r).answer ⊎ IsRefusal N (run G bad c r).answer → Signed N (run G bad c r).answer z
      go (inl h) = inl (h, P.answer_is ∙ h.number_is N)
      go (inr h) = inr (h, P.answer_is ∙ h.number_is)

  -- "Given exactly when": where the table's second column holds for an answer, its number is given, and it holds for the answer that is given
  pub given_when : {N : Numbers} (c : Call) (r : Recorder) {x : Lent} {z : ℤ} → PromiseIn N (run G bad c r) x z → (a : Answer) → When G bad c r a → z ≡ number N a
  given_when {N} c r P a h = P.answer_is ∙ ap (number N) ((answers_of G bad c r a).whenever h)

  pub given_only : {N : Numbers} (c : Call) (r : Recorder) {x : Lent} {z : ℤ} → PromiseIn N (run G bad c r) x z → (a : Answer) × When G bad c r a × (z ≡ number N a)
  given_only c r P = ((run G bad c r).answer, (answers_of G bad c r (run G bad c r).answer).only refl, P.answer_is)

  -- A refusal, from the number that came back: it is the number of a cause whose row of the table holds, in both columns; of a restore's reasons, 1 to 9
  pub record Refusal (N : Numbers) (c : Call) (r : Recorder) (x : Lent) (below : ℕ) : Type 0 where
    pub cause : Cause
    pub number_is : refusal N cause ≡ suc below
    pub answer : (run G bad c r).answer ≡ Err cause
    pub reason_in : (k : ℕ) → cause ≡ Reason k → (1 ≤ k) × (k ≤ 9)
    pub given : When G bad c r (Err cause)
    pub leaves_it : Leaves G bad c r cause (outcome x (Err cause) (run G bad c r).ops)

  pub refusal_leaves : {N : Numbers} (c : Call) (r : Recorder) {x : Lent} (below : ℕ) → PromiseIn N (run G bad c r) x (negsuc below) → Refusal N c r x below
  refusal_leaves {N} c r {x} below P = go (sign_of c r P)
    where
      at_cause : (h : IsRefusal N (run G bad c r).answer) → h.below ≡ below → Refusal N c r x below
      at_cause h q =
          let L : Leaves G bad c r h.cause (run G bad c r) = leaves G bad c r h.cause h.answer in
          record {
            cause = h.cause;
            number_is = h.refusal_is ∙ ap suc q;
            answer = h.answer;
            reason_in = λ k e. reasons G bad c r k (h.answer ∙ ap Err e);
            given = (answers_of G bad c r (Err h.cause)).only h.answer;
            leaves_it =
                subst (λ (y : Lent). Leaves G bad c r h.cause (outcome y (Err h.cause) (run G bad c r).ops)) (sym P.left_is)
                (record { unchanged = L.unchanged; row = L.row; buffer = L.buffer; scratch = L.scratch });
          }

      go : Signed N (run G bad c r).answer (negsuc below) → Refusal N c r x below
      go (inl h) = unlike_count h.0.moved below (sym h.1)
      go (inr h) = at_cause h.0 (same_below (sym h.1))

  -- scratch comes back on every input, whatever the answer
  pub scratch_stays : {N : Numbers} (c : Call) (r : Recorder) {x : Lent} {z : ℤ} → PromiseIn N (run G bad c r) x z → x.scratch ≡ (lent_to c r).scratch
  scratch_stays c r P = ap (λ (x : Lent). x.scratch) P.left_is ∙ scratch_back G bad c r

  -- and so do the bytes of a buffer beyond what was asked for
  pub beyond_stays : {N : Numbers} (sector len : ℕ) (o : List ℕ) (s : List (List ℕ)) (r : Recorder) {x : Lent} {z : ℤ} → PromiseIn N (run G bad (Read sector len o s) r) x z
      → drop len x.buffer ≡ drop len o
  beyond_stays sector len o s r P = ap (λ (x : Lent). drop len x.buffer) P.left_is ∙ read_beyond G bad sector len o s r

  pub beyond_file_stays : {N : Numbers} (b : List ℕ) (s : List (List ℕ)) (r : Recorder) {x : Lent} {z : ℤ} → PromiseIn N (run G bad (Encode b s) r) x z
      → drop (file_size G) x.buffer ≡ drop (file_size G) b
  beyond_file_stays b s r P = ap (λ (x : Lent). drop (file_size G) x.buffer) P.left_is ∙ encode_beyond G bad b s r

  -- ---- "a lemma shows two outcomes that both satisfy it are the same"

  pub one_outcome_of : {N : Numbers} (c : Call) (r : Recorder) {x x' : Lent} {z z' : ℤ} → PromiseIn N (run G bad c r) x z → PromiseIn N (run G bad c r) x' z'
      → (x ≡ x') × (z ≡ z')
  one_outcome_of c r = one_outcome

  -- ---- the third demand, first half: a collection changes no content, whatever it answers

  unit_is : {N : Numbers} {o : Outcome} {x : Lent} {z : ℤ} → PromiseIn N o x z → x.unit ≡ o.left.unit
  unit_is P = ap (λ (x : Lent). x.unit) P.left_is

  pub collect_keeps : {N : Numbers} (c : Call) → Collects c → (r : Recorder) {x : Lent} {z : ℤ} → PromiseIn N (run G bad c r) x z
      → (l : ℕ) → content_of G x.unit l ≡ content_of G r l
  collect_keeps c n r P l = ap (λ (r : Recorder). content_of G r l) (unit_is P) ∙ collected_content G bad r l c n

  -- and no read tells it from the recorder before it: same answer, same buffer
  pub collect_unseen : {N : Numbers} (c : Call) → Collects c → (r : Recorder) {x : Lent} {z : ℤ} → PromiseIn N (run G bad c r) x z
      → (sector len : ℕ) (b : List ℕ) (s : List (List ℕ)) → Shows (run G bad (Read sector len b s) x.unit) (run G bad (Read sector len b s) r)
  collect_unseen c n r P sector len b s =
      subst (λ y. Shows (run G bad (Read sector len b s) y) (run G bad (Read sector len b s) r)) (sym (unit_is P))
      (read-behind-collection G bad r sector len b s c n)

  -- a write, whatever it answers, changes no other logical page's content
  pub write_keeps : {N : Numbers} (sector len : ℕ) (d : List ℕ) (s : List (List ℕ)) (r : Recorder) {x : Lent} {z : ℤ} → PromiseIn N (run G bad (Write sector len d s) r) x z
      → (l : ℕ) → l ≢ logical_page G sector → content_of G x.unit l ≡ content_of G r l
  write_keeps sector len d s r P l n = ap (λ (r : Recorder). content_of G r l) (unit_is P) ∙ write_others G bad sector len d (lent r [] s) l n

  -- and no two mapped logical pages of a recorder that public calls reached share a physical page
  pub none_shared : {r : Recorder} → Reached G bad r → (l m : ℕ)
      → (let t = view G r.words r.used in Mapped t l → Mapped t m → flat G (word_of t l) ≡ flat G (word_of t m) → l ≡ m)
  none_shared h l m = apart G bad h l m

-- ---- the third demand, second half

-- `encode` wrote the file b' at a recorder; `back`: whatever has happened to a recorder r since, as h says, the file gives everything back. Then
-- `restore` is lent that file, any words and use marks of the right sizes, and clean marks: it answers 0, and over the flash as it stands each
-- logical page holds what it held when the checkpoint was taken.
restored-back : (G : Geometry) (bad : List ℕ) (q : Queueing) (H : List ℕ → Recorder → Type 0) (w₀ u₀ : List ℕ) (f₀ : Flash) (b b' : List ℕ) (s s' : List (List ℕ)) (m : ℕ)
    → Promise (encoding G (lent (recorder w₀ u₀ no_flash) b s)) (lent (recorder w₀ u₀ no_flash) b' s') (pos m)
    → ((r : Recorder) → (run G bad (Encode b s) (recorder w₀ u₀ f₀)).answer ≡ Ok m
    → H (take m (run G bad (Encode b s) (recorder w₀ u₀ f₀)).left.buffer) r → length r.words ≡ tab_words G → length r.used ≡ pages G
    → GivesBack G bad (recorder w₀ u₀ f₀) (take m (run G bad (Encode b s) (recorder w₀ u₀ f₀)).left.buffer) q r)
    → (r : Recorder) → H (take m b') r → length r.words ≡ tab_words G → length r.used ≡ pages G
    → (w u : List ℕ) (t : List (List ℕ)) (z : ℤ)
    → Promise (restoring G q (take m b') (lent (recorder r.words r.used no_flash) [] (zeros (pages G) ∷ []))) (lent (recorder w u no_flash) [] t) z
    → (z ≡ pos 0) × ((l : ℕ) → content_of G (recorder w u r.flash) l ≡ content_of G (recorder w₀ u₀ f₀) l)
restored-back G bad q H w₀ u₀ f₀ b b' s s' m E back r h hw hu w u t z P =
    let r₀ : Recorder = recorder w₀ u₀ f₀ in
    let e = encode_runs G bad f₀ w₀ u₀ b b' s s' (pos m) E in
    let file : b' ≡ (run G bad (Encode b s) r₀).left.buffer = ap (λ (x : Lent). x.buffer) e.left_is in
    let B : GivesBack G bad r₀ (take m b') q r =
    subst (λ (z : List ℕ). GivesBack G bad r₀ (take m z) q r) (sym file)
    (back r (moved_of G bad Old (Encode b s) r₀ m e.answer_is) (subst (λ (z : List ℕ). H (take m z) r) file h) hw hu) in
    let p = restore_runs G bad r.flash q (take m b') r.words r.used w u (zeros (pages G) ∷ []) t z P in
    (p.answer_is ∙ ap (number Old) B.answer, λ l. ap (λ (r : Recorder). content_of G r l) (ap (λ (x : Lent). x.unit) p.left_is) ∙ B.contents l)

-- The demand as it was made (`Since`): since the checkpoint there was no opening, no restore of another, and no erase begun in a segment holding a page
-- mapped then. The power may have gone at any device operation, as often as it liked; between a cut and the restore, over the lost tables, no call did a
-- device operation but formatting.
pub given_back : (G : Geometry) (bad : List ℕ) (q : Queueing) (w₀ u₀ : List ℕ) (f₀ : Flash) (b b' : List ℕ) (s s' : List (List ℕ)) (m : ℕ)
    → Promise (encoding G (lent (recorder w₀ u₀ no_flash) b s)) (lent (recorder w₀ u₀ no_flash) b' s') (pos m)
    → (r : Recorder) → Since G bad (recorder w₀ u₀ f₀) (take m b') lost r → length r.words ≡ tab_words G → length r.used ≡ pages G
    → (w u : List ℕ) (t : List (List ℕ)) (z : ℤ)
    → Promise (restoring G q (take m b') (lent (recorder r.words r.used no_flash) [] (zeros (pages G) ∷ []))) (lent (recorder w u no_flash) [] t) z
    → (z ≡ pos 0) × ((l : ℕ) → content_of G (recorder w u r.flash) l ≡ content_of G (recorder w₀ u₀ f₀) l)
given_back G bad q w₀ u₀ f₀ b b' s s' m E =
    restored-back G bad q (λ file r. Since G bad (recorder w₀ u₀ f₀) file lost r) w₀ u₀ f₀ b b' s s' m E
    (λ r e h hw hu. cut_restores G bad (recorder w₀ u₀ f₀) b s m e h hw hu q)

-- And of a unit from its opening on (`FromOpening`) the same with no premise but the erases (`Ever`): openings, restores of other files and calls of every
-- kind over any tables, lost ones too, may have come since. The device's own rule, a marked page is not programmed again, guards each page that was mapped.
pub unit_given_back : (G : Geometry) (bad : List ℕ) (q : Queueing) (w₀ u₀ : List ℕ) (f₀ : Flash) (b b' : List ℕ) (s s' : List (List ℕ)) (m : ℕ)
    → FromOpening G bad (recorder w₀ u₀ f₀)
    → Promise (encoding G (lent (recorder w₀ u₀ no_flash) b s)) (lent (recorder w₀ u₀ no_flash) b' s') (pos m)
    → (r : Recorder) → Ever G bad (recorder w₀ u₀ f₀) r → length r.words ≡ tab_words G → length r.used ≡ pages G
    → (w u : List ℕ) (t : List (List ℕ)) (z : ℤ)
    → Promise (restoring G q (take m b') (lent (recorder r.words r.used no_flash) [] (zeros (pages G) ∷ []))) (lent (recorder w u no_flash) [] t) z
    → (z ≡ pos 0) × ((l : ℕ) → content_of G (recorder w u r.flash) l ≡ content_of G (recorder w₀ u₀ f₀) l)
unit_given_back G bad q w₀ u₀ f₀ b b' s s' m U E =
    restored-back G bad q (λ _ r. Ever G bad (recorder w₀ u₀ f₀) r) w₀ u₀ f₀ b b' s s' m E
    (λ r e h hw hu. unit_restores G bad (recorder w₀ u₀ f₀) U b s m e h hw hu q)

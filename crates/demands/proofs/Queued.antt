-- 02, M-109, of the functions that run: what `restore` leaves under either choice. Each premise `Promise …` is the `ensures` of `shr_restore` or
-- `shr_restore_dead` (crates/ffi/src/lib.rt), letter for letter, and follows from that of `ftl::restore` by `told_in`.
use Prim.Native.Nat.{ℕ, ◌<◌}
use mathlib.Core.Path.{◌≡◌, sym, ap, ◌∙◌, subst}
use mathlib.Core.List.{List, [], ◌∷◌}
use lib.IntN.{ℤ, pos}
use lib.ListN.{length, take}
use Rattle.model.specs.declared.Geometry.{Geometry}
use Rattle.model.specs.declared.Numbers.TheVariants.{Old}
use Rattle.model.specs.declared.Queueing.{Queueing}
use Rattle.model.specs.declared.Queueing.TheVariants.{Empty, Dead}
use Rattle.model.specs.Numbers.{Ok}
use Rattle.model.specs.Lists.{bit, zeros}
use Rattle.model.specs.Numbers.{number}
use Rattle.model.specs.Tables.{Tables, at, queue_of, tab_words, pages, view}
use Rattle.model.specs.Checkpoint.{dead?, dead_ones, with_queue}
use Rattle.model.specs.Entry.{Recorder, recorder, Lent, lent, Promise, no_flash, encoding, restoring}
use Rattle.model.specs.History.{Encode, Restore, run, after}
use Rattle.model.proofs.Entry.{tab}
use Rattle.model.proofs.Round.{one_answer, none_made, queue_made, flags_made, else_alike, queued_again}
use Rattle.demands.proofs.Unchanged.{scratch_back}
use Rattle.demands.proofs.Signs.{moved_of}

module _ (G : Geometry) (b w u : List ℕ) (s : List (List ℕ)) where
  abbrev unit : Recorder
  unit = recorder w u no_flash

  -- `restore` was lent the file b, the words w and the use marks u; it left w' and u', and answered z
  abbrev Restored : Queueing → (w' u' : List ℕ) → List (List ℕ) → ℤ → Type 0
  Restored q w' u' t z = Promise (restoring G q b (lent (recorder w u no_flash) [] s)) (lent (recorder w' u' no_flash) [] t) z

  tables_left : (q : Queueing) (w' u' : List ℕ) (t : List (List ℕ)) (z : ℤ) → Restored q w' u' t z → view G w' u' ≡ tab G (after G [] (Restore q b s) unit)
  tables_left q w' u' t z P = ap (λ (x : Lent). view G x.unit.words x.unit.used) P.left_is

  -- "each segment with free count 0 and a list shorter than p on the queue, ascending, flags set", and no other
  pub dead_queued : (w' u' : List ℕ) (t : List (List ℕ)) → Restored Dead w' u' t (pos 0)
      → (queue_of (view G w' u') ≡ dead_ones G G.n 0 (view G w' u')) × ((g : ℕ) → g < G.n → at (view G w' u').flags g ≡ bit (dead? G g (view G w' u')))
  dead_queued w' u' t P =
      let e : (run G [] (Restore Dead b s) unit).answer ≡ Ok 0 = moved_of G [] Old (Restore Dead b s) unit 0 P.answer_is in
      subst (λ (v : Tables). (queue_of v ≡ dead_ones G G.n 0 v) × ((g : ℕ) → g < G.n → at v.flags g ≡ bit (dead? G g v)))
      (sym (tables_left Dead w' u' t (pos 0) P))
      (queue_made G [] b s unit e, flags_made G [] b s unit e)

  -- 01's "queue empty, flags clear", by the old choice
  pub none_queued : (w' u' : List ℕ) (t : List (List ℕ)) → Restored Empty w' u' t (pos 0)
      → (queue_of (view G w' u') ≡ []) × ((g : ℕ) → at (view G w' u').flags g ≡ 0)
  none_queued w' u' t P =
      subst (λ (v : Tables). (queue_of v ≡ []) × ((g : ℕ) → at v.flags g ≡ 0)) (sym (tables_left Empty w' u' t (pos 0) P))
      (none_made G [] b s unit (moved_of G [] Old (Restore Empty b s) unit 0 P.answer_is))

  -- "Refusals: none new": both choices answer the same number, and of tables and scratch leave all the same but the queue and the flags
  pub either_choice : (w' u' w'' u'' : List ℕ) (t t' : List (List ℕ)) (z z' : ℤ) → Restored Dead w' u' t z → Restored Empty w'' u'' t' z'
      → (z ≡ z') × (view G w' u' ≡ with_queue (view G w' u') (view G w'' u'')) × (t ≡ t')
  either_choice w' u' w'' u'' t t' z z' P Q =
      let d = tables_left Dead w' u' t z P in
      let e = tables_left Empty w'' u'' t' z' Q in (
        P.answer_is ∙ ap (number Old) (one_answer G Dead Empty b (lent unit [] s)) ∙ sym Q.answer_is,
        d ∙ else_alike G [] b s unit ∙ sym (ap (λ (v : Tables). with_queue v (view G w'' u'')) d ∙ ap (with_queue (tab G (after G [] (Restore Dead b s) unit))) e),
        ap (λ (x : Lent). x.scratch) P.left_is ∙ scratch_back G [] (Restore Dead b s) unit ∙ sym (ap (λ (x : Lent). x.scratch) Q.left_is ∙ scratch_back G [] (Restore Empty b s) unit),
      )

-- `encode` wrote the file b' of the words w₀ and the use marks u₀. `restore` with `Dead` is lent that file, any words and use marks of the right sizes, and
-- clean marks: it leaves exactly those segments queued, and flagged, that had free count 0 and a list shorter than p when the checkpoint was taken.
pub saved_queued : (G : Geometry) (w₀ u₀ b b' : List ℕ) (s s' : List (List ℕ)) (m : ℕ)
    → Promise (encoding G (lent (recorder w₀ u₀ no_flash) b s)) (lent (recorder w₀ u₀ no_flash) b' s') (pos m)
    → (w u : List ℕ) → length w ≡ tab_words G → length u ≡ pages G
    → (w' u' : List ℕ) (t : List (List ℕ)) (z : ℤ) → Restored G (take m b') w u (zeros (pages G) ∷ []) Dead w' u' t z
    → (queue_of (view G w' u') ≡ dead_ones G G.n 0 (view G w₀ u₀))
    × ((g : ℕ) → g < G.n → at (view G w' u').flags g ≡ bit (dead? G g (view G w₀ u₀)))
saved_queued G w₀ u₀ b b' s s' m E w u hw hu w' u' t z P =
    let r₀ : Recorder = recorder w₀ u₀ no_flash in
    let e : (run G [] (Encode b s) r₀).answer ≡ Ok m = moved_of G [] Old (Encode b s) r₀ m E.answer_is in
    subst (λ (v : Tables). (queue_of v ≡ dead_ones G G.n 0 (view G w₀ u₀)) × ((g : ℕ) → g < G.n → at v.flags g ≡ bit (dead? G g (view G w₀ u₀))))
    (sym (tables_left G (take m b') w u (zeros (pages G) ∷ []) Dead w' u' t z P
    ∙ ap (λ (f : List ℕ). tab G (after G [] (Restore Dead (take m f) (zeros (pages G) ∷ [])) (recorder w u no_flash))) (ap (λ (x : Lent). x.buffer) E.left_is)))
    (queued_again G [] r₀ b s m e (recorder w u no_flash) hw hu)

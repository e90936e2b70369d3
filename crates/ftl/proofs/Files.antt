-- Restoring and encoding, way by way.
use Prim.Native.Nat.{ℕ, zero, suc, ◌<◌}
use native.Mathlib.Omega.{arith}
use mathlib.Core.Path.{◌≡◌, refl, ap, ◌∙◌}
use mathlib.Core.Logic.{◌≢◌}
use mathlib.Core.Bool.{Bool, true, false}
use mathlib.Core.List.{List, [], ◌∷◌}
use lib.Dec.{leb}
use lib.ListN.{length}
use borrow.Author.Tests.{eq-eqb, ne_eqb}
use Rattle.model.specs.declared.Geometry.{Geometry}
use Rattle.model.specs.declared.Cause.{Cause}
use Rattle.checkpoint.specs.Checked.{checked}
use Rattle.model.specs.declared.Queueing.{Queueing}
use Rattle.model.specs.declared.Cause.TheVariants.{Wrong, Unsound, Reason}
use Rattle.model.specs.Numbers.{Ok, Err}
use Rattle.model.specs.Lists.{every, splice}
use Rattle.model.specs.Numbers.{Good, good?}
use Rattle.model.specs.Tables.{tab_words, pages, view}
use Rattle.model.specs.Sound.{soundb}
use Rattle.model.specs.Checkpoint.{file_size, sealed, reason_of, restored_by}
use Rattle.model.specs.Entry.{Lent, lent, recorder, Answered, tables_of, tables_fit, clean, seen_scratch, restoring, encoding}
use Rattle.model.proofs.Held.{slots}
use Rattle.model.proofs.Refusals.{guarded_sound}
use Rattle.model.proofs.Guard.{guarded_passes, unless_passes}
use Rattle.ftl.proofs.Guards.{by, answered, all_sizes, bad_geometry, bad_size, unless_fails}
use Rattle.ftl.proofs.Opening.{words_are, marks_are}

-- the length of a file is a signed word
pub file_small : (G : Geometry) → Good G → file_size G < 9223372036854775808
file_small G K = omega (arith, slots K, K.e≤, K.n≤)

-- the answer of the file's tests
pub file_refused : (r : ℕ) (c : Cause) → checked r ≡ Err c → (r ≢ 0) × (Reason r ≡ c)
file_refused zero c e = absurd (let z : ◌≡◌ {A = ℕ} 0 1 = cc in omega arith)
file_refused (suc r) c e = ((λ z. omega arith), cc)

pub file_taken : (r : ℕ) → checked r ≡ Ok tt → r ≡ 0
file_taken zero e = refl
file_taken (suc r) e = absurd (let z : ◌≡◌ {A = ℕ} 0 1 = cc in omega arith)

-- what restoring tests beside the geometry
abbrev pub restore_tests : Geometry → Lent → List Bool
restore_tests G x = tables_fit G x ∷ clean (pages G ∷ []) x.scratch ∷ []

module _ (G : Geometry) (q : Queueing) (b : List ℕ) (x : Lent) where
  pub restoring_wrong : good? G ≡ false → Answered (restoring G q b x) x (Err Wrong)
  unfolding restoring
  restoring_wrong = bad_geometry G (restore_tests G x) true true true x _

  pub restoring_size : every (restore_tests G x) ≡ false → Answered (restoring G q b x) x (Err Wrong)
  unfolding restoring
  restoring_size = bad_size G (restore_tests G x) true true true x _

  module _ (g : good? G ≡ true) (e : every (restore_tests G x) ≡ true) where
    pub restoring_reason : reason_of G b ≢ 0 → Answered (restoring G q b x) x (Err (Reason (reason_of G b)))
    unfolding restoring
    restoring_reason h =
        by (guarded_passes _ true true true x _ (all_sizes G (restore_tests G x) g e) refl refl refl ∙ unless_fails _ _ x _ (ne_eqb (reason_of G b) 0 h))
        answered

    pub restoring-done : reason_of G b ≡ 0 → (w u : List ℕ) (s : List (List ℕ)) → length w ≡ tab_words G → view G w u ≡ restored_by G q b → s ≡ x.scratch
        → Answered (restoring G q b x) (lent (recorder w u x.unit.flash) x.buffer s) (Ok 0)
    unfolding restoring
    restoring-done r w u s h v z =
        by (guarded_passes _ true true true x _ (all_sizes G (restore_tests G x) g e) refl refl refl ∙ unless_passes _ _ x _ (eq-eqb (reason_of G b) 0 r))
        (record { left_is = cc (words_are G w u _ h v, marks_are G w u _ h v, z); answer_is = refl })

module _ (G : Geometry) (x : Lent) where
  -- what encoding tests beside the geometry
  abbrev pub encode_tests : List Bool
  encode_tests = tables_fit G x ∷ leb (file_size G) (length x.buffer) ∷ clean (seen_scratch G ∷ []) x.scratch ∷ []

  pub encoding_wrong : good? G ≡ false → Answered (encoding G x) x (Err Wrong)
  unfolding encoding
  encoding_wrong = bad_geometry G encode_tests _ true true x _

  pub encoding_size : every encode_tests ≡ false → Answered (encoding G x) x (Err Wrong)
  unfolding encoding
  encoding_size = bad_size G encode_tests _ true true x _

  module _ (g : good? G ≡ true) (e : every encode_tests ≡ true) (s : List (List ℕ)) (q : s ≡ x.scratch) where
    pub encoding_unsound : soundb G (tables_of G x) ≡ false → Answered (encoding G x) (lent x.unit x.buffer s) (Err Unsound)
    unfolding encoding
    encoding_unsound h =
        by (guarded_sound _ _ true true x _ (all_sizes G encode_tests g e) h)
        (record { left_is = ap (lent x.unit x.buffer) q; answer_is = refl })

    pub encoding-done : soundb G (tables_of G x) ≡ true → (d : List ℕ) → d ≡ splice 0 (sealed G (tables_of G x)) x.buffer
        → Answered (encoding G x) (lent x.unit d s) (Ok (file_size G))
    unfolding encoding
    encoding-done h d v =
        by (guarded_passes _ _ true true x _ (all_sizes G encode_tests g e) h refl refl)
        (record { left_is = cc (v, q); answer_is = refl })

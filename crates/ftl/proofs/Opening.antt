-- Opening and formatting, way by way.
use Prim.Native.Nat.{ℕ}
use mathlib.Core.Path.{◌≡◌, refl, sym, ap, ◌∙◌}
use mathlib.Core.Bool.{Bool, true, false}
use mathlib.Core.List.{List, [], ◌∷◌}
use lib.ListN.{length}
use Rattle.model.specs.Lists.{every}
use Rattle.model.specs.declared.Geometry.{Geometry}
use Rattle.model.specs.declared.Cause.TheVariants.{Wrong}
use Rattle.model.specs.Numbers.{Ok, Err}
use Rattle.model.specs.Numbers.{good?}
use Rattle.model.specs.Tables.{Tables, tab_words, view, packed}
use Rattle.model.specs.Device.{Flash, format_from}
use Rattle.model.specs.Checkpoint.{opened}
use Rattle.model.specs.Entry.{Lent, lent, recorder, Answered, tables_of, state_of, tables_fit, flash_fits, formatting, opening}
use Rattle.model.proofs.View.{packed-view, used_is}
use Rattle.model.proofs.Guard.{flash_test, guarded_passes}
use Rattle.model.proofs.Format.{formatted}
use Rattle.ftl.proofs.Guards.{by, all_sizes, bad_geometry, bad_size}

-- words and use marks whose view is t are t's
module _ (G : Geometry) (w u : List ℕ) (t : Tables) (h : length w ≡ tab_words G) (e : view G w u ≡ t) where
  pub words_are : w ≡ packed t
  words_are = sym (packed-view G w u h) ∙ ap packed e

  pub marks_are : u ≡ t.used
  marks_are = sym (used_is G w u) ∙ ap (λ (z : Tables). z.used) e

one_test : (b : Bool) → every (b ∷ []) ≡ b
unfolding every
one_test true = refl
one_test false = refl

module _ (G : Geometry) (x : Lent) where
  pub opening_wrong : good? G ≡ false → Answered (opening G x) x (Err Wrong)
  unfolding opening
  opening_wrong = bad_geometry G (tables_fit G x ∷ []) true true true x _

  pub opening_size : tables_fit G x ≡ false → Answered (opening G x) x (Err Wrong)
  unfolding opening
  opening_size e = bad_size G (tables_fit G x ∷ []) true true true x _ (one_test (tables_fit G x) ∙ e)

  pub opening-done : good? G ≡ true → tables_fit G x ≡ true → (w u : List ℕ) → length w ≡ tab_words G → view G w u ≡ opened G (tables_of G x).alloc
      → Answered (opening G x) (lent (recorder w u x.unit.flash) x.buffer x.scratch) (Ok 0)
  unfolding opening
  opening-done g e w u h v =
      by (guarded_passes _ true true true x _ (all_sizes G (tables_fit G x ∷ []) g (one_test (tables_fit G x) ∙ e)) refl refl refl)
      (record { left_is = cc (words_are G w u _ h v, marks_are G w u _ h v); answer_is = refl })

  pub formatting_wrong : good? G ≡ false → Answered (formatting G x) x (Err Wrong)
  unfolding formatting
  formatting_wrong = bad_geometry G (flash_fits G x.unit.flash ∷ []) true true true x _

  pub formatting_size : flash_fits G x.unit.flash ≡ false → Answered (formatting G x) x (Err Wrong)
  unfolding formatting
  formatting_size e = bad_size G (flash_fits G x.unit.flash ∷ []) true true true x _ (one_test (flash_fits G x.unit.flash) ∙ e)

  pub formatting-done : good? G ≡ true → flash_fits G x.unit.flash ≡ true → (f : Flash) → f ≡ (format_from G G.n 0 (state_of G x)).st.flash
      → Answered (formatting G x) (lent (recorder x.unit.words x.unit.used f) x.buffer x.scratch) (Ok 0)
  unfolding formatting
  formatting-done g e f v =
      by (guarded_passes _ true true true x _ (all_sizes G (flash_fits G x.unit.flash ∷ []) g (one_test (flash_fits G x.unit.flash) ∙ e)) refl refl refl)
      (record { left_is = cc v; answer_is = sym (formatted G (state_of G x) (flash_test G x.unit.flash e)).answer })

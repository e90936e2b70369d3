-- What an entry is not lent, it neither looks at nor changes: the outcome over a whole recorder is the outcome over the lent part, with the
-- rest as it was.
use Prim.Native.Nat.{ℕ, zero, suc}
use mathlib.Core.Path.{◌≡◌, refl, ap, ◌∙◌}
use mathlib.Core.Bool.{Bool, true, false, cond}
use mathlib.Core.List.{List, [], ◌∷◌}
use lib.Dec.{eqb}
use Rattle.model.specs.Numbers.{Geometry, good?, Cause, Reason}
use Rattle.model.specs.Lists.{every}
use Rattle.model.specs.Tables.{Tables, view}
use Rattle.model.specs.Device.{Flash, flash, EraseSeg, state, Out, out, finish, behind, blanked, format_from}
use Rattle.model.specs.Checkpoint.{Queueing, reason_of}
use Rattle.model.specs.Entry.{recorder, Lent, lent, Outcome, outcome, unless, guarded, flash_fits, formatting, opening, read, encoding, restoring}

-- an outcome with h done to what is left
abbrev pub over : (Lent → Lent) → Outcome → Outcome
over h o = outcome (h o.left) o.answer o.ops

-- what was lent, with the flash f beside it, and with the words w and the use marks u
abbrev pub with_flash : Flash → Lent → Lent
with_flash f x = lent (recorder x.unit.words x.unit.used f) x.buffer x.scratch

abbrev pub with_tables : (w u : List ℕ) → Lent → Lent
with_tables w u x = lent (recorder w u x.unit.flash) x.buffer x.scratch

module _ (h : Lent → Lent) where
  pub unless_over : (b : Bool) (c : Cause) (x : Lent) (o : Outcome) → unless b c (h x) (over h o) ≡ over h (unless b c x o)
  unfolding unless
  unless_over true c x o = refl
  unless_over false c x o = refl

  pub guarded_over : (a b c d : Bool) (x : Lent) (o : Outcome) → guarded a b c d (h x) (over h o) ≡ over h (guarded a b c d x o)
  unfolding guarded unless
  guarded_over false b c d x o = refl
  guarded_over true false c d x o = refl
  guarded_over true true false d x o = refl
  guarded_over true true true false x o = refl
  guarded_over true true true true x o = refl

module _ (G : Geometry) where
  -- formatting passes the tables by
  formats : (t t' : Tables) (k g : ℕ) (f : Flash)
      → let o = format_from G k g (state t' f) in format_from G k g (state t f) ≡ out (state t o.st.flash) o.answer o.ops
  unfolding format_from
  formats t t' zero g f = refl
  formats t t' (suc k) g f = go (eqb f.fuse 0) (formats t t' k (suc g) (blanked G g 0 f))
    where
      go : (b : Bool)
          → (let o = format_from G k (suc g) (state t' (blanked G g 0 f)) in format_from G k (suc g) (state t (blanked G g 0 f)) ≡ out (state t o.st.flash) o.answer o.ops)
          → (let o = cond b (finish 0 (state t' f)) (behind (EraseSeg g 0 ∷ []) (format_from G k (suc g) (state t' (blanked G g 0 f)))) in cond b (finish 0 (state t f)) (behind (EraseSeg g 0 ∷ []) (format_from G k (suc g) (state t (blanked G g 0 f)))) ≡ out (state t o.st.flash) o.answer o.ops)
      go true ih = refl
      go false ih = ap (behind (EraseSeg g 0 ∷ [])) ih

  pub formatting_alone : (w u : List ℕ) (x : Lent) → formatting G (with_tables w u x) ≡ over (with_tables w u) (formatting G x)
  unfolding formatting
  formatting_alone w u x =
      let T : Bool = every (good? G ∷ flash_fits G x.unit.flash ∷ []) in
      let o : Out = format_from G G.n 0 (state (view G x.unit.words x.unit.used) x.unit.flash) in
      ap
      (λ (o : Out). guarded T true true true (with_tables w u x)
      (outcome (lent (recorder w u o.st.flash) x.buffer x.scratch) o.answer o.ops))
      (formats (view G w u) (view G x.unit.words x.unit.used) G.n 0 x.unit.flash)
      ∙ guarded_over (with_tables w u) T true true true x
      (outcome (lent (recorder x.unit.words x.unit.used o.st.flash) x.buffer x.scratch) o.answer o.ops)

  pub opening_alone : (f : Flash) (x : Lent) → opening G (with_flash f x) ≡ over (with_flash f) (opening G x)
  unfolding opening
  opening_alone f x = guarded_over (with_flash f) _ true true true x _

  pub encoding_alone : (f : Flash) (x : Lent) → encoding G (with_flash f x) ≡ over (with_flash f) (encoding G x)
  unfolding encoding
  encoding_alone f x = guarded_over (with_flash f) _ _ true true x _

  pub restoring_alone : (f : Flash) (q : Queueing) (b : List ℕ) (x : Lent) → restoring G q b (with_flash f x) ≡ over (with_flash f) (restoring G q b x)
  unfolding restoring
  restoring_alone f q b x =
      ap (guarded _ true true true (with_flash f x)) (unless_over (with_flash f) (eqb (reason_of G b) 0) (Reason (reason_of G b)) x _)
      ∙ guarded_over (with_flash f) _ true true true x _

  -- a read is lent the flash's bytes alone
  pub read_alone : (f : Flash) (sector len : ℕ) (w u b : List ℕ) (s : List (List ℕ))
      → read G sector len (lent (recorder w u f) b s) ≡ over (with_flash f) (read G sector len (lent (recorder w u (flash f.bytes [] [] 0)) b s))
  unfolding read
  read_alone f sector len w u b s =
      ap (guarded _ _ _ _ (lent (recorder w u f) b s)) (unless_over (with_flash f) _ _ (lent (recorder w u (flash f.bytes [] [] 0)) b s) _)
      ∙ guarded_over (with_flash f) _ _ _ _ (lent (recorder w u (flash f.bytes [] [] 0)) b s) _

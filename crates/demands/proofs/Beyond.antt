-- "bytes of a read's buffer beyond the length stay"; "a longer buffer's bytes beyond stay": whatever the answer, over whatever was lent.
use Prim.Native.Nat.{ℕ, ◌+◌, ◌*◌, ◌≤◌}
use native.Mathlib.Omega.{arith}
use mathlib.Core.Path.{◌≡◌, refl, sym, ap, ◌∙◌}
use mathlib.Core.List.{List, [], ◌∷◌}
use lib.Dec.{eqb, leb}
use lib.ListN.{length, take, drop, length-drop, length-replicate}
use lib.Seq.{length-take-le}
use borrow.Author.Tests.{eqb-true, eqb-false, leb-true}
use Rattle.model.specs.declared.Geometry.{Geometry}
use Rattle.model.specs.declared.Cause.TheVariants.{Unmapped}
use Rattle.model.specs.Lists.{splice, zeros}
use Rattle.model.specs.Numbers.{good?, logical_page, offset}
use Rattle.model.specs.Tables.{pages}
use Rattle.model.specs.Sound.{Mapped}
use Rattle.model.specs.Device.{flash}
use Rattle.model.specs.PageWrite.{whole}
use Rattle.model.specs.Checkpoint.{file_size}
use Rattle.model.specs.Entry.{Recorder, lent, Outcome, clean, tables_fit, seen_scratch, read, encoding}
use Rattle.model.specs.History.{Read, Encode, run}
use Rattle.model.proofs.Working.{Counted}
use Rattle.model.proofs.Content.{page_length}
use Rattle.model.proofs.Sealed.{drop_spliced, file_rest}
use Rattle.model.proofs.Guard.{each, good_test, guarded_by, unless_by}
use Rattle.model.proofs.Entry.{tables_sound}
use Rattle.demands.proofs.Tested.{flips_not}
use Rattle.demands.specs.Given.{tab, state_in}

module _ (G : Geometry) (bad : List ℕ) where
  -- a mapped page of sound tables has s bytes
  whole_length : (r : Recorder) (l : ℕ) → Counted G (tab G r) → length r.flash.bytes ≡ pages G * G.s → Mapped (tab G r) l
      → length (whole G (state_in G r) l) ≡ G.s
  whole_length r l S b m =
      page_length G (flash r.flash.bytes (zeros (pages G)) (zeros G.n) 0)
      (record { bytes = b; marks = length-replicate (pages G) 0; counts = length-replicate G.n 0 })
      (S.seg< l m)
      (omega (arith, S.page< l m))

  module _ (sector len : ℕ) (o : List ℕ) (s : List (List ℕ)) (r : Recorder) where
    abbrev l : ℕ
    l = logical_page G sector

    abbrev shown : List ℕ
    shown = take len (drop (offset G sector) (whole G (state_in G r) l))

    shown_length : Counted G (tab G r) → length r.flash.bytes ≡ pages G * G.s → Mapped (tab G r) l → offset G sector + len ≤ G.s → length shown ≡ len
    shown_length S b m h =
        length-take-le len (drop (offset G sector) (whole G (state_in G r) l))
        (let e = length-drop (offset G sector) (whole G (state_in G r) l) in omega (arith, e, whole_length r l S b m))

    pub read_beyond : drop len (run G bad (Read sector len o s) r).left.buffer ≡ drop len o
    unfolding read
    read_beyond =
        guarded_by Stays _ _ _ _ (lent r o s) _ refl refl
        (λ a b _ d.
        let t : (i : ℕ) → _ =
        each (good? G ∷ tables_fit G (lent r o s) ∷ eqb (length r.flash.bytes) (pages G * G.s) ∷ leb len (length o) ∷ clean (seen_scratch G ∷ []) s ∷ []) a in
        unless_by Stays _ Unmapped (lent r o s) _ refl
        (λ m.
        let e : length shown ≡ len =
        shown_length (tables_sound G (lent r o s) (t 1) b) (eqb-true _ _ (t 2)) (eqb-false _ _ (flips_not _ m)) (leb-true _ _ d) in
        ap (λ k. drop k (splice 0 shown o)) (sym e) ∙ drop_spliced shown o ∙ ap (λ k. drop k o) e))
      where
        Stays : Outcome → Type 0
        Stays y = drop len y.left.buffer ≡ drop len o

  pub encode_beyond : (b : List ℕ) (s : List (List ℕ)) (r : Recorder) → drop (file_size G) (run G bad (Encode b s) r).left.buffer ≡ drop (file_size G) b
  unfolding encoding
  encode_beyond b s r =
      guarded_by (λ y. drop (file_size G) y.left.buffer ≡ drop (file_size G) b) _ _ _ _ (lent r b s) _ refl refl
      (λ a c _ _.
      let t : (i : ℕ) → _ = each (good? G ∷ tables_fit G (lent r b s) ∷ leb (file_size G) (length b) ∷ clean (seen_scratch G ∷ []) s ∷ []) a in
      file_rest G (good_test G (t 0)) (tab G r) (tables_sound G (lent r b s) (t 1) c) b)

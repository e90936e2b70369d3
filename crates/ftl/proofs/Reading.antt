-- Reading, way by way, and the page that it shows.
use Prim.Native.Nat.{ℕ, ◌+◌, ◌*◌, ◌-◌, ◌<◌, ◌≤◌}
use native.Mathlib.Omega.{arith}
use mathlib.Core.Path.{◌≡◌, refl, sym, ap, ◌∙◌}
use mathlib.Core.Logic.{◌≢◌}
use mathlib.Core.Bool.{Bool, true, false, not, ◌&&◌}
use mathlib.Core.List.{List, [], ◌∷◌}
use lib.Dec.{eqb, leb}
use lib.ListN.{length, take, drop}
use borrow.Author.Tests.{eq-eqb, ne_eqb}
use Rattle.model.specs.declared.Geometry.{Geometry}
use Rattle.model.specs.declared.Cause.TheVariants.{Wrong, Unsound, Unmapped}
use Rattle.model.specs.Numbers.{Ok, Err}
use Rattle.model.specs.Lists.{every, slot, splice}
use Rattle.model.specs.Numbers.{good?, empty, flat, logical_page, offset}
use Rattle.model.specs.Tables.{word_of, pages}
use Rattle.model.specs.Sound.{soundb}
use Rattle.model.specs.Entry.{Lent, lent, Answered, tables_of, tables_fit, clean, seen_scratch, read}
use Rattle.model.proofs.Working.{Counted}
use Rattle.model.proofs.Slots.{part_fits}
use Rattle.model.proofs.Regions.{region-region}
use Rattle.model.proofs.View.{sized-view}
use Rattle.model.proofs.Official.{soundb_counted}
use Rattle.model.proofs.Refusals.{guarded_sound}
use Rattle.model.proofs.Guard.{each, tables_test, guarded_passes, unless_passes}
use Rattle.ftl.proofs.Places.{guarded_place, inside?, room?}
use Rattle.ftl.proofs.Guards.{by, all_sizes, bad_geometry, bad_size, unless_fails}

-- page f of the bytes: it ends within them, and what a part of it is
module _ (G : Geometry) (f off len : ℕ) (h : off + len ≤ G.s) where
  pub shown_end : f < pages G → f * G.s + off + len ≤ pages G * G.s
  shown_end l = omega (arith, part_fits G.s l)

  pub shown_is : (xs : List ℕ) → take (f * G.s + off + len - (f * G.s + off)) (drop (f * G.s + off) xs) ≡ take len (drop off (slot G.s f xs))
  shown_is xs =
      let e : f * G.s + off + len - (f * G.s + off) ≡ len = omega arith in
      ap (λ m. take m (drop (f * G.s + off) xs)) e ∙ sym (region-region (f * G.s) G.s off len xs h)

module _ (G : Geometry) (sector len : ℕ) (x : Lent) where
  -- what reading tests beside the geometry
  abbrev pub read_tests : List Bool
  read_tests =
      tables_fit G x
      ∷ eqb (length x.unit.flash.bytes) (pages G * G.s)
      ∷ leb len (length x.buffer)
      ∷ clean (seen_scratch G ∷ []) x.scratch
      ∷ []

  abbrev pub word_read : ℕ
  word_read = word_of (tables_of G x) (logical_page G sector)

  pub read_wrong : good? G ≡ false → Answered (read G sector len x) x (Err Wrong)
  unfolding read
  read_wrong = bad_geometry G read_tests _ _ _ x _

  pub read_size : every read_tests ≡ false → Answered (read G sector len x) x (Err Wrong)
  unfolding read
  read_size = bad_size G read_tests _ _ _ x _

  module _ (g : good? G ≡ true) (e : every read_tests ≡ true) where
    -- a page that is read lies in the flash
    pub read_in : soundb G (tables_of G x) ≡ true → word_read ≢ empty → flat G word_read < pages G
    read_in h m =
        let t = tables_test G x (each read_tests e 0) in
        let C : Counted G (tables_of G x) = soundb_counted G (tables_of G x) (sized-view G x.unit.words x.unit.used t.0 t.1) h in
        let l = logical_page G sector in
        omega (arith, C.page< l m, part_fits G.p (C.seg< l m))

    module _ (s : List (List ℕ)) (q : s ≡ x.scratch) where
      back : lent x.unit x.buffer s ≡ x
      back = ap (lent x.unit x.buffer) q

      pub read_unsound : soundb G (tables_of G x) ≡ false → Answered (read G sector len x) (lent x.unit x.buffer s) (Err Unsound)
      unfolding read
      read_unsound h = by (guarded_sound _ _ _ _ x _ (all_sizes G read_tests g e) h) (record { left_is = back; answer_is = refl })

      module _ (h : soundb G (tables_of G x) ≡ true) where
        pub read_place : (inside? G sector && room? G sector len) ≡ false → Answered (read G sector len x) (lent x.unit x.buffer s) (Err Wrong)
        unfolding read
        read_place o =
            by (guarded_place _ _ _ _ x _ (all_sizes G read_tests g e) h o) (record { left_is = back; answer_is = refl })

        module _ (l : inside? G sector ≡ true) (o : room? G sector len ≡ true) where
          pub read_unmapped : word_read ≡ empty → Answered (read G sector len x) (lent x.unit x.buffer s) (Err Unmapped)
          unfolding read
          read_unmapped m =
              by
              (guarded_passes _ _ _ _ x _ (all_sizes G read_tests g e) h l o
              ∙ unless_fails _ _ x _ (ap not (eq-eqb word_read empty m)))
              (record { left_is = back; answer_is = refl })

          pub read_done : word_read ≢ empty → (d : List ℕ)
              → d ≡ splice 0 (take len (drop (offset G sector) (slot G.s (flat G word_read) x.unit.flash.bytes))) x.buffer
              → Answered (read G sector len x) (lent x.unit d s) (Ok len)
          unfolding read
          read_done m d v =
              by
              (guarded_passes _ _ _ _ x _ (all_sizes G read_tests g e) h l o
              ∙ unless_passes _ _ x _ (ap not (ne_eqb word_read empty m)))
              (record { left_is = cc (v, q); answer_is = refl })

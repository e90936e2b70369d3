-- A page write, by what its parts ensure: the page found is a segment's next one, the page built is the old one with the bytes laid in, and
-- each of the three ends is what the definition says.
use Prim.Native.Nat.{ℕ, ◌+◌, ◌*◌, ◌-◌, ◌<◌}
use native.Mathlib.Omega.{arith}
use mathlib.Core.Path.{◌≡◌, refl, sym, ap, subst, subst⁻¹, ◌∙◌}
use mathlib.Core.Logic.{◌⊎◌, inl, inr}
use mathlib.Core.Bool.{true, false}
use mathlib.Core.List.{List}
use lib.Dec.{eqb}
use lib.ListN.{length, get_or}
use lib.Seq.{get_or-set_same}
use borrow.Author.Tests.{eqb-true, eqb-false}
use borrow.Rule.Slice.PartMut.{put_mid}
use Rattle.std.specs.Prelude.{Result}
use Rattle.std.specs.Option.{ok_or}
use Rattle.model.specs.declared.Geometry.{Geometry}
use Rattle.model.specs.declared.Cause.{Cause}
use Rattle.model.specs.declared.Cause.TheVariants.{NoRoom, Device}
use Rattle.model.specs.Lists.{slot, splice, zeros}
use Rattle.model.specs.Numbers.{Ok, Err, empty, seg_of, page_of}
use Rattle.model.specs.Tables.{Tables, at, word_of, pages}
use Rattle.model.specs.Sound.{Sound}
use Rattle.model.specs.Device.{Flash, State, state, may_program, programmed}
use Rattle.model.specs.Contract.{Done}
use Rattle.model.specs.PageMap.{Found, Some, None, spot, find, spend, forget, place}
use Rattle.model.specs.declared.Spot.{Spot}
use Rattle.model.specs.PageWrite.{old_page, write_page}
use Rattle.model.proofs.Working.{Counted}
use Rattle.model.proofs.Official.{sound_counted, counted_sound}
use Rattle.model.proofs.Slots.{any_default}
use Rattle.model.proofs.Regions.{part_back}
use Rattle.model.proofs.Find.{Full, Free, found}
use Rattle.model.proofs.Spend.{Next, spend_sound}
use Rattle.model.proofs.Turns.{write_none, write-stored, write-spent}
use Rattle.model.proofs.Content.{old_empty, old_mapped}
use Rattle.tables.specs.declared.TablesMut.{TablesMut}
use Rattle.tables.specs.Parts.{tables_of, Same}
use Rattle.tables.proofs.Parts.{sized}
use Rattle.device.specs.Tried.{Tried}
use Rattle.device.proofs.Tried.{tried_ok, tried_err}

-- the bytes laid into what stands for the old page
pub laid : (off : ℕ) (xs : List ℕ) {page old part : List ℕ} → part ≡ xs → page ≡ old → put_mid off (off + length xs - off) page part ≡ splice off xs old
unfolding splice
laid off xs {page} {old} {part} e p = part_back page part off (length xs) (λ _. xs) e ∙ ap (splice off xs) p

module _ (t : TablesMut) where
  abbrev G : Geometry
  G = t.geo

  -- the old page, by the map's word of the logical page l
  module _ (l : ℕ) (known : l < G.e) (f : Flash) where
    abbrev a : ℕ
    a = get_or t.map.now l 0

    word : a ≡ word_of (tables_of t) l
    word = any_default t.map.now l 0 empty (rw t.map_len known)

    pub old_zeros : true ≡ eqb a empty → zeros G.s ≡ old_page G (state (tables_of t) f) l
    old_zeros e = sym (old_empty G (state (tables_of t) f) l (sym word ∙ eqb-true a empty (sym e)))

    pub old_read : false ≡ eqb a empty → slot G.s (seg_of G a * G.p + page_of G a) f.bytes ≡ old_page G (state (tables_of t) f) l
    old_read e =
        ap (λ x. slot G.s (seg_of G x * G.p + page_of G x) f.bytes) word
        ∙ sym (old_mapped G (state (tables_of t) f) l (λ q. eqb-false a empty (sym e) (word ∙ q)))

  -- the page found is the next of a segment with room
  module _ (marks : length t.used.now ≡ pages G) (S : Sound G (tables_of t)) where
    counted : Counted G (tables_of t)
    counted = sound_counted G (tables_of t) (sized t marks) S

    module _ (bad : List ℕ) (x : Spot) (hit : find G bad (tables_of t) ≡ Some x) where
      next : Next G (tables_of t) x.segment x.page
      next = go (found G t.good (tables_of t) counted bad)
        where
          go : Full G t.good (tables_of t) counted bad (find G bad (tables_of t)) ⊎ Free G t.good (tables_of t) counted bad (find G bad (tables_of t))
              → Next G (tables_of t) x.segment x.page
          go (inl n) = let q : None ≡ Some x = sym n.is ∙ hit in cc
          go (inr f) =
              let s : Spot = spot f.seg (G.p - at t.free.now f.seg) in
              let q : Some s ≡ Some x = sym f.is ∙ hit in
              let e : s ≡ x = cc in
              subst (λ (y : Spot). Next G (tables_of t) y.segment y.page) e f.next

      pub within : (x.segment < G.n) × (x.page < G.p) × (0 < at t.free.now x.segment)
      within = (next.seg, omega (arith, next.first, next.some_free), next.some_free)

      -- what is so once it is spent
      module _ (t' : TablesMut) (same : Same t t') (spent : tables_of t' ≡ spend G x.segment x.page (tables_of t)) where
        spent_counted : Counted G (spend G x.segment x.page (tables_of t))
        spent_counted = spend_sound G (tables_of t) counted x.segment x.page next

        pub spent_marks : length t'.used.now ≡ pages t'.geo
        spent_marks = rw same.geo (ap (λ (y : Tables). length y.used) spent ∙ spent_counted.sized.used)

        pub spent_sound : Sound t'.geo (tables_of t')
        spent_sound = rw (same.geo, spent) (counted_sound G _ spent_counted)

        pub spent_gap : at t'.lens.now x.segment < at t'.valid.now x.segment
        spent_gap =
            subst⁻¹ (λ (y : Tables). at y.lens x.segment < at y.valid x.segment) spent
            (rw (get_or-set_same t.valid.now x.segment (at t.valid.now x.segment + 1) 0 (rw t.valid_len next.seg))
            (omega (arith, counted.lens≤ x.segment)))

-- nothing was found
pub none_found : (r : Found) {e : Cause} → Err e ≡ ok_or r NoRoom → (r ≡ None) × (e ≡ NoRoom)
none_found (Some x) {e} h = let k : ◌≡◌ {A = Result Spot Cause} (Err e) (Ok x) = h in cc
none_found None {e} h = let k : ◌≡◌ {A = Result Spot Cause} (Err e) (Err NoRoom) = h in (refl, (cc))

-- the three ends
module _ (G : Geometry) (bad : List ℕ) (l off : ℕ) (d : List ℕ) (st : State) where
  pub wrote_none : {e : Cause} → Err e ≡ ok_or (find G bad st.tab) NoRoom → Done (write_page G bad l off d st) (Err e) st
  wrote_none h =
      let n = none_found (find G bad st.tab) h in
      rw (write_none G bad l off d st n.0) (record { answer = ap Err n.1; left = refl })

  module _ (x : Spot) (page : List ℕ) (hit : find G bad st.tab ≡ Some x) (built : page ≡ splice off d (old_page G st l)) (f : Flash) where
    pub wrote_spent : {e : Cause} {t : Tables} → t ≡ spend G x.segment x.page st.tab
        → Tried (may_program G x.segment x.page st.flash) Device (programmed G x.segment x.page page st.flash) st.flash (Err e) f
        → Done (write_page G bad l off d st) (Err e) (state t f)
    wrote_spent {e} {t} s tried =
        let r = tried_err _ tried in
        subst (λ o. Done o (Err e) (state t f)) (sym (write-spent G bad l off d st x.segment x.page hit r.0))
        (record { answer = ap Err r.1; left = rw (s, r.2) })

    pub wrote_stored : {t₁ t : Tables} → t₁ ≡ spend G x.segment x.page st.tab → t ≡ place G l x.segment x.page (forget G l t₁)
        → Tried (may_program G x.segment x.page st.flash) Device (programmed G x.segment x.page page st.flash) st.flash (Ok tt) f
        → Done (write_page G bad l off d st) (Ok (length d)) (state t f)
    wrote_stored {t₁} {t} s p tried =
        let r = tried_ok _ tried in
        subst (λ o. Done o (Ok (length d)) (state t f)) (sym (write-stored G bad l off d st x.segment x.page hit r.0))
        (record { answer = refl; left = rw (p, s, r.1, built) })

-- The drain's loop, by what the inner write ensures: the definition from the start ends as the definition from here.
use Prim.Native.Nat.{ℕ, suc, ◌+◌, ◌-◌, ◌<◌, ◌≤◌}
use native.Mathlib.Nat.{sub-zero}
use native.Mathlib.Omega.{arith}
use mathlib.Core.Path.{◌≡◌, refl, sym, ap, subst, ◌∙◌}
use mathlib.Core.Logic.{◌≢◌}
use mathlib.Core.List.{List, []}
use mathlib.Core.Bool.{true}
use lib.ListN.{length, length-replicate}
use Rattle.std.specs.Result.{MatchResult, is_ok}
use Rattle.model.specs.declared.Geometry.{Geometry}
use Rattle.model.specs.declared.Cause.{Cause}
use Rattle.model.specs.Lists.{zeros}
use Rattle.model.specs.Numbers.{Answer, Ok, Err, empty}
use Rattle.model.specs.Tables.{Tables, at, pages}
use Rattle.model.specs.Sound.{Sound, Mapped}
use Rattle.model.specs.Device.{State, state}
use Rattle.model.specs.Contract.{Done}
use Rattle.model.specs.PageWrite.{write_page}
use Rattle.model.specs.PageGc.{of_copy, last_of, drain}
use Rattle.model.proofs.Working.{Counted}
use Rattle.model.proofs.Official.{sound_counted, counted_sound}
use Rattle.model.proofs.Unlink.{mapped_lt}
use Rattle.model.proofs.Write.{Wrote, wrote}
use Rattle.model.proofs.Collect.{last_in}
use Rattle.model.proofs.Turns.{drain_more, drain_stops, drain-empty}
use Rattle.tables.specs.declared.TablesMut.{TablesMut}
use Rattle.tables.specs.Parts.{tables_of, Same}
use Rattle.tables.proofs.Parts.{sized}
use Rattle.device.specs.declared.FlashMut.{FlashMut}
use Rattle.device.specs.Lent.{flash_of}
use Rattle.device.specs.Lent.{Same as SameFlash}
use Rattle.device.proofs.Lent.{fits}

-- what a copy's answer says of the write's: it was refused, or done
copy_refused : (a : Answer) {x : Cause} → MatchResult a (λ k. ◌≡◌ {A = Answer} (Err x) (Ok k)) (λ e. x ≡ of_copy e)
    → (e : Cause) × (a ≡ Err e) × (x ≡ of_copy e)
copy_refused (Ok k) {x} h = let z : ◌≡◌ {A = Answer} (Err x) (Ok k) = h in cc
copy_refused (Err e) h = (e, refl, h)

copy_moved : (a : Answer) → true ≡ is_ok a → (k : ℕ) × (a ≡ Ok k)
copy_moved (Ok k) h = (k, refl)
copy_moved (Err e) h = cc

-- before a copy of the drain of v, which began with t₀ and f₀: i of the copies that the definition allows were made
pub record Copying (bad : List ℕ) (v : ℕ) (t₀ : TablesMut) (f₀ : FlashMut) (t : TablesMut) (f : FlashMut) (i : ℕ) : Type 0 where
  pub same : Same t₀ t
  pub same_flash : SameFlash f₀ f
  pub geometry : f₀.geo ≡ t₀.geo
  pub seg : v < t₀.geo.n
  pub counted : Counted t₀.geo (tables_of t)
  pub full : at t.free.now v ≡ 0
  pub flagged : at t.flags.now v ≡ 1
  pub goes : (c : List ℕ) (r : Answer) (s : State) → Done (drain t₀.geo bad (t₀.geo.p - i) v (state (tables_of t) (flash_of f c))) r s
      → Done (drain t₀.geo bad t₀.geo.p v (state (tables_of t₀) (flash_of f₀ c))) r s

pub copying_start : (bad : List ℕ) (v : ℕ) (t : TablesMut) (f : FlashMut) → f.geo ≡ t.geo → length t.used.now ≡ pages t.geo → Sound t.geo (tables_of t)
    → v < t.geo.n → at t.free.now v ≡ 0 → at t.flags.now v ≡ 1 → Copying bad v t f t f 0
copying_start bad v t f e u S seg z x =
    record {
      same = search;
      same_flash = search;
      geometry = e;
      seg = seg;
      counted = sound_counted t.geo (tables_of t) (sized t u) S;
      full = z;
      flagged = x;
      goes = λ c r s D. subst (λ j. Done (drain t.geo bad j v (state (tables_of t) (flash_of f c))) r s) (sub-zero t.geo.p) D;
    }

module _ {bad : List ℕ} {v : ℕ} {t₀ : TablesMut} {f₀ : FlashMut} {t : TablesMut} {f : FlashMut} {i : ℕ} (C : Copying bad v t₀ f₀ t f i) where
  abbrev G : Geometry
  G = t₀.geo

  abbrev T : Tables
  T = tables_of t

  pub marks_here : length t.used.now ≡ pages t.geo
  marks_here = rw C.same.geo C.counted.sized.used

  pub sound_here : Sound t.geo (tables_of t)
  sound_here = rw C.same.geo (counted_sound G T C.counted)

  -- the list is empty
  pub copying_empty : at t.lens.now v ≡ 0 → (c : List ℕ) → Done (drain G bad G.p v (state (tables_of t₀) (flash_of f₀ c))) (Ok 0) (state T (flash_of f c))
  copying_empty e c =
      C.goes c (Ok 0) (state T (flash_of f c))
      (subst (λ o. Done o (Ok 0) (state T (flash_of f c))) (sym (drain-empty G bad (G.p - i) v (state T (flash_of f c)) e)) (record { answer = refl; left = refl }))

  -- all copies that are allowed were made: on sound tables the list is empty then
  pub copying_end : G.p ≤ i → (c : List ℕ) → Done (drain G bad G.p v (state (tables_of t₀) (flash_of f₀ c))) (Ok 0) (state T (flash_of f c))
  unfolding drain
  copying_end h c =
      let none : 0 ≡ G.p - i = omega arith in
      C.goes c (Ok 0) (state T (flash_of f c))
      (subst (λ j. Done (drain G bad j v (state T (flash_of f c))) (Ok 0) (state T (flash_of f c))) none (record { answer = refl; left = refl }))

  -- a copy of the last page l
  module _ (some : at t.lens.now v ≢ 0) (l : ℕ) (last : l ≡ last_of G v T) where
    mapped : Mapped T (last_of G v T)
    mapped = (last_in G v C.seg T C.counted some).0

    pub known : l < G.e
    known =
        subst (λ x. x < G.e) (sym last)
        (subst (λ k. last_of G v T < k) C.counted.sized.map (mapped_lt T.map (last_of G v T) empty mapped))

    -- its write of no bytes answered a and left t' and f'
    module _ (a : Answer) (t' : TablesMut) (f' : FlashMut) (S : Same t t') (F : SameFlash f f')
        (done : (c : List ℕ) → Done (write_page G bad l 0 [] (state T (flash_of f c))) a (state (tables_of t') (flash_of f' c))) where
      abbrev st : State
      st = state T (flash_of f (zeros G.n))

      Wr : Wrote G st l 0 [] (write_page G bad l 0 [] st)
      Wr = wrote G t₀.good bad st C.counted (fits f (C.same_flash.geo ∙ C.geometry) (length-replicate G.n 0)) l 0 [] known (omega arith)

      tables_are : tables_of t' ≡ (write_page G bad l 0 [] st).st.tab
      tables_are = ap (λ (s : State). s.tab) (done (zeros G.n)).left

      pub marks_after : length t'.used.now ≡ pages t'.geo
      marks_after = rw (S.geo ∙ C.same.geo) (ap (λ (x : Tables). length x.used) tables_are ∙ Wr.sound.sized.used)

      pub sound_after : Sound t'.geo (tables_of t')
      sound_after = rw (S.geo ∙ C.same.geo, tables_are) (counted_sound G _ Wr.sound)

      done_last : (c : List ℕ) → Done (write_page G bad (last_of G v T) 0 [] (state T (flash_of f c))) a (state (tables_of t') (flash_of f' c))
      done_last c = subst (λ x. Done (write_page G bad x 0 [] (state T (flash_of f c))) a (state (tables_of t') (flash_of f' c))) last (done c)

      module _ (more : i < G.p) where
        one_more : suc (G.p - (i + 1)) ≡ G.p - i
        one_more = omega arith

        from : (c : List ℕ) (r : Answer) (s : State) → Done (drain G bad (suc (G.p - (i + 1))) v (state T (flash_of f c))) r s
            → Done (drain G bad G.p v (state (tables_of t₀) (flash_of f₀ c))) r s
        from c r s D = C.goes c r s (subst (λ j. Done (drain G bad j v (state T (flash_of f c))) r s) one_more D)

        -- it was done: one copy less is left
        pub copying_more : true ≡ is_ok a → Copying bad v t₀ f₀ t' f' (i + 1)
        copying_more h =
            let m = copy_moved a h in
            record {
              same = search;
              same_flash = search;
              geometry = C.geometry;
              seg = C.seg;
              counted = rw tables_are Wr.sound;
              full = ap (λ (x : Tables). at x.free v) tables_are ∙ (Wr.busy v C.full C.flagged).full;
              flagged = ap (λ (x : Tables). at x.flags v) tables_are ∙ (Wr.busy v C.full C.flagged).flagged;
              goes = λ c r s D.
                  from c r s
                  (drain_more G bad v (state T (flash_of f c)) mapped some (G.p - (i + 1)) m.0 r s (sym (done_last c).answer ∙ m.1)
                  (subst (λ x. Done (drain G bad (G.p - (i + 1)) v x) r s) (done_last c).left D));
            }

        -- it was refused: the drain ends there
        pub copying_stops : {x : Cause} → MatchResult a (λ k. ◌≡◌ {A = Answer} (Err x) (Ok k)) (λ e. x ≡ of_copy e) → (c : List ℕ)
            → Done (drain G bad G.p v (state (tables_of t₀) (flash_of f₀ c))) (Err x) (state (tables_of t') (flash_of f' c))
        copying_stops {x} h c =
            let m = copy_refused a h in
            from c (Err x) (state (tables_of t') (flash_of f' c))
            (drain_stops G bad v (state T (flash_of f c)) mapped some (G.p - (i + 1)) m.0 (Err x) (state (tables_of t') (flash_of f' c))
            (sym (done_last c).answer ∙ m.1) (ap Err m.2) (done_last c).left)

-- What write and the collections know when `all_fit` has passed.
use Prim.Native.Nat.{ℕ, ◌+◌}
use mathlib.Core.Path.{◌≡◌, sym, ap, ◌∙◌}
use mathlib.Core.Bool.{Bool, true, ◌&&◌}
use mathlib.Core.List.{List, []}
use lib.Dec.{eqb}
use lib.ListN.{length}
use borrow.Author.Tests.{eqb-true}
use Rattle.model.specs.Lists.{blank, zeros}
use Rattle.model.specs.declared.Geometry.{Geometry}
use Rattle.model.specs.Numbers.{Answer}
use Rattle.model.specs.Numbers.{Good, good?}
use Rattle.model.specs.Tables.{tab_words, pages, view, packed}
use Rattle.model.specs.Sound.{soundb}
use Rattle.model.specs.Device.{Flash, State, state, Out}
use Rattle.model.specs.Contract.{Held, Fit, Ready, Done}
use Rattle.model.specs.Entry.{Recorder, recorder, Lent, lent, tables_fit, flash_fits}
use Rattle.model.proofs.Guard.{both, good_test, tables_test, flash_test, blank_is}
use Rattle.model.proofs.Working.{Counted}
use Rattle.model.proofs.View.{sized-view, packed-view, used_is}
use Rattle.model.proofs.Official.{soundb_counted, counted_sound}

-- the size and the zeros of scratch, and what they say of it
abbrev pub clean? : ℕ → List ℕ → Bool
clean? k s = eqb (length s) k && blank s

pub clean-zeros : (k : ℕ) (s : List ℕ) → clean? k s ≡ true → s ≡ zeros k
clean-zeros k s e =
    let h : (eqb (length s) k ≡ true) × (blank s ≡ true) = both _ _ e in
    blank_is s h.1 ∙ ap zeros {x = length s} {y = k} (eqb-true (length s) k h.0)

-- lent: the unit x, and scratch for a page and for the soundness test
module _ (G : Geometry) (bad : List ℕ) (x : Recorder) (page seen : List ℕ) where
  abbrev alone : Lent
  alone = lent x [] []

  -- what `all_fit` answers
  abbrev pub fit? : Bool
  fit? =
      tables_fit G alone
      && (flash_fits G x.flash && (eqb (length bad) G.n && (clean? G.s page && clean? (G.n + G.p) seen)))

  pub record Passed : Type 0 where
    pub goodness : good? G ≡ true
    pub fits : fit? ≡ true
    pub good : Good G
    pub words_size : length x.words ≡ tab_words G
    pub used_size : length x.used ≡ pages G
    pub fit : Fit G x.flash
    pub ready : Ready G bad page x.flash.bytes x.flash.marks
    pub seen_clean : seen ≡ zeros (G.n + G.p)

  pub passed : good? G ≡ true → fit? ≡ true → Passed
  passed g e =
      let a = both (tables_fit G alone) _ e in
      let b = both (flash_fits G x.flash) _ a.1 in
      let c = both (eqb (length bad) G.n) _ b.1 in
      let d = both (clean? G.s page) _ c.1 in
      let T = tables_test G alone a.0 in
      let F = flash_test G x.flash b.0 in
      record {
        goodness = g;
        fits = e;
        good = good_test G g;
        words_size = T.0;
        used_size = T.1;
        fit = F;
        ready = record {
          bytes_size = F.bytes;
          marks_size = F.marks;
          bad_size = eqb-true _ _ c.0;
          page_clean = clean-zeros G.s page d.0;
        };
        seen_clean = clean-zeros (G.n + G.p) seen d.1;
      }

  abbrev pub sound? : Bool
  sound? = soundb G (view G x.words x.used)

  -- and the soundness test
  pub counted : Passed → sound? ≡ true → Counted G (view G x.words x.used)
  counted P s =
      soundb_counted G (view G x.words x.used) (sized-view G x.words x.used P.words_size P.used_size) s

  pub held : Passed → sound? ≡ true → Held G x.words x.used
  held P s =
      record {
        good = P.good;
        tables = record {
          words_size = P.words_size;
          used_size = P.used_size;
          sound = counted_sound G (view G x.words x.used) (counted P s);
        };
      }

  -- words w, use marks u and flash f that an inner call left, put back as the definition puts them
  module _ (P : Passed) (o : Out) (r : Answer) (w u : List ℕ) (f : Flash) (long : length w ≡ length x.words) (D : Done o r (state (view G w u) f)) where
    pub unit_is : recorder w u f ≡ recorder (packed o.st.tab) o.st.tab.used o.st.flash
    unit_is = cc (words, marks, chips)
      where
        words : w ≡ packed o.st.tab
        words = sym (packed-view G w u (long ∙ P.words_size)) ∙ ap (λ (y : State). packed y.tab) D.left

        marks : u ≡ o.st.tab.used
        marks = sym (used_is G w u) ∙ ap (λ (y : State). y.tab.used) D.left

        chips : f ≡ o.st.flash
        chips = ap (λ (y : State). y.flash) D.left

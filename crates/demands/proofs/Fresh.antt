-- "Formatted flash .. is flash just formatted with no erase skipped." "Fresh: opened from zeroed tables.": formatting with enough fuse leaves
-- `formatted_flash`, and opening zeroed tables leaves `fresh`.
use Prim.Native.Nat.{ℕ, zero, suc, ◌+◌, ◌*◌, ◌-◌, ◌≤◌, ◌<◌}
use native.Mathlib.Nat.{zero-mul, mul_assoc}
use native.Mathlib.Omega.{arith}
use mathlib.Core.Path.{◌≡◌, refl, sym, ap, ◌∙◌, subst}
use mathlib.Core.Bool.{Bool, true, false, cond}
use mathlib.Core.List.{List, [], ◌∷◌, ◌++◌, append_assoc}
use lib.Dec.{eqb}
use lib.ListN.{length, take, drop, replicate, length-replicate, length-append, replicate-append-replicate}
use lib.Seq.{take_all, take_at}
use borrow.Author.Tests.{ne_eqb}
use Rattle.model.specs.Lists.{every, on_slot, zeros}
use Rattle.model.specs.declared.Geometry.{Geometry}
use Rattle.model.specs.Numbers.{Good, endless, good?}
use Rattle.model.specs.Tables.{at, tab_words, pages, view, packed, o_alloc}
use Rattle.model.specs.Device.{Flash, flash, State, state, burn, blanked, format_from, formatted_flash}
use Rattle.model.specs.Checkpoint.{fresh, opened, used_by}
use Rattle.model.specs.Entry.{Recorder, recorder, Lent, lent, state_of, tables_fit, flash_fits, formatting, opening}
use Rattle.model.specs.History.{Format, Open, run, after}
use Rattle.model.specs.Contract.{Fit}
use Rattle.model.proofs.Slots.{part_fits, set_ind, zeros_from, same_replicate}
use Rattle.model.proofs.View.{alloc_at}
use Rattle.model.proofs.Content.{blank_fit}
use Rattle.model.proofs.Guard.{test_good, test_tables, guarded_passes}
use Rattle.demands.proofs.Unchanged.{formats_all}
use Rattle.demands.proofs.Tested.{test_flash}
use Rattle.demands.specs.Unit.{burnt, Formats, Opens}

-- ---- formatting

pub burnt-endless : (k : ℕ) → burnt k endless ≡ endless
unfolding burnt burn
burnt-endless zero = refl
burnt-endless (suc k) = burnt-endless k

pub burnt_finite : (k f : ℕ) → f < endless → burnt k f ≡ f - k
unfolding burnt burn
burnt_finite zero f h = omega arith
burnt_finite (suc k) f h = rw (ne_eqb f endless (omega arith)) (burnt_finite k (f - 1) (omega arith) ∙ (let e : f - 1 - k ≡ f - suc k = omega arith in e))

-- one operation takes at most one off a fuse
burn_least : (k f : ℕ) → suc k ≤ f → k ≤ burn f
unfolding burn
burn_least k f h = go (eqb f endless)
  where
    go : (b : Bool) → k ≤ cond b f (f - 1)
    go true = omega arith
    go false = omega arith

-- one more part filled with a
more_front : (q g a : ℕ) (xs : List ℕ) → g * q + q ≤ length xs → take (g * q) xs ≡ replicate (g * q) a
    → take (suc g * q) (on_slot q g (λ _. replicate q a) xs) ≡ replicate (suc g * q) a
more_front q g a xs h e =
    let n : suc g * q ≡ g * q + q = omega arith in
    let k : length (replicate {A = ℕ} (g * q) a ++ replicate q a) ≡ suc g * q = simp (length-append, length-replicate) (omega arith) in
    ap (λ z. take (suc g * q) (z ++ (replicate q a ++ drop (g * q + q) xs))) e
    ∙ ap (take (suc g * q)) (sym (append_assoc (replicate (g * q) a) (replicate q a) (drop (g * q + q) xs)))
    ∙ take_at (replicate (g * q) a ++ replicate q a) (drop (g * q + q) xs) (suc g * q) k
    ∙ replicate-append-replicate (g * q) q a
    ∙ ap (λ m. replicate m a) (sym n)

-- the first g segments of a flash are as formatting leaves them
record Front (G : Geometry) (g : ℕ) (f : Flash) : Type 0 where
  bytes : take (g * (G.p * G.s)) f.bytes ≡ replicate (g * (G.p * G.s)) 255
  marks : take (g * G.p) f.marks ≡ zeros (g * G.p)
  counts : (i : ℕ) → i < g → at f.counts i ≡ 0

module _ (G : Geometry) where
  front_more : (g : ℕ) (f : Flash) → g < G.n → Fit G f → Front G g f → Front G (suc g) (blanked G g 0 f)
  front_more g f hg F P =
      record {
        bytes = more_front (G.p * G.s) g 255 f.bytes (rw (F.bytes, mul_assoc) (part_fits (G.p * G.s) hg)) P.bytes;
        marks = more_front G.p g 0 f.marks (rw F.marks (part_fits G.p hg)) P.marks;
        counts = λ i b. set_ind (λ i x. i < suc g → x ≡ 0) f.counts g 0 0 (rw F.counts hg) (λ _. refl) (λ i n b. P.counts i (omega arith)) i b;
      }

  -- all of them
  front_all : (f : Flash) → Fit G f → Front G G.n f → f ≡ formatted_flash G f.fuse
  front_all f F P =
      let b : f.bytes ≡ replicate (G.n * G.p * G.s) 255 =
      sym (take_all (G.n * (G.p * G.s)) f.bytes (omega (arith, F.bytes, mul_assoc G.n G.p G.s))) ∙ P.bytes ∙ ap (λ m. replicate m 255) (sym (mul_assoc G.n G.p G.s)) in
      let m : f.marks ≡ zeros (G.n * G.p) = sym (take_all (G.n * G.p) f.marks (omega (arith, F.marks))) ∙ P.marks in
      let z : G.n - 0 ≡ G.n = omega arith in
      let c : f.counts ≡ zeros G.n = zeros_from f.counts 0 G.n F.counts (λ j _ h. P.counts j h) ∙ ap zeros z in
      ap (λ x. flash x f.marks f.counts f.fuse) b
      ∙ ap (λ x. flash (replicate (G.n * G.p * G.s) 255) x f.counts f.fuse) m
      ∙ ap (λ x. flash (replicate (G.n * G.p * G.s) 255) (zeros (G.n * G.p)) x f.fuse) c

  formats_from : (k g : ℕ) (st : State) → k + g ≡ G.n → k ≤ st.flash.fuse → Fit G st.flash → Front G g st.flash
      → (format_from G k g st).st.flash ≡ formatted_flash G (burnt k st.flash.fuse)
  unfolding format_from burnt
  formats_from zero g st e h F P = let q : g ≡ G.n = omega arith in front_all st.flash F (subst (λ x. Front G x st.flash) q P)
  formats_from (suc k) g st e h F P =
      rw (ne_eqb st.flash.fuse 0 (omega arith))
      (formats_from k (suc g) (state st.tab (blanked G g 0 st.flash)) (omega arith) (burn_least k st.flash.fuse h)
      (blank_fit G st.flash F g 0 (omega arith))
      (front_more g st.flash (omega arith) F P))

module _ (G : Geometry) (K : Good G) (bad : List ℕ) where
  pub formats : (r : Recorder) → Fit G r.flash → G.n ≤ r.flash.fuse → Formats G r (run G bad Format r)
  unfolding formatting every
  formats r F h =
      let p : every (good? G ∷ flash_fits G r.flash ∷ []) ≡ true = rw (test_good G K, test_flash G r.flash F) in
      subst (Formats G r) (sym (guarded_passes _ _ _ _ (lent r [] []) _ p refl refl refl))
      (record {
        answer = formats_all G bad G.n 0 (state_of G (lent r [] []));
        unit = ap (recorder r.words r.used) (formats_from G G.n 0 (state_of G (lent r [] [])) (omega arith) h F none);
      })
    where
      none : Front G 0 r.flash
      none =
          record {
            bytes =
                ap (λ m. take m r.flash.bytes) (zero-mul (G.p * G.s)) ∙ ap (λ m. replicate m 255) (sym (zero-mul (G.p * G.s)));
            marks = ap (λ m. take m r.flash.marks) (zero-mul G.p) ∙ ap zeros (sym (zero-mul G.p));
            counts = λ i b. absurd (omega arith);
          }

  pub opens : (u : List ℕ) (f : Flash) → length u ≡ pages G → Opens G f (run G bad Open (recorder (zeros (tab_words G)) u f))
  unfolding opening every
  opens u f hu =
      let x : Lent = lent (recorder (zeros (tab_words G)) u f) [] [] in
      let p : every (good? G ∷ tables_fit G x ∷ []) ≡ true = rw (test_good G K, test_tables G x (length-replicate (tab_words G) 0) hu) in
      let z : (view G (zeros (tab_words G)) u).alloc ≡ 0 = alloc_at G (zeros (tab_words G)) u ∙ same_replicate (tab_words G) 0 (o_alloc G) in
      subst (Opens G f) (sym (guarded_passes _ _ _ _ x _ p refl refl refl))
      (record { answer = refl; unit = ap (λ a. recorder (packed (opened G a)) (opened G a).used f) z })

  -- a witness: both, over zeroed words and marks and flash of the right size with any bytes
  pub started : (b m c : List ℕ) (f : ℕ) → length b ≡ pages G * G.s → length m ≡ pages G → length c ≡ G.n → G.n ≤ f
      → after G bad Open (after G bad Format (recorder (zeros (tab_words G)) (zeros (pages G)) (flash b m c f)))
      ≡ recorder (packed (fresh G)) (fresh G).used (formatted_flash G (burnt G.n f))
  started b m c f hb hm hc h =
      ap (after G bad Open)
      (formats (recorder (zeros (tab_words G)) (zeros (pages G)) (flash b m c f)) (record { bytes = hb; marks = hm; counts = hc }) h).unit
      ∙ (opens (zeros (pages G)) (formatted_flash G (burnt G.n f)) (length-replicate (pages G) 0)).unit

-- fresh use marks are all clear
clear_used : (p n : ℕ) → used_by p (replicate n p) ≡ zeros (n * p)
unfolding used_by
clear_used p zero = ap zeros (sym (zero-mul p))
clear_used p (suc n) =
    let z : p - p ≡ 0 = omega arith in
    let e : p + n * p ≡ suc n * p = omega arith in
    ap (λ k. (replicate k 1 ++ zeros p) ++ used_by p (replicate n p)) z
    ∙ ap (λ ys. zeros p ++ ys) (clear_used p n)
    ∙ replicate-append-replicate p (n * p) 0
    ∙ ap zeros e

pub fresh_used : (G : Geometry) → (fresh G).used ≡ zeros (pages G)
fresh_used G = clear_used G.p G.n

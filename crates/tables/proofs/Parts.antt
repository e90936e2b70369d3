-- The words and the parts that they are cut into.
use Rattle.std.proofs.Common.{arith, refl, ℕ, List, [], ◌∷◌, ◌++◌, ◌≡◌, sym, ap, ◌∙◌, length, take, drop, set}
use lib.ListN.{length-drop}
use lib.Seq.{take_all}
use Rattle.model.specs.declared.Geometry.{Geometry}
use Rattle.model.specs.Tables.{Tables, tables, at, view, packed, pages, tab_words, set_used, Sized}
use Rattle.model.specs.Sound.{Sound}
use Rattle.model.proofs.Regions.{cut}
use Rattle.model.proofs.View.{view-packed, view_cut, made, sizes}
use Rattle.tables.specs.declared.TablesMut.{TablesMut}
use Rattle.tables.specs.Parts.{tables_of, SoundMarksAside}

-- each part has its size, with these use marks and with the ones that are lent
pub sized_with : (t : TablesMut) (marks : List ℕ) → length marks ≡ pages t.geo → Sized t.geo (set_used marks (tables_of t))
sized_with t marks h =
    record {
      map = t.map_len;
      free = t.free_len;
      valid = t.valid_len;
      used = h;
      lists = t.lists_len;
      lens = t.lens_len;
      queue = t.queue_len;
      flags = t.flags_len;
    }

pub sized : (t : TablesMut) → length t.used.now ≡ pages t.geo → Sized t.geo (tables_of t)
sized t = sized_with t t.used.now

-- the marks that are lent are some marks
pub marks_aside : (t : TablesMut) → length t.used.now ≡ pages t.geo → Sound t.geo (tables_of t) → SoundMarksAside t
marks_aside t h S = record { marks = t.used.now; size = h; sound = S }

-- the words, cut into their parts one after the other, and the use marks
module _ (G : Geometry) (w u : List ℕ) where
  abbrev behind_map : List ℕ
  behind_map = drop G.e w

  abbrev behind_free : List ℕ
  behind_free = drop G.n behind_map

  abbrev behind_valid : List ℕ
  behind_valid = drop G.n behind_free

  abbrev behind_lens : List ℕ
  behind_lens = drop G.n behind_valid

  abbrev behind_queue : List ℕ
  behind_queue = drop G.n behind_lens

  abbrev behind_flags : List ℕ
  behind_flags = drop G.n behind_queue

  abbrev behind_alloc : List ℕ
  behind_alloc = drop 1 behind_flags

  cut_apart : length w ≡ tab_words G
      → tables (take G.e w) (take G.n behind_map) (take G.n behind_free) u (drop 1 behind_alloc) (take G.n behind_valid) (take G.n behind_lens)
      (take G.n behind_queue) (at (take 1 behind_flags) 0) (at (take 1 behind_alloc) 0) ≡ view G w u
  unfolding made sizes cut
  cut_apart h =
      let long : length (drop 1 behind_alloc) ≡ pages G = simp length-drop (omega arith) in
      sym
      (view_cut G w u
      ∙ ap
      (λ xs.
      tables (take G.e w) (take G.n behind_map) (take G.n behind_free) u xs (take G.n behind_valid) (take G.n behind_lens) (take G.n behind_queue)
      (at (take 1 behind_flags) 0) (at (take 1 behind_alloc) 0))
      (take_all (pages G) (drop 1 behind_alloc) (omega arith)))

-- the parts, each cut off from what is behind the one before
pub apart : (G : Geometry) (w u : List ℕ) {m f v l q x a k ls r₀ r₁ r₂ r₃ r₄ r₅ r₆ : List ℕ} → length w ≡ tab_words G
    → m ≡ take G.e w → r₀ ≡ drop G.e w
    → f ≡ take G.n r₀ → r₁ ≡ drop G.n r₀
    → v ≡ take G.n r₁ → r₂ ≡ drop G.n r₁
    → l ≡ take G.n r₂ → r₃ ≡ drop G.n r₂
    → q ≡ take G.n r₃ → r₄ ≡ drop G.n r₃
    → x ≡ take G.n r₄ → r₅ ≡ drop G.n r₄
    → a ≡ take 1 r₅ → r₆ ≡ drop 1 r₅
    → k ≡ take 1 r₆ → ls ≡ drop 1 r₆
    → tables m f v u ls l q x (at a 0) (at k 0) ≡ view G w u
apart G w u h e₁ e₂ e₃ e₄ e₅ e₆ e₇ e₈ e₉ e₁₀ e₁₁ e₁₂ e₁₃ e₁₄ e₁₅ e₁₆ =
    cc (cut_apart G w u h, e₁, e₂, e₃, e₄, e₅, e₆, e₇, e₈, e₉, e₁₀, e₁₁, e₁₂, e₁₃, e₁₄, e₁₅, e₁₆)

-- a list of one, its item set
one_set : (xs : List ℕ) (x : ℕ) → length xs ≡ 1 → set xs 0 x ≡ x ∷ []
one_set [] x e = absurd (omega arith)
one_set (y ∷ []) x e = refl
one_set (y ∷ (z ∷ ys)) x e = absurd (omega arith)

-- tables whose parts are laid one after the other are what lies there
laid : (G : Geometry) (t : Tables) → Sized G t
    → view G (t.map ++ (t.free ++ (t.valid ++ (t.lens ++ (t.queue ++ (t.flags ++ (t.alloc ∷ (t.queued ∷ t.lists)))))))) t.used ≡ t
unfolding packed
laid G t S = view-packed S

pub laid_together : (G : Geometry) (t : Tables) (a q : List ℕ) → Sized G t → length a ≡ 1 → length q ≡ 1
    → view G (t.map ++ (t.free ++ (t.valid ++ (t.lens ++ (t.queue ++ (t.flags ++ (set a 0 t.alloc ++ (set q 0 t.queued ++ t.lists)))))))) t.used ≡ t
laid_together G t a q S ha hq = rw (one_set a t.alloc ha, one_set q t.queued hq) (laid G t S)

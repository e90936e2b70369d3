-- What opening and restoring go through: tables with nothing listed, the test of a word, and the turn of one logical page.
use Rattle.std.specs.Prelude.{ℕ, ◌+◌, ◌*◌, ◌-◌, ◌<◌, ◌≡◌, Bool, ◌&&◌, List, ◌++◌, ltb, eqb, length, take, drop, set, replicate}
use Rattle.model.specs.Lists.{occ}
use Rattle.model.specs.declared.Geometry.{Geometry}
use Rattle.model.specs.Numbers.{empty, addr, seg_of, page_of, flat}
use Rattle.model.specs.Tables.{Tables, at, pages, set_map, set_used, set_valid, set_lists, set_lens}
use Rattle.model.specs.Checkpoint.{bare, settle_all}
use Rattle.model.proofs.Restore.{Settled}

module _ (G : Geometry) where
  -- map, free counts and use marks of t, this allocation segment, and nothing valid, listed, queued or flagged
  abbrev pub unlisted : ℕ → Tables → Tables
  unlisted alloc t = set_map t.map (set_used t.used (bare G t.free alloc))

  -- by the marks s: the word a names a used page of a segment < n, and no word before it named that page
  unfoldable pub takes : ℕ → Tables → List ℕ → Bool
  takes a t s = ltb (seg_of G a) G.n && (ltb (page_of G a + at t.free (seg_of G a)) G.p && eqb (at s (flat G a)) 0)

  -- logical page l at the end of the list of segment g, and one more valid page there; its word of the map stands there already
  abbrev pub listed : ℕ → ℕ → Tables → Tables
  listed l g t =
      set_lists (set t.lists (g * G.p + at t.lens g) l)
      (set_lens (set t.lens g (at t.lens g + 1)) (set_valid (set t.valid g (at t.valid g + 1)) t))

  -- the definition's tables before the turn of logical page l: in t the words from l on are still to come
  abbrev pub midst : ℕ → Tables → Tables
  midst l t = set_map (take l t.map ++ replicate (G.e - l) empty) t

  -- and what they end as
  unfoldable pub ending : ℕ → Tables → Tables
  ending l t = settle_all G l (drop l t.map) (midst l t)

  -- before the turn of logical page l: the words below l are settled, and a page is marked in s where one of them names it
  pub record Turn (l : ℕ) (t : Tables) (s : List ℕ) : Type 0 where
    pub words : length t.map ≡ G.e
    pub settled : Settled G l (midst l t)
    pub marks_size : length s ≡ pages G
    pub marks : (g k : ℕ) → g < G.n → k < G.p → eqb (at s (g * G.p + k)) 0 ≡ eqb (occ (addr G g k) (midst l t).map) 0

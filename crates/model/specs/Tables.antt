-- The tables that a caller lends, and how they lie in memory: all words in one slice, the use marks in another.
use Rattle.std.specs.Prelude.{ℕ, ◌+◌, ◌*◌, ◌≡◌, List, ◌∷◌, ◌++◌, length, get_or, take, drop}
use Rattle.model.specs.Lists.{slot}
use Rattle.model.specs.Numbers.{Geometry, empty}

-- map: a word for each logical page. Of each segment: free and valid count, flag, list (p slots each, `lens` in use).
-- used: a mark for each page. queue: n slots, `queued` in use. alloc: the allocation segment.
pub record Tables : Type 0 where
  pub map : List ℕ
  pub free : List ℕ
  pub valid : List ℕ
  pub used : List ℕ
  pub lists : List ℕ
  pub lens : List ℕ
  pub queue : List ℕ
  pub flags : List ℕ
  pub alloc : ℕ
  pub queued : ℕ

-- Tables are made anew by these alone: all fields in the order above, or one field set.
abbrev pub tables : (map free valid used lists lens queue flags : List ℕ) (alloc queued : ℕ) → Tables
tables m f v u l n q x a k = record { map = m; free = f; valid = v; used = u; lists = l; lens = n; queue = q; flags = x; alloc = a; queued = k }

abbrev pub set_map : List ℕ → Tables → Tables
set_map x t = tables x t.free t.valid t.used t.lists t.lens t.queue t.flags t.alloc t.queued

abbrev pub set_free : List ℕ → Tables → Tables
set_free x t = tables t.map x t.valid t.used t.lists t.lens t.queue t.flags t.alloc t.queued

abbrev pub set_valid : List ℕ → Tables → Tables
set_valid x t = tables t.map t.free x t.used t.lists t.lens t.queue t.flags t.alloc t.queued

abbrev pub set_used : List ℕ → Tables → Tables
set_used x t = tables t.map t.free t.valid x t.lists t.lens t.queue t.flags t.alloc t.queued

abbrev pub set_lists : List ℕ → Tables → Tables
set_lists x t = tables t.map t.free t.valid t.used x t.lens t.queue t.flags t.alloc t.queued

abbrev pub set_lens : List ℕ → Tables → Tables
set_lens x t = tables t.map t.free t.valid t.used t.lists x t.queue t.flags t.alloc t.queued

abbrev pub set_queue : List ℕ → Tables → Tables
set_queue x t = tables t.map t.free t.valid t.used t.lists t.lens x t.flags t.alloc t.queued

abbrev pub set_flags : List ℕ → Tables → Tables
set_flags x t = tables t.map t.free t.valid t.used t.lists t.lens t.queue x t.alloc t.queued

abbrev pub set_alloc : ℕ → Tables → Tables
set_alloc x t = tables t.map t.free t.valid t.used t.lists t.lens t.queue t.flags x t.queued

abbrev pub set_queued : ℕ → Tables → Tables
set_queued x t = tables t.map t.free t.valid t.used t.lists t.lens t.queue t.flags t.alloc x

-- what stands at place g of a table, and the map's word of a logical page; past the end 0, and the empty word
abbrev pub at : List ℕ → ℕ → ℕ
at xs g = get_or xs g 0

abbrev pub word_of : Tables → ℕ → ℕ
word_of t l = get_or t.map l empty

-- the queued segments, front first
abbrev pub queue_of : Tables → List ℕ
queue_of t = take t.queued t.queue

-- k words from a on
abbrev pub region : ℕ → ℕ → List ℕ → List ℕ
region a k t = take k (drop a t)

module _ (G : Geometry) where
  -- the logical pages listed in segment g, in order
  abbrev pub list_of : Tables → ℕ → List ℕ
  list_of t g = take (at t.lens g) (slot G.p g t.lists)

  -- where each region of the words starts; the map is at 0
  abbrev pub o_free : ℕ
  o_free = G.e

  abbrev pub o_valid : ℕ
  o_valid = G.e + G.n

  abbrev pub o_lens : ℕ
  o_lens = G.e + G.n * 2

  abbrev pub o_queue : ℕ
  o_queue = G.e + G.n * 3

  abbrev pub o_flags : ℕ
  o_flags = G.e + G.n * 4

  abbrev pub o_alloc : ℕ
  o_alloc = G.e + G.n * 5

  abbrev pub o_queued : ℕ
  o_queued = G.e + G.n * 5 + 1

  abbrev pub o_lists : ℕ
  o_lists = G.e + G.n * 5 + 2

  -- how many words are lent, and how many use marks
  abbrev pub tab_words : ℕ
  tab_words = o_lists + G.n * G.p

  abbrev pub pages : ℕ
  pages = G.n * G.p

  -- each part has the size that the geometry gives it
  pub record Sized (t : Tables) : Type 0 where
    pub map : length t.map ≡ G.e
    pub free : length t.free ≡ G.n
    pub valid : length t.valid ≡ G.n
    pub used : length t.used ≡ G.n * G.p
    pub lists : length t.lists ≡ G.n * G.p
    pub lens : length t.lens ≡ G.n
    pub queue : length t.queue ≡ G.n
    pub flags : length t.flags ≡ G.n

  -- the tables that lie in the words w and the use marks u
  unfoldable pub view : List ℕ → List ℕ → Tables
  view w u =
      tables
      (region 0 G.e w)
      (region o_free G.n w)
      (region o_valid G.n w)
      u
      (region o_lists pages w)
      (region o_lens G.n w)
      (region o_queue G.n w)
      (region o_flags G.n w)
      (at w o_alloc)
      (at w o_queued)

-- and the words that tables lie in
unfoldable pub packed : Tables → List ℕ
packed t = t.map ++ (t.free ++ (t.valid ++ (t.lens ++ (t.queue ++ (t.flags ++ (t.alloc ∷ (t.queued ∷ t.lists)))))))

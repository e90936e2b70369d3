-- Document 01, step 6 and "Checkpoint": opening, the file's bytes, the nine reasons, and what restoring makes of a file; 02, M-109: what it then queues.
use Rattle.std.specs.Prelude.{ℕ, zero, suc, ◌+◌, ◌*◌, ◌-◌, ◌/◌, ◌%◌, Bool, cond, ◌&&◌, List, [], ◌∷◌, ◌++◌, ltb, leb, eqb, length, take, drop, set, replicate}
use Rattle.crc32.specs.Crc32.{crc32}
use Rattle.model.specs.Lists.{occ, up_to, first_not}
use Rattle.model.specs.Numbers.{Geometry, empty, seg_of, page_of}
use Rattle.model.specs.Tables.{Tables, tables, at, set_valid, set_queue, set_flags, set_queued, pages}
pub use Rattle.model.specs.declared.Queueing.{Queueing}
pub use Rattle.model.specs.declared.Queueing.TheVariants.{Empty, Dead}
use Rattle.model.specs.PageMap.{place}

-- use marks by the free counts: "Used pages of a segment are its first ones"
unfoldable pub used_by : ℕ → List ℕ → List ℕ
used_by p [] = []
used_by p (x ∷ xs) = (replicate (p - x) 1 ++ replicate x 0) ++ used_by p xs

-- the four bytes of a word, and the eight of a long one: "Little-endian"
unfoldable pub word : ℕ → List ℕ
word x = x % 256 ∷ x / 256 % 256 ∷ x / 65536 % 256 ∷ x / 16777216 % 256 ∷ []

unfoldable pub long : ℕ → List ℕ
long x = word (x % 4294967296) ++ word (x / 4294967296)

unfoldable pub words : List ℕ → List ℕ
words [] = []
words (x ∷ xs) = word x ++ words xs

-- the word and the long word at byte i, and k words from there on
unfoldable pub word_at : List ℕ → ℕ → ℕ
word_at s i = at s i + at s (i + 1) * 256 + at s (i + 2) * 65536 + at s (i + 3) * 16777216

unfoldable pub long_at : List ℕ → ℕ → ℕ
long_at s i = word_at s i + word_at s (i + 4) * 4294967296

unfoldable pub words_at : ℕ → List ℕ → ℕ → List ℕ
words_at zero s i = []
words_at (suc k) s i = word_at s i ∷ words_at k s (i + 4)

abbrev pub magic : ℕ
magic = 0x50465443

abbrev pub version : ℕ
version = 1

-- t with the queue and the flags of t'
abbrev pub with_queue : Tables → Tables → Tables
with_queue t' t = set_queue t'.queue (set_queued t'.queued (set_flags t'.flags t))

module _ (G : Geometry) where
  -- nothing mapped, these free counts and this allocation segment
  abbrev pub bare : List ℕ → ℕ → Tables
  bare free alloc =
      tables
      (replicate G.e empty)
      free
      (replicate G.n 0)
      (used_by G.p free)
      (replicate (pages G) 0)
      (replicate G.n 0)
      (replicate G.n 0)
      (replicate G.n 0)
      alloc
      0

  -- "empties map, lists and queue, clears marks and flags, valid 0, free p; an allocation segment >= n becomes 0"
  abbrev pub opened : ℕ → Tables
  opened alloc = bare (replicate G.n G.p) (cond (ltb alloc G.n) alloc 0)

  -- "Fresh: opened from zeroed tables."
  abbrev pub fresh : Tables
  fresh = opened 0

  -- "word 0x50465443, word 1, then 8-byte allocation segment, n, p, e": bytes 0 to 39
  unfoldable pub head : ℕ → List ℕ
  head alloc = word magic ++ word version ++ long alloc ++ long G.n ++ long G.p ++ long G.e

  -- "CRC at byte 40; from byte 44, e map words, then n free counts. The CRC covers bytes 0 to 39 joined with all from 44."
  unfoldable pub file : ℕ → List ℕ → List ℕ
  file alloc body = (head alloc ++ word (crc32 (head alloc ++ words body))) ++ words body

  abbrev pub sealed : Tables → List ℕ
  sealed t = file t.alloc (t.map ++ t.free)

  -- "Length 44 + 4e + 4n"
  abbrev pub file_size : ℕ
  file_size = 44 + 4 * G.e + 4 * G.n

  -- what a file says
  abbrev pub alloc_of : List ℕ → ℕ
  alloc_of b = long_at b 8

  abbrev pub map_of : List ℕ → List ℕ
  map_of b = words_at G.e b 44

  abbrev pub free_of : List ℕ → List ℕ
  free_of b = words_at G.n b (44 + 4 * G.e)

  -- "1 under 44 bytes; 2 magic; 3 version; 4 n or p; 5 e; 6 length not exact; 7 CRC; 8 allocation segment >= n; 9 a free count above p"
  abbrev pub file_tests : List ℕ → List Bool
  file_tests b =
      leb 44 (length b)
      ∷ eqb (word_at b 0) magic
      ∷ eqb (word_at b 4) version
      ∷ (eqb (long_at b 16) G.n && eqb (long_at b 24) G.p)
      ∷ eqb (long_at b 32) G.e
      ∷ eqb (length b) file_size
      ∷ eqb (word_at b 40) (crc32 (take 40 b ++ drop 44 b))
      ∷ ltb (alloc_of b) G.n
      ∷ up_to G.p (free_of b)
      ∷ []

  -- 0, or the first of the reasons
  unfoldable pub reason_of : List ℕ → ℕ
  reason_of b = first_not 1 (file_tests b)

  -- "an entry whose segment is >= n, whose page is not among the used ones, or whose word was already taken becomes empty"
  unfoldable pub welcome : ℕ → Tables → Bool
  welcome a t = ltb (seg_of G a) G.n && (ltb (page_of G a + at t.free (seg_of G a)) G.p && eqb (occ a t.map) 0)

  -- logical page l goes to its page, at the end of that segment's list: "valid = list length"
  abbrev pub settle : ℕ → ℕ → Tables → Tables
  settle l a t = place G l (seg_of G a) (page_of G a) (set_valid (set t.valid (seg_of G a) (at t.valid (seg_of G a) + 1)) t)

  -- "from logical page 0 upward": the words of logical pages l, l + 1, .. "Lists are ascending"
  unfoldable pub settle_all : ℕ → List ℕ → Tables → Tables
  settle_all l [] t = t
  settle_all l (a ∷ ws) t = settle_all (suc l) ws (cond (welcome a t) (settle l a t) t)

  -- "queue empty, flags clear"; free counts and allocation segment are the file's
  unfoldable pub restored : List ℕ → List ℕ → ℕ → Tables
  restored words free alloc = settle_all 0 words (bare free alloc)

  abbrev pub restored_from : List ℕ → Tables
  restored_from b = restored (map_of b) (free_of b) (alloc_of b)

  -- 02, M-109: "each segment with free count 0 and a list shorter than p"
  abbrev pub dead? : ℕ → Tables → Bool
  dead? g t = eqb (at t.free g) 0 && ltb (at t.lens g) G.p

  -- segment g behind those that are queued, its flag set
  abbrev pub queue_last : ℕ → Tables → Tables
  queue_last g t = set_queue (set t.queue t.queued g) (set_queued (t.queued + 1) (set_flags (set t.flags g 1) t))

  -- "… on the queue, ascending, flags set": of k segments from g up
  unfoldable pub queue_dead : ℕ → ℕ → Tables → Tables
  queue_dead zero g t = t
  queue_dead (suc k) g t = queue_dead k (suc g) (cond (dead? g t) (queue_last g t) t)

  -- the same segments as a list, for the theorems: of k segments from g up
  unfoldable pub dead_ones : ℕ → ℕ → Tables → List ℕ
  dead_ones zero g t = []
  dead_ones (suc k) g t = cond (dead? g t) (g ∷ dead_ones k (suc g) t) (dead_ones k (suc g) t)

  -- "The old empty queue remains under a named choice."
  abbrev pub requeued : Queueing → Tables → Tables
  requeued Empty t = t
  requeued Dead t = queue_dead G.n 0 t

  abbrev pub restored_by : Queueing → List ℕ → Tables
  restored_by q b = requeued q (restored_from b)

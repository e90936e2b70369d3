-- What the inner calls ask, and what they answer and leave: G is the geometry, t and t' the tables before and after, d and d' what else is lent.
use Rattle.std.specs.Prelude.{ℕ, ◌+◌, ◌*◌, ◌≤◌, ◌<◌, ◌≡◌, List, [], ◌∷◌, length, Ok}
use Rattle.model.specs.Lists.{zeros}
use Rattle.model.specs.declared.Geometry.{Geometry}
use Rattle.model.specs.Numbers.{Answer, Good}
use Rattle.model.specs.Tables.{Tables, pages}
use Rattle.model.specs.Sound.{Sound}
use Rattle.model.specs.Device.{Flash, flash, State, state, Out}
use Rattle.model.specs.Contract.{Done}
use Rattle.model.specs.Entry.{Lent, lent, recorder}
use Rattle.model.specs.PageWrite.{write_page}
use Rattle.model.specs.PageGc.{collect, collect_more, collect_threshold}
use Rattle.model.specs.Checkpoint.{opened, reason_of, restored_by}
use Rattle.ftl.specs.declared.calls.Restoring.{Restoring}
use Rattle.ftl.specs.declared.calls.Writing.{Writing}
use Rattle.ftl.specs.declared.calls.Passes.{Passes}
use Rattle.ftl.specs.declared.calls.Passes.TheVariants as passes
use Rattle.ftl.specs.declared.calls.Collecting.{Collecting}

pub record Opened (G : Geometry) (t : Tables) (r : Answer) (t' : Tables) : Type 0 where
  pub answer : r ≡ Ok 0
  pub left : t' ≡ opened G t.alloc

pub record MayRestore (G : Geometry) (d : Restoring) : Type 0 where
  pub taken : d.taken.now ≡ zeros (pages G)
  pub passes : reason_of G d.file.now ≡ 0

pub record Restored (G : Geometry) (d : Restoring) (r : Answer) (t' : Tables) (d' : Restoring) : Type 0 where
  pub place : d'.taken.ghost_name ≡ d.taken.ghost_name
  pub answer : r ≡ Ok 0
  pub left : t' ≡ restored_by G d.queueing d.file.now
  pub clean : d'.taken.now ≡ zeros (pages G)

-- the flash that a write is lent, with these erase counts, and that of a collection
abbrev pub flash_in : Writing → List ℕ → Flash
flash_in d c = flash d.bytes.now d.marks.now c d.fuse.now

abbrev pub flash_with : Collecting → Flash
flash_with d = flash d.bytes.now d.marks.now d.counts.now d.fuse.now

-- all that a collection is lent, with the words w and the use marks u
abbrev pub lent_with : Collecting → (w u seen : List ℕ) → Lent
lent_with d w u seen = lent (recorder w u (flash_with d)) [] (d.page.now ∷ seen ∷ d.order.now ∷ [])

pub record MayWrite (G : Geometry) (t : Tables) (d : Writing) : Type 0 where
  pub good : Good G
  pub bytes_len : length d.bytes.now ≡ pages G * G.s
  pub marks_len : length d.marks.now ≡ pages G
  pub sound : Sound G t
  pub bad_len : length d.bad.now ≡ G.n
  pub page : d.page.now ≡ zeros G.s
  pub inside : d.l.0 < G.e
  pub within : d.off + length d.xs.now ≤ G.s

pub record Written (G : Geometry) (t : Tables) (d : Writing) (r : Answer) (t' : Tables) (d' : Writing) : Type 0 where
  pub bytes : d'.bytes.ghost_name ≡ d.bytes.ghost_name
  pub marks : d'.marks.ghost_name ≡ d.marks.ghost_name
  pub fuse : d'.fuse.ghost_name ≡ d.fuse.ghost_name
  pub page : d'.page.ghost_name ≡ d.page.ghost_name
  pub done : (c : List ℕ) → Done (write_page G d.bad.now d.l.0 d.off d.xs.now (state t (flash_in d c))) r (state t' (flash_in d' c))
  pub clean : d'.page.now ≡ zeros G.s

pub record MayCollect (G : Geometry) (t : Tables) (d : Collecting) : Type 0 where
  pub good : Good G
  pub bytes_len : length d.bytes.now ≡ pages G * G.s
  pub marks_len : length d.marks.now ≡ pages G
  pub sound : Sound G t
  pub bad_len : length d.bad.now ≡ G.n
  pub counts_len : length d.counts.now ≡ G.n
  pub page : d.page.now ≡ zeros G.s
  pub order : d.order.now ≡ zeros G.n

-- the call of these passes
abbrev pub passes_of : Geometry → List ℕ → Passes → State → Out
passes_of G bad passes.One st = collect G bad st
passes_of G bad (passes.List m) st = collect_more G bad m 0 st
passes_of G bad (passes.Threshold threshold m) st = collect_threshold G bad threshold m st

-- what is lent through a deed stays the caller's
pub record Same (d d' : Collecting) : Type 0 where
  pub bytes : d'.bytes.ghost_name ≡ d.bytes.ghost_name
  pub marks : d'.marks.ghost_name ≡ d.marks.ghost_name
  pub fuse : d'.fuse.ghost_name ≡ d.fuse.ghost_name
  pub counts : d'.counts.ghost_name ≡ d.counts.ghost_name
  pub page : d'.page.ghost_name ≡ d.page.ghost_name
  pub order : d'.order.ghost_name ≡ d.order.ghost_name

pub record Collected (G : Geometry) (t : Tables) (d : Collecting) (r : Answer) (t' : Tables) (d' : Collecting) : Type 0 where
  pub same : Same d d'
  pub done : Done (passes_of G d.bad.now d.passes (state t (flash_with d))) r (state t' (flash_with d'))
  pub page_clean : d'.page.now ≡ zeros G.s
  pub order_clean : d'.order.now ≡ zeros G.n

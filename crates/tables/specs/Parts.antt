-- The tables that are lent part by part, and those that lie in words and are lent to look at, as tables.
use Rattle.std.specs.Prelude.{ℕ, ◌≡◌, List, length}
use Rattle.model.specs.Tables.{Tables, tables, view, pages, set_used}
use Rattle.model.specs.Sound.{Sound}
use Rattle.tables.specs.declared.TablesMut.{TablesMut}
use Rattle.tables.specs.declared.TablesRef.{TablesRef}

abbrev pub tables_of : TablesMut → Tables
tables_of t =
    tables t.map.now t.free.now t.valid.now t.used.now t.lists.now t.lens.now t.queue.now t.flags.now t.alloc.now t.queued.now

abbrev pub tables_in : TablesRef → Tables
tables_in w = view w.geo w.tab.now w.used.now

-- Sound, the use marks that are lent aside: with some marks in their place, one for each page. For calls that read no marks.
pub record SoundMarksAside (t : TablesMut) : Type 0 where
  pub marks : List ℕ
  pub size : length marks ≡ pages t.geo
  pub sound : Sound t.geo (set_used marks (tables_of t))

-- With any use marks in the place of those that are lent, b is what f makes of a. A step on words alone promises it beside what it does to those lent.
abbrev pub WithAnyMarks : (Tables → Tables) → TablesMut → TablesMut → Type 0
WithAnyMarks f a b = (u : List ℕ) → set_used u (tables_of b) ≡ f (set_used u (tables_of a))

-- the geometry and the places lent are the same: what a call leaves lies where it was lent
pub record Same (a b : TablesMut) : Type 0 where
  pub geo : b.geo ≡ a.geo
  pub map : b.map.ghost_name ≡ a.map.ghost_name
  pub free : b.free.ghost_name ≡ a.free.ghost_name
  pub valid : b.valid.ghost_name ≡ a.valid.ghost_name
  pub lens : b.lens.ghost_name ≡ a.lens.ghost_name
  pub queue : b.queue.ghost_name ≡ a.queue.ghost_name
  pub flags : b.flags.ghost_name ≡ a.flags.ghost_name
  pub alloc : b.alloc.ghost_name ≡ a.alloc.ghost_name
  pub queued : b.queued.ghost_name ≡ a.queued.ghost_name
  pub lists : b.lists.ghost_name ≡ a.lists.ghost_name
  pub used : b.used.ghost_name ≡ a.used.ghost_name

-- How an inner function promises what a definition says; and what the bench's inner calls ask of their callers.
use Rattle.std.specs.Prelude.{ℕ, ◌*◌, ◌≡◌, List, length}
use Rattle.model.specs.Lists.{zeros}
use Rattle.model.specs.Numbers.{Geometry, Good, Answer}
use Rattle.model.specs.Tables.{pages}
use Rattle.model.specs.Sound.{SoundTables}
use Rattle.model.specs.Device.{Flash, State, Out}

-- a good geometry, and sound tables in the words w and the use marks u
pub record Held (G : Geometry) (w u : List ℕ) : Type 0 where
  pub good : Good G
  pub tables : SoundTables G w u

-- flash of the right size
pub record Fit (G : Geometry) (f : Flash) : Type 0 where
  pub bytes : length f.bytes ≡ pages G * G.s
  pub marks : length f.marks ≡ pages G
  pub counts : length f.counts ≡ G.n

-- what a write needs beside sound tables: bytes and marks of the flash, the bad list, and clean scratch for a page
pub record Ready (G : Geometry) (bad page bytes marks : List ℕ) : Type 0 where
  pub bytes_size : length bytes ≡ pages G * G.s
  pub marks_size : length marks ≡ pages G
  pub bad_size : length bad ≡ G.n
  pub page_clean : page ≡ zeros (G.s)

-- a call answered r and left st as the outcome o says
pub record Done (o : Out) (r : Answer) (st : State) : Type 0 where
  pub answer : r ≡ o.answer
  pub left : st ≡ o.st

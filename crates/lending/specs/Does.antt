-- How a call with scratch of its own promises what the definition of an entry says of the rest.
use Rattle.std.specs.Prelude.{ℕ, ◌≤◌, ◌≡◌, List}
use Rattle.model.specs.declared.Geometry.{Geometry}
use Rattle.model.specs.Numbers.{Answer}
use Rattle.model.specs.Tables.{pages}
use Rattle.model.specs.Entry.{Recorder, Outcome}

-- the scratch that the calls here have at hand is enough
pub record Small (G : Geometry) : Type 0 where
  pub n≤ : G.n ≤ 1024
  pub p≤ : G.p ≤ 1024
  pub s≤ : G.s ≤ 512
  pub pages≤ : pages G ≤ 1024

-- a call answered a and left the recorder u and the buffer b as the outcome o says
pub record Does (o : Outcome) (u : Recorder) (b : List ℕ) (a : Answer) : Type 0 where
  pub unit_is : u ≡ o.left.unit
  pub buffer_is : b ≡ o.left.buffer
  pub answer_is : a ≡ o.answer

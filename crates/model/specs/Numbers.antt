-- Document 01, "Geometry and numbers"; 02, M-101, its numbers.
use Rattle.std.specs.Prelude.{Result, ℕ, zero, suc, ◌+◌, ◌*◌, ◌^◌, ◌/◌, ◌%◌, ◌≤◌, Bool, cond, List, [], ◌∷◌, leb, eqb, ℤ, pos, negsuc}
use Rattle.model.specs.Lists.{every}
pub use Rattle.model.specs.declared.Geometry.{Geometry}
pub use Rattle.model.specs.declared.Numbers.{Numbers}
pub use Rattle.model.specs.declared.Numbers.TheVariants.{Old, New}
pub use Rattle.model.specs.declared.Cause.{Cause}
pub use Rattle.model.specs.declared.Cause.TheVariants.{Wrong, Unsound, Unmapped, NoRoom, Device, CopyNoRoom, CopyDevice, Erase, Reason}
pub use Rattle.std.specs.Prelude.{Ok, Err}

-- what a call answers: bytes moved or passes counted, or a refusal
abbrev pub Answer : Type 0
Answer = Result ℕ Cause

abbrev pub geometry : (n p s w e limit : ℕ) → Geometry
geometry n p s w e limit = record { n = n; p = p; s = s; w = w; e = e; limit = limit }

-- "n segments (1 to 65,535), p pages in each (1 to 1,024), page size s (1 to 16,384), address width w (0 to 16, with p at most 2^w),
-- e map entries (1 to n·p), erase limit (0 to 2^32-1)."
pub record Good (G : Geometry) : Type 0 where
  pub n≥ : 1 ≤ G.n
  pub n≤ : G.n ≤ 65535
  pub p≥ : 1 ≤ G.p
  pub p≤ : G.p ≤ 1024
  pub s≥ : 1 ≤ G.s
  pub s≤ : G.s ≤ 16384
  pub w≤ : G.w ≤ 16
  pub narrow : G.p ≤ 2 ^ G.w
  pub e≥ : 1 ≤ G.e
  pub e≤ : G.e ≤ G.n * G.p
  pub limit≤ : G.limit ≤ 4294967295

-- the test for it
abbrev pub good_tests : Geometry → List Bool
good_tests G =
    leb 1 G.n
    ∷ leb G.n 65535
    ∷ leb 1 G.p
    ∷ leb G.p 1024
    ∷ leb 1 G.s
    ∷ leb G.s 16384
    ∷ leb G.w 16
    ∷ leb G.p (2 ^ G.w)
    ∷ leb 1 G.e
    ∷ leb G.e (G.n * G.p)
    ∷ leb G.limit 4294967295
    ∷ []

unfoldable pub good? : Geometry → Bool
good? G = every (good_tests G)

-- "The empty word is 2^32-1, above every address."
abbrev pub empty : ℕ
empty = 4294967295

-- "the operations it still does, 2^64-1 meaning without end"
abbrev pub endless : ℕ
endless = 18446744073709551615

module _ (G : Geometry) where
  -- "The address of page k of segment g is g·2^w + k."
  abbrev pub addr : ℕ → ℕ → ℕ
  addr g k = g * 2 ^ G.w + k

  abbrev pub seg_of : ℕ → ℕ
  seg_of a = a / 2 ^ G.w

  abbrev pub page_of : ℕ → ℕ
  page_of a = a % 2 ^ G.w

  -- the place of an address among all pages, segment by segment
  abbrev pub flat : ℕ → ℕ
  flat a = seg_of a * G.p + page_of a

  -- "A sector is a byte position: logical page = sector / s, offset = sector mod s."
  abbrev pub logical_page : ℕ → ℕ
  logical_page sector = sector / G.s

  abbrev pub offset : ℕ → ℕ
  offset sector = sector % G.s

-- 02, M-101: "The old numbers stay under a named old choice"
abbrev pub chosen : Numbers → (old new : ℕ) → ℕ
chosen Old old new = old
chosen New old new = new

-- The numbers of the table in "What a call answers", and the reasons of "Checkpoint". 02, M-101: "A write without room gets 28; a collection says
-- whether a copy failed for room (28) or at the device (121)."
abbrev pub refusal : Numbers → Cause → ℕ
refusal N Wrong = 22
refusal N Unsound = 117
refusal N Unmapped = 61
refusal N NoRoom = chosen N 14 28
refusal N Device = 5
refusal N CopyNoRoom = chosen N 14 28
refusal N CopyDevice = chosen N 14 121
refusal N Erase = 5
refusal N (Reason r) = r

-- "Each call answers one signed number: bytes moved, or a refusal number negated." (-0 is 0)
abbrev pub negated : ℕ → ℤ
negated zero = pos 0
negated (suc r) = negsuc r

abbrev pub number : Numbers → Answer → ℤ
number N (Ok m) = pos m
number N (Err c) = negated (refusal N c)

-- "after 28 and 121 are read as 14"
abbrev pub as_old : ℤ → ℤ
as_old (pos m) = pos m
as_old (negsuc k) = cond (eqb k 27) (negsuc 13) (cond (eqb k 120) (negsuc 13) (negsuc k))

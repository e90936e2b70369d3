-- What a loop that marks has found of the entries that it passed.
use Prim.Native.Nat.{ℕ, ◌≤◌, ◌<◌, ◌+◌, ◌-◌}
use mathlib.Core.Path.{◌≡◌}
use mathlib.Core.List.{List}
use lib.ListN.{length}
use Rattle.model.specs.Tables.{at}

-- the page that entry j names, counted from `first`
abbrev pub page_key : List ℕ → List ℕ → ℕ → ℕ → ℕ
page_key list map first j = at map (at list j) - first

-- entry j is a logical page with the address of a used page
abbrev pub Entry : List ℕ → List ℕ → ℕ → ℕ → ℕ → Type 0
Entry list map first u j = (at list j < length map) × (first ≤ at map (at list j)) × (at map (at list j) < first + u)

-- entry j is a segment with free count 0 and its flag set
abbrev pub Full : List ℕ → List ℕ → List ℕ → ℕ → Type 0
Full queue free flags j = (at queue j < length free) × (at free (at queue j) ≡ 0) × (at flags (at queue j) ≡ 1)

-- What a public call is given, and what its tests ask of it, in 01's order: "geometry and sizes, soundness, logical page, page overrun".
use Rattle.std.specs.Prelude.{ℕ, ◌+◌, ◌*◌, ◌≤◌, ◌<◌, ◌≡◌, List, [], ◌∷◌, map, length}
use Rattle.model.specs.declared.Geometry.{Geometry}
use Rattle.model.specs.Lists.{zeros}
use Rattle.model.specs.Numbers.{Good, logical_page, offset}
use Rattle.model.specs.Tables.{Tables, tab_words, pages, view}
use Rattle.model.specs.Sound.{Sound}
use Rattle.model.specs.Device.{State, state}
use Rattle.model.specs.Checkpoint.{file_size}
use Rattle.model.specs.Entry.{Recorder, Lent, lent, page_scratch, seen_scratch}
use Rattle.model.specs.History.{Call, Format, Open, Read, Write, Collect, CollectList, CollectThreshold, Encode, Restore}
use Rattle.model.specs.Contract.{Fit}

-- A exactly when B
pub record Exactly (A B : Type 0) : Type 0 where
  pub only : A → B
  pub whenever : B → A

-- tables of a recorder; tables and flash
abbrev pub tab : Geometry → Recorder → Tables
tab G r = view G r.words r.used

abbrev pub state_in : Geometry → Recorder → State
state_in G r = state (tab G r) r.flash

-- the whole recorder, and the buffer and scratch lent to the call
abbrev pub lent_to : Call → Recorder → Lent
lent_to Format r = lent r [] []
lent_to Open r = lent r [] []
lent_to (Read sector len o s) r = lent r o s
lent_to (Write sector len d s) r = lent r [] s
lent_to (Collect s) r = lent r [] s
lent_to (CollectList m s) r = lent r [] s
lent_to (CollectThreshold t m s) r = lent r [] s
lent_to (Encode b s) r = lent r b s
lent_to (Restore q b s) r = lent r [] s

-- tables of the right size: e + 5n + 2 + n·p words, n·p use marks
pub record TablesFit (G : Geometry) (r : Recorder) : Type 0 where
  pub words : length r.words ≡ tab_words G
  pub used : length r.used ≡ pages G

-- scratch of these sizes. "Lent scratch not all zero is a wrong lent size"
abbrev pub Zeroed : List ℕ → List (List ℕ) → Type 0
Zeroed sizes s = s ≡ map zeros sizes

-- geometry, tables, flash, bad list and scratch are right: what a write and the collections ask
pub record AllFits (G : Geometry) (bad sizes : List ℕ) (s : List (List ℕ)) (r : Recorder) : Type 0 where
  pub geometry : Good G
  pub tables : TablesFit G r
  pub flash : Fit G r.flash
  pub bad_list : length bad ≡ G.n
  pub scratch : Zeroed sizes s

module _ (G : Geometry) where
  -- "geometry and sizes"
  module _ (bad : List ℕ) where
    abbrev pub SizesRight : Call → Recorder → Type 0
    SizesRight Format r = Good G × Fit G r.flash
    SizesRight Open r = Good G × TablesFit G r
    SizesRight (Read sector len o s) r =
        Good G × TablesFit G r × (length r.flash.bytes ≡ pages G * G.s) × (len ≤ length o) × Zeroed (seen_scratch G ∷ []) s
    SizesRight (Write sector len d s) r = AllFits G bad (page_scratch G ∷ seen_scratch G ∷ []) s r × (len ≤ length d)
    SizesRight (Collect s) r = AllFits G bad (page_scratch G ∷ seen_scratch G ∷ G.n ∷ []) s r
    SizesRight (CollectList m s) r = AllFits G bad (page_scratch G ∷ seen_scratch G ∷ G.n ∷ []) s r
    SizesRight (CollectThreshold t m s) r = AllFits G bad (page_scratch G ∷ seen_scratch G ∷ G.n ∷ []) s r
    SizesRight (Encode b s) r = Good G × TablesFit G r × (file_size G ≤ length b) × Zeroed (seen_scratch G ∷ []) s
    SizesRight (Restore q b s) r = Good G × TablesFit G r × Zeroed (pages G ∷ []) s

  -- "soundness": formatting, opening and restoring do not test it
  abbrev pub TablesSound : Call → Recorder → Type 0
  TablesSound Format r = Unit {0}
  TablesSound Open r = Unit {0}
  TablesSound (Restore q b s) r = Unit {0}
  TablesSound (Read sector len o s) r = Sound G (tab G r)
  TablesSound (Write sector len d s) r = Sound G (tab G r)
  TablesSound (Collect s) r = Sound G (tab G r)
  TablesSound (CollectList m s) r = Sound G (tab G r)
  TablesSound (CollectThreshold t m s) r = Sound G (tab G r)
  TablesSound (Encode b s) r = Sound G (tab G r)

  -- "logical page, page overrun"
  abbrev pub Within : Call → Type 0
  Within (Read sector len o s) = (logical_page G sector < G.e) × (offset G sector + len ≤ G.s)
  Within (Write sector len d s) = (logical_page G sector < G.e) × (offset G sector + len ≤ G.s)
  Within Format = Unit {0}
  Within Open = Unit {0}
  Within (Collect s) = Unit {0}
  Within (CollectList m s) = Unit {0}
  Within (CollectThreshold t m s) = Unit {0}
  Within (Encode b s) = Unit {0}
  Within (Restore q b s) = Unit {0}

-- every test passed
pub record Passed (G : Geometry) (bad : List ℕ) (c : Call) (r : Recorder) : Type 0 where
  pub sizes_right : SizesRight G bad c r
  pub sound : TablesSound G c r
  pub within : Within G c

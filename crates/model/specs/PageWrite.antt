-- Document 01, steps 3 and 4: what a logical page holds, and the inner write.
use Rattle.std.specs.Prelude.{ℕ, cond, List, [], ◌∷◌, eqb, length, replicate}
use Rattle.model.specs.Lists.{splice}
use Rattle.model.specs.Numbers.{Geometry, Ok, NoRoom, Device, empty}
use Rattle.model.specs.Tables.{word_of}
use Rattle.model.specs.Device.{State, state, Out, out, Program, page_at, may_program, programmed, refuse}
use Rattle.model.specs.PageMap.{Found, Some, None, find, spend, forget, place}

-- what a logical page holds
pub data Content : Type 0 where
  nothing : Content
  holds : List ℕ → Content

module _ (G : Geometry) where
  -- the page that l's word names, whole
  abbrev pub whole : State → ℕ → List ℕ
  whole st l = page_at G st.flash (word_of st.tab l)

  unfoldable pub content : State → ℕ → Content
  content st l = cond (eqb (word_of st.tab l) empty) nothing (holds (whole st l))

  -- "build s zero bytes, or the old page where mapped"
  unfoldable pub old_page : State → ℕ → List ℕ
  old_page st l = cond (eqb (word_of st.tab l) empty) (replicate G.s 0) (whole st l)

  -- page k of segment g programmed: "then, if mapped, invalidate .. Then append to the new segment's list and set the map. Answer the caller's length."
  abbrev pub stored : ℕ → ℕ → ℕ → ℕ → List ℕ → State → Out
  stored l len g k page st =
      out
      (state (place G l g k (forget G l (spend G g k st.tab))) (programmed G g k page st.flash))
      (Ok len)
      (Program g k page ∷ [])

  -- "the page found is spent: used, free -1, valid +1, allocation segment set; map, lists, queue, flash unchanged"
  abbrev pub spent : ℕ → ℕ → State → Out
  spent g k st = refuse Device (state (spend G g k st.tab) st.flash)

  unfoldable pub write_at : Found → ℕ → ℕ → List ℕ → State → Out
  write_at None l off d st = refuse NoRoom st
  write_at (Some x) l off d st =
      cond
      (may_program G x.segment x.page st.flash)
      (stored l (length d) x.segment x.page (splice off d (old_page st l)) st)
      (spent x.segment x.page st)

  -- "find a page; build .. ; lay the caller's bytes in; program": the bytes d at offset off of logical page l
  unfoldable pub write_page : List ℕ → ℕ → ℕ → List ℕ → State → Out
  write_page bad l off d st = write_at (find G bad st.tab) l off d st

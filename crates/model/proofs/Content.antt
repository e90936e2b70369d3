-- What a logical page holds after a page was programmed or a segment erased elsewhere.
use Prim.Native.Nat.{ℕ, ◌+◌, ◌*◌, ◌≤◌, ◌<◌}
use native.Mathlib.Nat.{mul_assoc}
use mathlib.Core.Path.{◌≡◌, sym, ap, ◌∙◌}
use mathlib.Core.Logic.{◌⊎◌, inl, inr, ◌≢◌}
use mathlib.Core.List.{List}
use lib.ListN.{length, set, replicate, length-set, length-replicate}
use borrow.Author.Tests.{eq-eqb, ne_eqb}
use Rattle.model.specs.Lists.{on_slot, slot, splice, zeros}
use Rattle.model.specs.Numbers.{Geometry, empty}
use Rattle.model.specs.Tables.{word_of}
use Rattle.model.specs.Sound.{Mapped}
use Rattle.model.specs.Device.{Flash, flash, State, burn, blanked, page_at, programmed}
use Rattle.model.specs.PageWrite.{nothing, holds, whole, content, old_page}
use Rattle.model.specs.Contract.{Fit}
use Rattle.model.proofs.Slots.{same?, part_fits, below_part, slot-length, on_slot-length}
use Rattle.model.proofs.Slots.{on_slot_same, on_slot_other, slot-slot, length-splice, whole-splice}

module _ (G : Geometry) where
  -- a page that is not mapped, and one that is
  pub content-empty : (st : State) (l : ℕ) → word_of st.tab l ≡ empty → content G st l ≡ nothing
  unfolding content
  content-empty st l e = rw (eq-eqb _ _ e)

  pub content_mapped : (st : State) (l : ℕ) → Mapped st.tab l → content G st l ≡ holds (whole G st l)
  unfolding content
  content_mapped st l h = rw (ne_eqb _ _ h)

  pub old_empty : (st : State) (l : ℕ) → word_of st.tab l ≡ empty → old_page G st l ≡ zeros G.s
  unfolding old_page
  old_empty st l e = rw (eq-eqb _ _ e)

  pub old_mapped : (st : State) (l : ℕ) → Mapped st.tab l → old_page G st l ≡ whole G st l
  unfolding old_page
  old_mapped st l h = rw (ne_eqb _ _ h)

  -- the same word in the map, and the same bytes there
  pub content_same : (st st' : State) (l : ℕ) → word_of st'.tab l ≡ word_of st.tab l
      → (Mapped st.tab l → page_at G st'.flash (word_of st.tab l) ≡ page_at G st.flash (word_of st.tab l))
      → content G st' l ≡ content G st l
  content_same st st' l e h = go (same? (word_of st.tab l) empty)
    where
      go : (word_of st.tab l ≡ empty) ⊎ Mapped st.tab l → content G st' l ≡ content G st l
      go (inl z) = content-empty st' l (e ∙ z) ∙ sym (content-empty st l z)
      go (inr n) =
          content_mapped st' l (λ q. n (sym e ∙ q)) ∙ ap holds (ap (page_at G st'.flash) e ∙ h n) ∙ sym (content_mapped st l n)

  -- bytes of page g k within the flash
  page_fits : (f : Flash) → Fit G f → {g k : ℕ} → g < G.n → k < G.p → (g * G.p + k) * G.s + G.s ≤ length f.bytes
  page_fits f F hg hk = rw F.bytes (part_fits G.s (below_part G.p hg hk))

  pub page_length : (f : Flash) → Fit G f → {g k : ℕ} → g < G.n → k < G.p → length (slot G.s (g * G.p + k) f.bytes) ≡ G.s
  page_length f F {g} {k} hg hk = slot-length G.s (g * G.p + k) f.bytes (page_fits f F hg hk)

  -- page k of segment g overwritten: itself, and the other pages
  module _ (f : Flash) (F : Fit G f) (g k : ℕ) (hg : g < G.n) (hk : k < G.p) (page : List ℕ) (hp : length page ≡ G.s) where
    pub program_same : slot G.s (g * G.p + k) (programmed G g k page f).bytes ≡ page
    program_same = on_slot_same G.s (g * G.p + k) (λ _. page) f.bytes (page_fits f F hg hk) hp

    pub program_other : (q : ℕ) → q ≢ g * G.p + k → slot G.s q (programmed G g k page f).bytes ≡ slot G.s q f.bytes
    program_other q n = on_slot_other G.s (g * G.p + k) q (λ _. page) f.bytes (page_fits f F hg hk) hp n

    pub program_fit : (mark fuse : ℕ) → Fit G (flash (programmed G g k page f).bytes (set f.marks (g * G.p + k) mark) f.counts fuse)
    program_fit mark fuse =
        record {
          bytes = on_slot-length G.s (g * G.p + k) (λ _. page) f.bytes (page_fits f F hg hk) hp ∙ F.bytes;
          marks = length-set f.marks _ mark ∙ F.marks;
          counts = F.counts;
        }

  -- segment g overwritten, by 255 or by anything: the pages of other segments, and the sizes
  module _ (f : Flash) (F : Fit G f) (g : ℕ) (hg : g < G.n) (b : List ℕ) (hb : length b ≡ G.p * G.s) where
    segment_room : g * (G.p * G.s) + G.p * G.s ≤ length f.bytes
    segment_room = rw (F.bytes, mul_assoc) (part_fits (G.p * G.s) hg)

    pub segment_other : (j k : ℕ) → k < G.p → j ≢ g
        → slot G.s (j * G.p + k) (on_slot (G.p * G.s) g (λ _. b) f.bytes) ≡ slot G.s (j * G.p + k) f.bytes
    segment_other j k hk n =
        slot-slot G.p G.s j k (on_slot (G.p * G.s) g (λ _. b) f.bytes) hk
        ∙ ap (slot G.s k) (on_slot_other (G.p * G.s) g j (λ _. b) f.bytes segment_room hb n)
        ∙ sym (slot-slot G.p G.s j k f.bytes hk)

    pub segment_fit : (m : List ℕ) (c fuse : ℕ) → length m ≡ G.p
        → Fit G (flash (on_slot (G.p * G.s) g (λ _. b) f.bytes) (on_slot G.p g (λ _. m) f.marks) (set f.counts g c) fuse)
    segment_fit m c fuse hm =
        record {
          bytes = on_slot-length (G.p * G.s) g (λ _. b) f.bytes segment_room hb ∙ F.bytes;
          marks = on_slot-length G.p g (λ _. m) f.marks (rw F.marks (part_fits G.p hg)) hm ∙ F.marks;
          counts = length-set f.counts g c ∙ F.counts;
        }

  -- an erase
  module _ (f : Flash) (F : Fit G f) (g c : ℕ) (hg : g < G.n) where
    pub blank_other : (j k : ℕ) → k < G.p → j ≢ g → slot G.s (j * G.p + k) (blanked G g c f).bytes ≡ slot G.s (j * G.p + k) f.bytes
    blank_other = segment_other f F g hg (replicate (G.p * G.s) 255) (length-replicate (G.p * G.s) 255)

    pub blank_fit : Fit G (blanked G g c f)
    blank_fit =
        segment_fit f F g hg (replicate (G.p * G.s) 255) (length-replicate (G.p * G.s) 255) (zeros G.p) c (burn f.fuse) (length-replicate G.p 0)

  pub splice-length : (off : ℕ) (d xs : List ℕ) → off + length d ≤ length xs → length (splice off d xs) ≡ length xs
  splice-length = length-splice

  pub splice-whole : (d xs : List ℕ) → length d ≡ length xs → splice 0 d xs ≡ d
  splice-whole = whole-splice

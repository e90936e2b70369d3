-- A write of one logical page: sound tables stay sound, no other logical page's content changes, and its own is what was written, or
-- stays if the write is refused.
use Prim.Native.Nat.{ℕ, ◌+◌, ◌*◌, ◌-◌, ◌≤◌, ◌<◌}
use native.Mathlib.Omega.{arith}
use mathlib.Core.Path.{◌≡◌, refl, sym, ap, ◌∙◌}
use mathlib.Core.Bool.{Bool, true, false, cond}
use mathlib.Core.Logic.{◌⊎◌, inl, inr, ◌≢◌}
use mathlib.Core.List.{List}
use lib.ListN.{length, get_or, length-replicate}
use lib.Seq.{get_or-set_same, get_or-set_other}
use Rattle.model.specs.Lists.{occ, slot, splice}
use Rattle.model.specs.Numbers.{Answer, Geometry, Good, Ok, NoRoom, Err, addr, empty, flat, page_of, seg_of}
use Rattle.model.specs.Tables.{Tables, at, word_of, queue_of}
use Rattle.model.specs.Sound.{Mapped}
use Rattle.model.specs.Device.{burn, Out, State, may_program, page_at, perform_all, refuse}
use Rattle.model.specs.PageMap.{find, forget, spend}
use Rattle.model.specs.PageWrite.{holds, content, old_page, spent, stored, write_at, write_page}
use Rattle.model.specs.Contract.{Fit}
use Rattle.model.proofs.Working.{Counted}
use Rattle.model.proofs.Slots.{same?, length-splice}
use Rattle.model.proofs.Reading.{in_valid}
use Rattle.model.proofs.Ops.{Holds, Safe, held_apart}
use Rattle.model.proofs.Spend.{Next, spend_sound, spend_free≤, free_same}
use Rattle.model.proofs.Address.{addr_seg, addr_page, addr_some}
use Rattle.model.proofs.Place.{Room, place_sound, place-map_same, place-map_other}
use Rattle.model.proofs.Forget.{Forgot, forgot}
use Rattle.model.proofs.Find.{Full, Free, found}
use Rattle.model.proofs.Content.{content_same, content_mapped, old_empty, old_mapped, page_length, program_same, program_other, program_fit}

-- of the page written itself, by the answer
abbrev pub Own : Geometry → State → State → ℕ → ℕ → List ℕ → Answer → Type 0
Own G st st' l off d (Ok m) = (m ≡ length d) × (content G st' l ≡ holds (splice off d (old_page G st l)))
Own G st st' l off d (Err r) = content G st' l ≡ content G st l

-- a segment that is being collected: full, its flag set
pub record Busy (G : Geometry) (v : ℕ) (t t' : Tables) : Type 0 where
  pub full : at t'.free v ≡ 0
  pub flagged : at t'.flags v ≡ 1
  pub queue : occ v (queue_of t') ≡ occ v (queue_of t)

-- the list that l was in is one shorter, unless the write was refused
abbrev pub Shorter : Geometry → State → State → ℕ → ℕ → Answer → Type 0
Shorter G st st' l v (Ok m) =
    Mapped st.tab l → seg_of G (word_of st.tab l) ≡ v → at st'.tab.lens v ≡ at st.tab.lens v - 1
Shorter G st st' l v (Err r) = Unit {0}

pub record Wrote (G : Geometry) (st : State) (l off : ℕ) (d : List ℕ) (o : Out) : Type 0 where
  pub sound : Counted G o.st.tab
  pub fit : Fit G o.st.flash
  pub others : (x : ℕ) → x ≢ l → content G o.st x ≡ content G st x
  pub own : Own G st o.st l off d o.answer
  pub busy : (v : ℕ) → at st.tab.free v ≡ 0 → at st.tab.flags v ≡ 1 → Busy G v st.tab o.st.tab
  pub shorter : (v : ℕ) → at st.tab.free v ≡ 0 → Shorter G st o.st l v o.answer
  pub performs : o.st.flash ≡ perform_all G o.ops st.flash
  pub safe : (M : List ℕ) → Holds G M st.tab.free → Safe G M o.ops o.st.tab.free

module _ (G : Geometry) (K : Good G) (st : State) (S : Counted G st.tab) (F : Fit G st.flash) where
  mapped_held : Holds G st.tab.map st.tab.free
  mapped_held = record { seg = S.seg<; page = S.page< }

  pub old_length : (l : ℕ) → length (old_page G st l) ≡ G.s
  old_length l = go (same? (word_of st.tab l) empty)
    where
      go : (word_of st.tab l ≡ empty) ⊎ Mapped st.tab l → length (old_page G st l) ≡ G.s
      go (inl e) = ap length (old_empty G st l e) ∙ length-replicate G.s 0
      go (inr m) = ap length (old_mapped G st l m) ∙ page_length G st.flash F (S.seg< l m) (omega (arith, S.page< l m))

module _ (G : Geometry) (K : Good G) (st : State) (S : Counted G st.tab) (F : Fit G st.flash) (l off : ℕ) (d : List ℕ) (hl : l < G.e)
    (hd : off + length d ≤ G.s) (g k : ℕ) (N : Next G st.tab g k) where
  -- the tables once the page is spent, and once l is out of them
  abbrev t₁ : Tables
  t₁ = spend G g k st.tab

  abbrev t₂ : Tables
  t₂ = forget G l t₁

  S₁ : Counted G t₁
  S₁ = spend_sound G st.tab S g k N

  Fo : Forgot G l t₁ t₂
  Fo = forgot G t₁ S₁ l

  hk : k < G.p
  hk = omega (arith, N.some_free, N.first)

  -- nobody has the page found
  free_page : (x : ℕ) → word_of st.tab x ≢ addr G g k
  free_page x e =
      let m : Mapped st.tab x = λ q. addr_some G K N.seg hk (sym e ∙ q) in
      let i : seg_of G (word_of st.tab x) ≡ g = ap (seg_of G) e ∙ addr_seg G K g hk in
      let j : page_of G (word_of st.tab x) ≡ k = ap (page_of G) e ∙ addr_page G K g hk in
      omega (arith, S.page< x m, N.first, ap (at st.tab.free) i)

  R : Room G t₂ l g k
  R =
      record {
        known = hl;
        unmapped = Fo.gone;
        seg = N.seg;
        used = rw (Fo.free, free_same G st.tab S g k N) (omega (arith, N.some_free, N.first));
        nobody = λ x. other x (same? x l);
        room = Fo.gap g (rw (get_or-set_same st.tab.valid g _ 0 (in_valid S.sized N.seg)) (omega (arith, S.lens≤ g)));
      }
    where
      other : (x : ℕ) → (x ≡ l) ⊎ (x ≢ l) → word_of t₂ x ≢ addr G g k
      other x (inl e) q = addr_some G K N.seg hk (sym q ∙ ap (word_of t₂) e ∙ Fo.gone)
      other x (inr n) q = free_page x (sym (Fo.kept x n) ∙ q)

  page_is : length (splice off d (old_page G st l)) ≡ G.s
  page_is = length-splice off d (old_page G st l) (rw (old_length G K st S F l) hd) ∙ old_length G K st S F l

  not_g : (v : ℕ) → at st.tab.free v ≡ 0 → v ≢ g
  not_g v z e = omega (arith, N.some_free, ap (at st.tab.free) e)

  stays_full : (v : ℕ) → at st.tab.free v ≡ 0 → at t₁.free v ≡ 0
  stays_full v z = omega (arith, spend_free≤ G st.tab S g k N v)

  -- free counts only fall, so pages in use stay in use
  spent_held : (M : List ℕ) → Holds G M st.tab.free → Holds G M t₁.free
  spent_held M H =
      record {
        seg = H.seg;
        page = λ x m. omega (arith, H.page x m, spend_free≤ G st.tab S g k N (seg_of G (get_or M x empty)));
      }

  abbrev page : List ℕ
  page = splice off d (old_page G st l)

  abbrev done : Out
  done = stored G l (length d) g k page st

  own_new : content G done.st l ≡ holds page
  own_new =
      let e : word_of done.st.tab l ≡ addr G g k = place-map_same G K _ Fo.sound l g k R in
      content_mapped G done.st l (λ q. addr_some G K N.seg hk (sym e ∙ q))
      ∙ ap holds
      (ap (page_at G done.st.flash) e
      ∙ ap (λ m. slot G.s (m * G.p + page_of G (addr G g k)) done.st.flash.bytes) (addr_seg G K g hk)
      ∙ ap (λ m. slot G.s (g * G.p + m) done.st.flash.bytes) (addr_page G K g hk)
      ∙ program_same G st.flash F g k N.seg hk _ page_is)

  others_new : (x : ℕ) → x ≢ l → content G done.st x ≡ content G st x
  others_new x n =
      content_same G st done.st x
      (place-map_other G K _ Fo.sound l g k R x n ∙ Fo.kept x n)
      (λ m.
      program_other G st.flash F g k N.seg hk page page_is (flat G (word_of st.tab x))
      (held_apart G st.tab.map st.tab (mapped_held G K st S F) g k N x m))

  -- the write done, and the write that the device refused
  pub wrote_stored : Wrote G st l off d done
  wrote_stored =
      record {
        sound = place_sound G K _ Fo.sound l g k R;
        fit = program_fit G st.flash F g k N.seg hk page page_is 1 (burn st.flash.fuse);
        others = others_new;
        own = (refl, own_new);
        busy = λ v z e. record { full = rw Fo.free (stays_full v z); flagged = Fo.flagged v e; queue = Fo.queue v e };
        shorter = λ v z m e. get_or-set_other t₂.lens g v _ 0 (not_g v z) ∙ (rw e at (Fo.one_less m));
        performs = refl;
        safe = λ M H.
            record {
              safe = (record { seg = N.seg; page< = hk; size = page_is; apart = held_apart G M st.tab H g k N }, tt);
              holds = λ _. rw Fo.free (spent_held M H);
            };
      }

  pub wrote_spent : Wrote G st l off d (spent G g k st)
  wrote_spent =
      record {
        sound = S₁;
        fit = F;
        others = λ x _. content_same G st (spent G g k st).st x refl (λ _. refl);
        own = content_same G st (spent G g k st).st l refl (λ _. refl);
        busy = λ v z e. record { full = stays_full v z; flagged = e; queue = refl };
        shorter = λ v z. tt;
        performs = refl;
        safe = λ M H. record { safe = tt; holds = λ _. spent_held M H };
      }

module _ (G : Geometry) (K : Good G) (bad : List ℕ) (st : State) (S : Counted G st.tab) (F : Fit G st.flash) (l off : ℕ) (d : List ℕ)
    (hl : l < G.e) (hd : off + length d ≤ G.s) where
  none_found : Wrote G st l off d (refuse NoRoom st)
  none_found =
      record {
        sound = S;
        fit = F;
        others = λ x _. refl;
        own = refl;
        busy = λ v z e. record { full = z; flagged = e; queue = refl };
        shorter = λ v z. tt;
        performs = refl;
        safe = λ M H. record { safe = tt; holds = λ _. H };
      }

  pub wrote : Wrote G st l off d (write_page G bad l off d st)
  unfolding write_page write_at
  wrote = go (found G K st.tab S bad)
    where
      at_page : (g k : ℕ) → Next G st.tab g k → (b : Bool)
          → Wrote G st l off d (cond b (stored G l (length d) g k (splice off d (old_page G st l)) st) (spent G g k st))
      at_page g k N true = wrote_stored G K st S F l off d hl hd g k N
      at_page g k N false = wrote_spent G K st S F l off d hl hd g k N

      go : Full G K st.tab S bad (find G bad st.tab) ⊎ Free G K st.tab S bad (find G bad st.tab)
          → Wrote G st l off d (write_at G (find G bad st.tab) l off d st)
      go (inl none) = rw none.is none_found
      go (inr free) = rw free.is (at_page free.seg _ free.next (may_program G free.seg _ st.flash))

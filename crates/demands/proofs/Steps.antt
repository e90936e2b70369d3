-- The four steps of docs/USING.md one after another: see the victim, drain it, encode and store, collect. And the steps carried out, by computation.
use Prim.Native.Nat.{ℕ, ◌+◌, ◌<◌}
use native.Mathlib.Omega.{arith}
use mathlib.Core.Path.{◌≡◌, refl, sym, ap, ◌∙◌, subst}
use mathlib.Core.List.{List, [], ◌∷◌, ◌++◌}
use lib.ListN.{length, take, replicate}
use Rattle.crc32.specs.Crc32.{plus, add, among, powers, low, remainder, bits_of, bits, digit, number as value_of, dividend, crc32}
use Rattle.model.specs.Lists.{without, push_front, insert_by, sort_by, splice, total, occ, all, every, blank, up_to, zeros}
use Rattle.model.specs.declared.Geometry.{Geometry}
use Rattle.model.specs.Numbers.{Ok}
use Rattle.model.specs.Numbers.{good?, endless, logical_page}
use Rattle.model.specs.Tables.{Tables, at, tab_words, pages, view, packed}
use Rattle.model.specs.Sound.{names, soundb}
use Rattle.model.specs.Device.{Flash, flash, EraseSeg, burn, may_program, may_erase, formatted_flash}
use Rattle.model.specs.PageMap.{clear_from, find_from, find, invalidate, forget}
use Rattle.model.specs.PageWrite.{Content, nothing, holds, content, old_page, write_at, write_page}
use Rattle.model.specs.PageGc.{sorted, victim, finish_of, last_of, drain, collect_of, collect}
use Rattle.model.specs.Checkpoint.{used_by, sealed, restored_by, word, long, words, word_at, long_at, words_at, head, file as fileWith, reason_of, welcome, settle_all, restored}
use Rattle.model.specs.Entry.{Recorder, recorder, lent, unless, guarded, clean, opening, write, collection, encoding, restoring}
use Rattle.model.specs.declared.Queueing.{Queueing}
use Rattle.model.specs.declared.Queueing.TheVariants.{Empty}
use Rattle.model.specs.History.{Call, Open, Write, Collect, Encode, Restore, run, after, ops_of, content_of}
use Rattle.model.specs.History.{Cut, GivesBack}
use Rattle.model.proofs.View.{view-packed}
use Rattle.model.proofs.Taken.{victim_full}
use Rattle.model.proofs.Sealed.{comes_back}
use Rattle.model.proofs.Requeue.{requeued-back}
use Rattle.model.proofs.Entry.{Begun}
use Rattle.model.proofs.Cut.{Encoded, encoded, restores}
use Rattle.demands.specs.Given.{tab}
use Rattle.demands.specs.Protocol.{Saved, Careful, accepts, Drains, saved, lends_fuse, calls, none, with_fuse, writes}
use Rattle.demands.proofs.Protocol.{drained_next, protocol_restores, regained_careful, either_restores}
use Rattle.demands.proofs.Draining.{drains, drains_all}

module _ (G : Geometry) (bad : List ℕ) where
  -- the writes of the draining are calls of the protocol: while it goes on, the old checkpoint stands
  pub drains_careful : {r₀ : Recorder} {file : List ℕ} {k : ℕ} {r r' : Recorder} → Careful G bad r₀ file r → Drains G bad k r r' → Careful G bad r₀ file r'
  drains_careful h none = h
  drains_careful h (with_fuse f t) = drains_careful (lends_fuse h f) t
  drains_careful h (writes sector d s E t) = drains_careful (calls h (Write sector 0 d s) tt) t

  -- The victim of r is drained, which leaves r₁; r₁ is encoded and the file stored; then it is collected, and the power goes at any operation of
  -- the collection, or behind it: the file gives back what r held.
  pub steps_restore : {k : ℕ} {r r₁ : Recorder} → 0 < (tab G r).queued → Drains G bad k r r₁ → at (tab G r).lens (victim (tab G r)) ≡ k
      → (file : List ℕ) → Saved G bad r₁ file
      → (s : List (List ℕ)) (i : ℕ) (f : Flash) → Cut G i (ops_of G bad (Collect s) r₁) r₁.flash f
      → (w u : List ℕ) → length w ≡ tab_words G → length u ≡ pages G
      → (q : Queueing) → GivesBack G bad r file q (recorder w u f)
  steps_restore {k} {r} {r₁} some h e file E s i f c w u a b q =
      let B : GivesBack G bad r₁ file q (recorder w u f) =
      protocol_restores G bad r₁ file E saved (Collect s) (drained_next G bad r₁ file E (drains_all G bad some h e) s) i f c w u a b q in
      record { answer = B.answer; contents = λ j. B.contents j ∙ (drains G bad some h).contents j }

  -- "a segment whose erase was cut is full in the restored tables"
  pub cut_full : (r₀ : Recorder) (file : List ℕ) → Saved G bad r₀ file → 0 < (tab G r₀).queued
      → (r : Recorder) → length r.words ≡ tab_words G → length r.used ≡ pages G
      → (q : Queueing) → at (tab G (after G bad (Restore q file (zeros (pages G) ∷ [])) r)).free (victim (tab G r₀)) ≡ 0
  cut_full r₀ file E some r a b q =
      let C : Encoded G (lent r₀ E.buffer E.scratch) E.size (run G bad (Encode E.buffer E.scratch) r₀).left.buffer =
      encoded G (lent r₀ E.buffer E.scratch) E.size E.accepted in
      let D : Begun G r (restored_by G q (sealed G (tab G r₀))) (run G bad (Restore q (sealed G (tab G r₀)) (zeros (pages G) ∷ [])) r) =
      restores G bad r₀ C.good C.counted q r a b in
      subst (λ z. at (tab G (after G bad (Restore q z (zeros (pages G) ∷ [])) r)).free (victim (tab G r₀)) ≡ 0) (sym C.file ∙ E.is)
      (ap (λ (z : Recorder). at (tab G z).free (victim (tab G r₀))) D.unit
      ∙ ap (λ (t : Tables). at t.free (victim (tab G r₀))) (view-packed D.counted.sized)
      ∙ ap (λ xs. at xs (victim (tab G r₀))) (requeued-back G q _ _ (comes_back G C.good (tab G r₀) C.counted)).free
      ∙ victim_full G (tab G r₀) C.counted some)

-- ---- carried out to the end, by computation

-- device A, formatted and opened
abbrev A : Geometry
A = record { n = 2; p = 2; s = 4; w = 1; e = 3; limit = 5 }

abbrev bad : List ℕ
bad = zeros 2

abbrev r₀ : Recorder
r₀ = after A bad Open (recorder (zeros 19) (zeros 4) (formatted_flash A endless))

abbrev put : ℕ → ℕ → Call
put sector b = Write sector 4 (replicate 4 b) (zeros 4 ∷ zeros 4 ∷ [])

abbrev gc : Call
gc = Collect (zeros 4 ∷ zeros 4 ∷ zeros 2 ∷ [])

-- whole pages 0, 1, and 0 anew: segment 0 is queued, page 1 listed in it
abbrev r₁ : Recorder
r₁ = after A bad (put 0 3) (after A bad (put 4 2) (after A bad (put 0 1) r₀))

-- then no bytes to page 1
abbrev empties : Call
empties = Write 4 0 [] (zeros 4 ∷ zeros 4 ∷ [])

abbrev r₂ : Recorder
r₂ = after A bad empties r₁

abbrev saving : Call
saving = Encode (zeros 64) (zeros 4 ∷ [])

abbrev file_of : Recorder → List ℕ
file_of r = take 64 (run A bad saving r).left.buffer

-- a unit whose power went, over this flash
abbrev dark : Flash → Recorder
dark f = recorder (zeros 19) (zeros 4) f

-- segment 0 while it is erased: its bytes, marks and count may be anything
abbrev torn : Flash
torn = flash (replicate 8 9 ++ replicate 4 3 ++ replicate 4 2) (7 ∷ 0 ∷ 1 ∷ 1 ∷ []) (4 ∷ 0 ∷ []) endless

-- what is computed: r₁ holds something, and its victim has one listed page, page 1; the empty write of it is accepted, the encodings are, and
-- step 4 copies nothing and erases
record Computed : Type 0 where
  holds₀ : content_of A r₁ 0 ≡ holds (replicate 4 3)
  holds₁ : content_of A r₁ 1 ≡ holds (replicate 4 2)
  waits : 0 < (tab A r₁).queued
  one : at (tab A r₁).lens (victim (tab A r₁)) ≡ 1
  last : logical_page A 4 ≡ last_of A (victim (tab A r₁)) (tab A r₁)
  accepted : (run A bad empties r₁).answer ≡ Ok 0
  saved₀ : (run A bad saving r₀).answer ≡ Ok 64
  saved₂ : (run A bad saving r₂).answer ≡ Ok 64
  erases : (run A bad gc r₂).ops ≡ EraseSeg 0 1 ∷ []
  cut_erase : Cut A 0 (ops_of A bad gc r₂) r₂.flash torn

computed : Computed
unfolding
    without push_front insert_by sort_by splice total occ all every blank up_to good? view packed names soundb burn may_program may_erase clear_from
    find_from find invalidate forget content old_page write_at write_page sorted finish_of drain collect_of collect used_by unless guarded clean opening
    encoding write collection
computed =
    record {
      holds₀ = refl;
      holds₁ = refl;
      waits = omega arith;
      one = refl;
      last = refl;
      accepted = refl;
      saved₀ = refl;
      saved₂ = refl;
      erases = refl;
      cut_erase = (replicate 8 9, 7 ∷ 0 ∷ [], 4, refl, refl, refl);
    }

file₀ : Saved A bad r₀ (file_of r₀)
file₀ = record { buffer = zeros 64; scratch = zeros 4 ∷ []; size = 64; accepted = computed.saved₀; is = refl }

file₂ : Saved A bad r₂ (file_of r₂)
file₂ = record { buffer = zeros 64; scratch = zeros 4 ∷ []; size = 64; accepted = computed.saved₂; is = refl }

-- steps 1 and 2, and while the new checkpoint is stored
draining : Drains A bad 1 r₁ r₂
draining =
    subst (λ a. Drains A bad (accepts a + 0) r₁ r₂) computed.accepted
    (writes 4 [] (zeros 4 ∷ zeros 4 ∷ []) (record { more = λ e. omega (arith, computed.one); last = computed.last }) none)

before : Careful A bad r₀ (file_of r₀) r₂
before = drains_careful A bad (calls (calls (calls saved (put 0 1) tt) (put 4 2) tt) (put 0 3) tt) draining

either : (q : Queueing) → GivesBack A bad r₀ (file_of r₀) q (dark r₂.flash) × GivesBack A bad r₂ (file_of r₂) q (dark r₂.flash)
either = either_restores A bad r₀ (file_of r₀) file₀ before (file_of r₂) file₂ (zeros 19) (zeros 4) refl refl

-- step 4, cut in its erase: the unit gives back what it held before step 1, and can go on
given_back : (q : Queueing) → GivesBack A bad r₁ (file_of r₂) q (dark torn)
given_back =
    steps_restore A bad computed.waits draining computed.one (file_of r₂) file₂ (zeros 4 ∷ zeros 4 ∷ zeros 2 ∷ []) 0 torn computed.cut_erase
    (zeros 19) (zeros 4) refl refl

again : (q : Queueing) → Careful A bad r₂ (file_of r₂) (after A bad (Restore q (file_of r₂) (zeros 4 ∷ [])) (dark torn))
again =
    regained_careful A bad r₂ (file_of r₂) file₂ saved gc
    (drained_next A bad r₂ (file_of r₂) file₂ (drains_all A bad computed.waits draining computed.one) (zeros 4 ∷ zeros 4 ∷ zeros 2 ∷ []))
    0 torn computed.cut_erase (zeros 19) (zeros 4) refl refl

-- Why it is drained and encoded first: collected straight behind a checkpoint of r₁, and cut behind the erase, page 1 is lost.
abbrev first_byte : Content → ℕ
first_byte nothing = 0
first_byte (holds xs) = at xs 0

careless : GivesBack A bad r₁ (file_of r₁) Empty (dark (after A bad gc r₁).flash) → ⊥
unfolding
    without push_front insert_by sort_by splice total occ all every blank up_to good? view packed names soundb burn may_program may_erase clear_from
    find_from find invalidate forget content old_page write_at write_page sorted finish_of drain collect_of collect used_by word long words word_at long_at
    words_at head fileWith reason_of welcome settle_all restored unless guarded clean opening encoding restoring write collection plus add among
    powers low remainder bits_of bits digit value_of dividend crc32
careless h = let z : ◌≡◌ {A = ℕ} 255 2 = ap first_byte (h.contents 1) in omega arith

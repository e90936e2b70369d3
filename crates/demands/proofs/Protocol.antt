-- docs/USING.md, "When a checkpoint's guarantee ends". Behind a stored checkpoint come reads, writes and encodings, restores of it, and collections of
-- a segment that holds no page mapped at it. Wherever the power goes, the stored checkpoint gives back exactly what it held, and while a new one is being stored,
-- either of the two.
use Prim.Native.Nat.{ℕ, suc}
use mathlib.Core.Path.{◌≡◌, refl, sym, subst}
use mathlib.Core.List.{List, [], ◌∷◌}
use lib.ListN.{length}
use Rattle.model.specs.Lists.{zeros}
use Rattle.model.specs.declared.Geometry.{Geometry}
use Rattle.model.specs.Numbers.{Answer}
use Rattle.model.specs.Numbers.{endless}
use Rattle.model.specs.Tables.{Tables, tab_words, pages}
use Rattle.model.specs.Device.{Flash}
use Rattle.model.specs.Entry.{Recorder, recorder, lent}
use Rattle.model.specs.declared.Queueing.{Queueing}
use Rattle.model.specs.History.{Call, Format, Open, Read, Write, Collect, CollectList, CollectThreshold, Encode, Restore, lit, run, after, ops_of, map_in}
use Rattle.model.specs.History.{Spares, Cut, Keeps, running, lost, Since, checkpoint, lent_fuse, called, off, cut, regained, GivesBack}
use Rattle.model.proofs.Entry.{read_unit}
use Rattle.model.proofs.Cut.{encoded, cut_restores}
use Rattle.demands.specs.Given.{tab}
use Rattle.demands.specs.Protocol.{Drained, Saved, Allows, Next, Careful, saved, lends_fuse, calls, regains}
use Rattle.demands.proofs.Sparing.{spares_first, drained_elsewhere, erases_none, collection_spares}

module _ (G : Geometry) (bad : List ℕ) where
  -- an allowed call erases nothing that M needs, and is neither an opening nor a restore
  next_spares : (M : List ℕ) (c : Call) (r : Recorder) → Allows G M (tab G r) c → Spares G M (run G bad c r).ops
  next_spares M (Read sector len o s) r n = erases_none G bad M (Read sector len o s) r tt
  next_spares M (Write sector len d s) r n = erases_none G bad M (Write sector len d s) r tt
  next_spares M (Encode b s) r n = erases_none G bad M (Encode b s) r tt
  next_spares M (Collect s) r n = collection_spares G bad M r s n
  next_spares M Format r n = absurd n
  next_spares M Open r n = absurd n
  next_spares M (CollectList m s) r n = absurd n
  next_spares M (CollectThreshold k m s) r n = absurd n
  next_spares M (Restore q b s) r n = absurd n

  next_keeps : (M file : List ℕ) (t : Tables) (c : Call) (a : Answer) → Allows G M t c → Keeps file c a
  next_keeps M file t c a n =
      record { no_opening = λ e. absurd (subst (Allows G M t) e n); no_other = λ q b s e. absurd (subst (Allows G M t) e n) }

  -- straight behind a checkpoint, a collection whose victim was drained before the encoding is allowed
  pub drained_next : (r₀ : Recorder) (file : List ℕ) → Saved G bad r₀ file → Drained G r₀ → (s : List (List ℕ)) → Next G r₀ r₀ (Collect s)
  drained_next r₀ file E e s = drained_elsewhere G (tab G r₀) (encoded G (lent r₀ E.buffer E.scratch) E.size E.accepted).counted e

  -- `cut_restores` for a saved file
  saved_restores : (r₀ : Recorder) (file : List ℕ) → Saved G bad r₀ file → {r : Recorder} → Since G bad r₀ file lost r
      → length r.words ≡ tab_words G → length r.used ≡ pages G → (q : Queueing) → GivesBack G bad r₀ file q r
  saved_restores r₀ file E {r} h a b q =
      subst (λ z. GivesBack G bad r₀ z q r) E.is
      (cut_restores G bad r₀ E.buffer E.scratch E.size E.accepted (subst (λ z. Since G bad r₀ z lost r) (sym E.is) h) a b q)

  module _ (r₀ : Recorder) (file : List ℕ) where
    -- a cut at an allowed call is one that the checkpoint bears
    next_cut : {r : Recorder} → Since G bad r₀ file running r → (c : Call) → Next G r₀ r c → (i : ℕ) (f : Flash) → Cut G i (ops_of G bad c r) r.flash f
        → (w u : List ℕ) → Since G bad r₀ file lost (recorder w u f)
    next_cut {r} h c n i f k w u =
        cut h c tt i f (spares_first G (map_in G r₀) (suc i) (ops_of G bad c r) (next_spares (map_in G r₀) c (lit endless r) n)) k w u

    -- what is careful, the premises of `cut_restores` allow
    pub careful_since : {r : Recorder} → Careful G bad r₀ file r → Since G bad r₀ file running r
    careful_since saved = checkpoint
    careful_since (lends_fuse h f) = lent_fuse (careful_since h) f
    careful_since (calls {r} h c n) =
        called (careful_since h) c tt (next_keeps (map_in G r₀) file (tab G r) c _ n) (next_spares (map_in G r₀) c r n)
    careful_since (regains h c n i f k w u q s e) = regained (next_cut (careful_since h) c n i f k w u) q s e

    -- Cut the power at any device operation of the next call, or behind the last one, where everything but the flash is lost: the stored checkpoint
    -- gives everything back. (A read does no operation: cutting it is cutting between two calls.)
    pub protocol_restores : Saved G bad r₀ file → {r : Recorder} → Careful G bad r₀ file r → (c : Call) → Next G r₀ r c
        → (i : ℕ) (f : Flash) → Cut G i (ops_of G bad c r) r.flash f
        → (w u : List ℕ) → length w ≡ tab_words G → length u ≡ pages G
        → (q : Queueing) → GivesBack G bad r₀ file q (recorder w u f)
    protocol_restores E h c n i f k w u a b = saved_restores r₀ file E (next_cut (careful_since h) c n i f k w u) a b

    -- and the unit goes on from there
    pub regained_careful : Saved G bad r₀ file → {r : Recorder} → Careful G bad r₀ file r → (c : Call) → Next G r₀ r c
        → (i : ℕ) (f : Flash) → Cut G i (ops_of G bad c r) r.flash f
        → (w u : List ℕ) → length w ≡ tab_words G → length u ≡ pages G
        → (q : Queueing) → Careful G bad r₀ file (after G bad (Restore q file (zeros (pages G) ∷ [])) (recorder w u f))
    regained_careful E h c n i f k w u a b q =
        regains h c n i f k w u q (zeros (pages G) ∷ []) (protocol_restores E h c n i f k w u a b q).answer

    -- between two calls the stored checkpoint may be restored at any time, power on: to what it gives back that is a cut
    pub restored_careful : Saved G bad r₀ file → {r : Recorder} → Careful G bad r₀ file r
        → length r.words ≡ tab_words G → length r.used ≡ pages G
        → (q : Queueing) → Careful G bad r₀ file (after G bad (Restore q file (zeros (pages G) ∷ [])) r)
    restored_careful E {r} h a b q =
        regained_careful E h (Read 0 0 [] []) tt 0 r.flash (subst (λ os. Cut G 0 os r.flash r.flash) (sym (read_unit G 0 0 (lent (lit endless r) [] [])).1) refl)
        r.words r.used a b q

    -- While a new checkpoint is being stored, either of the two: the old one gives what it held, the new one what the unit holds now.
    pub either_restores : Saved G bad r₀ file → {r : Recorder} → Careful G bad r₀ file r → (file' : List ℕ) → Saved G bad r file'
        → (w u : List ℕ) → length w ≡ tab_words G → length u ≡ pages G
        → (q : Queueing) → GivesBack G bad r₀ file q (recorder w u r.flash) × GivesBack G bad r file' q (recorder w u r.flash)
    either_restores E {r} h file' E' w u a b q =
        (saved_restores r₀ file E (off (careful_since h) w u) a b q, saved_restores r file' E' (off checkpoint w u) a b q)

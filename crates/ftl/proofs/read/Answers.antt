-- `read` meets its contract, by the laws of reading.
use Rattle.std.proofs.Common.{List, length, ◌≡◌, ◌≢◌, ◌<◌, ℕ, [], ◌∷◌, sym, ap, subst, take, drop, ◌∙◌, arith}
use Rattle.std.proofs.lemmas.Result.{err_from_is_err_and}
use borrow.Author.Tests.{leb-true, eqb-true, eqb-false}
use Rattle.model.specs.Lists.{slot, splice}
use Rattle.model.specs.Numbers.{empty, flat, offset}
use Rattle.model.specs.declared.Geometry.{Geometry}
use Rattle.model.specs.Tables.{at, word_of, pages, tab_words, view}
use Rattle.model.specs.Device.{flash}
use Rattle.model.specs.Entry.{lent, recorder, no_flash}
use Rattle.model.proofs.Held.{slots}
use Rattle.model.proofs.Slots.{any_default}
use Rattle.model.proofs.View.{map_at}
use Rattle.model.proofs.Guard.{each, good_test, tables_test}
use Rattle.guard.proofs.Rows.{told}
use Rattle.ftl.proofs.Guards.{clean_is, handed_back}
use Rattle.ftl.proofs.Reading.{word_read, read_wrong, read_size, read_in, read_unsound, read_place, read_unmapped, read_done}
use Rattle.ftl.proofs.Places.{placed, misplaced}
use Rattle.ftl.proofs.read.Goals.{then-not-good-via-then-not-good, then-not-good-via-else-not-good+then-not-read_fits}
use Rattle.ftl.proofs.read.Goals as goal

pub returns-then-not-good-clause-answered : goal.returns-then-not-good-clause-answered
returns-then-not-good-clause-answered c =
    elim c.then-not-good.branch [
      | then-not-good-via-then-not-good w ↦ read_wrong _ _ _ _ (told c.good.ensures w.if-not-good.true)
      | then-not-good-via-else-not-good+then-not-read_fits w ↦ read_size _ _ _ _ (told w.read_fits.ensures w.if-not-read_fits.true)
    ]

pub read_fits-requires : goal.read_fits-requires
read_fits-requires c = good_test _ (told c.good.ensures c.if-not-good.false)

pub sound-requires : goal.sound-requires
sound-requires c =
    let a = c.args in
    let e = told c.read_fits.ensures c.if-not-read_fits.false in
    let t = tables_test a.geo (lent (recorder a.tab.now a.used.now no_flash) [] []) (each _ e 0) in
    record {
      good = good_test _ (told c.good.ensures c.if-not-good.false);
      tab_len = (t.0, t.1, clean_is _ a.seen.now (each _ e 3));
    }

pub returns-then-not-sound-clause-answered : goal.returns-then-not-sound-clause-answered
returns-then-not-sound-clause-answered c =
    let e = told c.read_fits.ensures c.if-not-read_fits.false in
    read_unsound _ _ _ _ (told c.good.ensures c.if-not-good.false) e _ (handed_back _ _ _ (each _ e 3) c.sound.ensures.seen_after)
    (told c.sound.ensures.value c.if-not-sound.true)

pub within_page-requires : goal.within_page-requires
within_page-requires c = good_test _ (told c.good.ensures c.if-not-good.false)

pub returns-in_err-l-clause-answered : goal.returns-in_err-l-clause-answered
returns-in_err-l-clause-answered c =
    let e = told c.read_fits.ensures c.if-not-read_fits.false in
    let p = err_from_is_err_and c.from_residual.result c.from_residual.ensures.1 in
    let m = misplaced c.args.geo c.args.sector c.args.len _ c.in_err-l.ensures in
    rw (p.1, p.2, m.1)
    (read_place _ _ _ _ (told c.good.ensures c.if-not-good.false) e _ (handed_back _ _ _ (each _ e 3) c.sound.ensures.seen_after)
    (told c.sound.ensures.value c.if-not-sound.false) m.0)

pub returns-in_err-l-clause-countable : goal.returns-in_err-l-clause-countable
returns-in_err-l-clause-countable c =
    let p = err_from_is_err_and c.from_residual.result c.from_residual.ensures.1 in
    rw (p.1, p.2, (misplaced c.args.geo c.args.sector c.args.len _ c.in_err-l.ensures).1) tt

-- the map's word that is read
word_is : (geo : Geometry) (l m : ℕ) (w u : List ℕ) → length w ≡ tab_words geo → l < geo.e → l ≡ m → at w l ≡ word_of (view geo w u) m
word_is geo l m w u s h e = any_default w l 0 empty (omega arith) ∙ sym (map_at geo w u l empty h) ∙ ap (word_of (view geo w u)) e

pub offset_bounds-tab-l : goal.offset_bounds-tab-l
offset_bounds-tab-l c =
    let L = placed c.args.geo c.args.sector c.args.len _ c.in_ok-l.ensures in
    let K = good_test _ (told c.good.ensures c.if-not-good.false) in
    record { fits = omega (arith, L.page<, K.e≤, K.n≤, slots K) }

pub bounds-tab-l : goal.bounds-tab-l
bounds-tab-l c =
    let a = c.args in
    let L = placed a.geo a.sector a.len _ c.in_ok-l.ensures in
    let e = told c.read_fits.ensures c.if-not-read_fits.false in
    omega (arith, L.page<, (tables_test a.geo (lent (recorder a.tab.now a.used.now no_flash) [] []) (each _ e 0)).0)

pub returns-then-is_empty-clause-answered : goal.returns-then-is_empty-clause-answered
returns-then-is_empty-clause-answered c =
    let a = c.args in
    let g = told c.good.ensures c.if-not-good.false in
    let e = told c.read_fits.ensures c.if-not-read_fits.false in
    let L = placed a.geo a.sector a.len _ c.in_ok-l.ensures in
    read_unmapped _ _ _ _ g e _ (handed_back _ _ _ (each _ e 3) c.sound.ensures.seen_after)
    (told c.sound.ensures.value c.if-not-sound.false) L.inside L.room
    (sym (word_is a.geo _ _ a.tab.now a.used.now (tables_test a.geo (lent (recorder a.tab.now a.used.now no_flash) [] []) (each _ e 0)).0 L.page< L.page_is)
    ∙ eqb-true _ _ (told c.is_empty.ensures c.if-is_empty.true))

pub show-requires : goal.show-requires
show-requires c =
    let a = c.args in
    let x = lent (recorder a.tab.now a.used.now (flash a.bytes.now [] [] 0)) a.out.now (a.seen.now ∷ []) in
    let g = told c.good.ensures c.if-not-good.false in
    let e = told c.read_fits.ensures c.if-not-read_fits.false in
    let L = placed a.geo a.sector a.len _ c.in_ok-l.ensures in
    let w = word_is a.geo _ _ a.tab.now a.used.now (tables_test a.geo (lent (recorder a.tab.now a.used.now no_flash) [] []) (each _ e 0)).0 L.page< L.page_is in
    let m : word_read a.geo a.sector a.len x ≢ empty = λ z. eqb-false _ _ (told c.is_empty.ensures c.if-is_empty.false) (w ∙ z) in
    let f = read_in a.geo a.sector a.len x g e (told c.sound.ensures.value c.if-not-sound.false) m in
    record {
      good = good_test _ g;
      a_bound = (subst (λ (y : ℕ). flat a.geo y < pages a.geo) (sym w) f, L.end≤, eqb-true _ _ (each _ e 1), leb-true _ _ (each _ e 2));
    }

pub returns-clause-answered : goal.returns-clause-answered
returns-clause-answered c =
    let a = c.args in
    let x = lent (recorder a.tab.now a.used.now (flash a.bytes.now [] [] 0)) a.out.now (a.seen.now ∷ []) in
    let g = told c.good.ensures c.if-not-good.false in
    let e = told c.read_fits.ensures c.if-not-read_fits.false in
    let L = placed a.geo a.sector a.len _ c.in_ok-l.ensures in
    let w = word_is a.geo _ _ a.tab.now a.used.now (tables_test a.geo (lent (recorder a.tab.now a.used.now no_flash) [] []) (each _ e 0)).0 L.page< L.page_is in
    let m : word_read a.geo a.sector a.len x ≢ empty = λ z. eqb-false _ _ (told c.is_empty.ensures c.if-is_empty.false) (w ∙ z) in
    read_done _ _ _ _ g e _ (handed_back _ _ _ (each _ e 3) c.sound.ensures.seen_after)
    (told c.sound.ensures.value c.if-not-sound.false) L.inside L.room m _
    (subst
    (λ (y : ℕ). c.show.new.out ≡ splice 0 (take a.len (drop (offset a.geo a.sector) (slot a.geo.s (flat a.geo y) a.bytes.now))) a.out.now)
    w
    (rw L.offset_is at c.show.ensures))

pub returns-clause-countable : goal.returns-clause-countable
returns-clause-countable c =
    let L = placed c.args.geo c.args.sector c.args.len _ c.in_ok-l.ensures in
    omega (arith, L.end≤, (good_test _ (told c.good.ensures c.if-not-good.false)).s≤)

-- `put_entry` meets its contract: a space, then `-`, or the segment, a point and the page.
use Rattle.std.proofs.Common.{◌≡◌, ℕ, ◌^◌, ◌≤◌, ◌<◌, false, ◌∷◌, ◌++◌, eqb, length, sym, ap, ap₂, ◌∙◌, arith, rules}
use Rattle.std.proofs.Math.Nat.{div-le_self, mod-le}
use Rattle.model.specs.declared.Geometry.{Geometry}
use Rattle.model.specs.declared.Spot.{Spot}
use Rattle.model.specs.Numbers.{empty, seg_of, page_of}
use Rattle.lines.specs.Text.{decimal, entry_text}
use Rattle.lines.proofs.Digits.{ten}
use Rattle.lines.proofs.Laid.{laid_next, laid_as, entry_none, entry_some}
use Rattle.lines.proofs.put_entry.Goals as goal

-- a word of the map has at most ten digits, and so have its segment and its page
module _ (G : Geometry) (word seg : ℕ) (h : word < 4294967296) where
  seg_short : seg ≡ seg_of G word → length (decimal seg) ≤ 10
  seg_short e = ten seg (omega (arith, e, div-le_self word (2 ^ G.w), h))

  page_short : seg ≡ page_of G word → length (decimal seg) ≤ 10
  page_short e = ten seg (omega (arith, e, mod-le word (2 ^ G.w), h))

-- the text of an entry that names a page
named : (G : Geometry) (word : ℕ) {seg page : ℕ} → eqb word empty ≡ false → seg ≡ seg_of G word → page ≡ page_of G word
    → 32 ∷ (decimal seg ++ (46 ∷ decimal page)) ≡ entry_text G word
named G word e s p = ap₂ (λ x y. 32 ∷ (decimal x ++ (46 ∷ decimal y))) s p ∙ sym (entry_some G word e)

pub returns-then-is_empty-clause-laid : goal.returns-then-is_empty-clause-laid
returns-then-is_empty-clause-laid c =
    let dash = laid_next c.put.ensures.laid c.put-then-is_empty.ensures.laid (omega arith) in
    let entry = laid_as (sym (entry_none c.args.geo c.args.a.0 (sym c.if-is_empty.ensures))) dash in
    (search rules) ∙ entry.bytes

pub put_decimal-requires : goal.put_decimal-requires
put_decimal-requires c =
    omega (arith, seg_short c.args.geo c.args.a.0 _ (omega arith) (ap (λ (s : Spot). s.segment) c.spot_of-at.ensures))

pub put-requires-2 : goal.put-requires-2
put-requires-2 c =
    omega (arith, seg_short c.args.geo c.args.a.0 _ (omega arith) (ap (λ (s : Spot). s.segment) c.spot_of-at.ensures))

pub put_decimal-requires-2 : goal.put_decimal-requires-2
put_decimal-requires-2 c =
    let seg = seg_short c.args.geo c.args.a.0 _ (omega arith) (ap (λ (s : Spot). s.segment) c.spot_of-at.ensures) in
    let page = page_short c.args.geo c.args.a.0 _ (omega arith) (ap (λ (s : Spot). s.page) c.spot_of-at.ensures) in
    omega (arith, seg, page)

pub returns-clause-laid : goal.returns-clause-laid
returns-clause-laid c =
    let text = named c.args.geo c.args.a.0 (sym c.if-is_empty.ensures) (ap (λ (s : Spot). s.segment) c.spot_of-at.ensures) (ap (λ (s : Spot). s.page) c.spot_of-at.ensures) in
    let short = seg_short c.args.geo c.args.a.0 _ (omega arith) (ap (λ (s : Spot). s.segment) c.spot_of-at.ensures) in
    let page = laid_next c.put-2.ensures.laid c.put_decimal-2.ensures.laid (omega (arith, short)) in
    let seg = laid_next c.put_decimal.ensures.laid page (omega arith) in
    let entry = laid_as text (laid_next c.put.ensures.laid seg (omega arith)) in
    (search rules) ∙ entry.bytes

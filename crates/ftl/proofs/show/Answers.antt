-- `show` meets its contract: a part of a page.
use Rattle.std.proofs.Common.{◌≡◌, ℕ, ◌+◌, ◌*◌, List, ◌++◌, ap, subst, rules, length, ◌∙◌, take, drop, arith}
use Rattle.model.specs.Lists.{slot, splice}
use Rattle.model.specs.Numbers.{flat}
use Rattle.model.specs.declared.Spot.{Spot}
use Rattle.ftl.proofs.Reading.{shown_end, shown_is}
use Rattle.ftl.proofs.show.Goals as goal

pub slice_bounds-copy_from_slice-end-3 : goal.slice_bounds-copy_from_slice-end-3
slice_bounds-copy_from_slice-end-3 c =
    let a = c.args in
    let r = c.requires.a_bound in
    let at = c.spot_of-at.result in
    let f : at.segment * a.geo.p + at.page ≡ flat a.geo a.a.0 = ap (λ (x : Spot). x.segment * a.geo.p + x.page) c.spot_of-at.ensures in
    omega (arith, shown_end a.geo (at.segment * a.geo.p + at.page) a.off a.len r.1 (omega arith))

pub returns : goal.returns
unfolding splice
returns c =
    let a = c.args in
    let at = c.spot_of-at.result in
    let f : at.segment * a.geo.p + at.page ≡ flat a.geo a.a.0 = ap (λ (x : Spot). x.segment * a.geo.p + x.page) c.spot_of-at.ensures in
    let d : c.copy_from_slice.new.self ≡ take a.len (drop a.off (slot a.geo.s (flat a.geo a.a.0) a.bytes.now)) =
    c.copy_from_slice.ensures.after
    ∙ (shown_is a.geo (at.segment * a.geo.p + at.page) a.off a.len c.requires.a_bound.1 a.bytes.now
    ∙ ap (λ f. take a.len (drop a.off (slot a.geo.s f a.bytes.now))) f) in
    let laid = c.copy_from_slice.new.self in
    let e : a.len ≡ 0 + length laid = search rules in
    subst (λ (xs : List ℕ). laid ++ drop a.len a.out.now ≡ xs ++ drop (0 + length xs) a.out.now) d (ap (λ (k : ℕ). laid ++ drop k a.out.now) e)

-- `within_page` meets its contract: each test that fails, and both passed.
use Rattle.std.proofs.Common.{◌%◌, ◌+◌, refl, arith}
use borrow.Author.Tests.{lt-ltb, le-ltb, le-leb, lt-leb}
use Rattle.ftl.proofs.Places.{offset_lt}
use Rattle.ftl.proofs.within_page.Goals as goal

pub returns-then-l-geo : goal.returns-then-l-geo
returns-then-l-geo c = rw (le-ltb _ _ c.if-l-geo.true) refl

pub overflow_sub-geo : goal.overflow_sub-geo
overflow_sub-geo c = omega (arith, offset_lt c.args.geo c.args.sector c.requires.s≥)

pub returns-then-len-geo : goal.returns-then-len-geo
returns-then-len-geo c =
    let a = c.args in
    let d = offset_lt a.geo a.sector c.requires.s≥ in
    rw (lt-ltb _ _ c.if-l-geo.false, lt-leb (a.sector % a.geo.s + a.len) a.geo.s (omega (arith, c.if-len-geo.true))) refl

pub returns : goal.returns
returns c =
    let a = c.args in
    let d = offset_lt a.geo a.sector c.requires.s≥ in
    rw (lt-ltb _ _ c.if-l-geo.false, le-leb (a.sector % a.geo.s + a.len) a.geo.s (omega (arith, c.if-len-geo.false))) refl

-- `vectors::counting` meets its contract: each byte is what the closure gives at its index.
use Rattle.std.proofs.Common.{rules, ◌≡◌, length, arith}
use Rattle.vectors.proofs.counting.Goals as goal

pub returns-clause-counted : goal.returns-clause-counted
returns-clause-counted c i h =
    let long : length c.from_fn.result ≡ 300 = c.from_fn.ensures.items.long in
    let called = c.from_fn.ensures.items.at i 0 (omega arith) in
    search rules

-- `put_answer` meets its contract: letter and space, the text, the line feed.
use Rattle.std.proofs.Common.{◌≡◌, length, w64, ap, ◌∙◌, arith, rules}
use mir.Val.{SFits}
use mir.ValLaws.{to_z-of_z}
use lib.IntN.{ℤ}
use Rattle.lines.specs.Text.{answer_text}
use Rattle.lines.proofs.Signed.{held, text_length}
use Rattle.lines.proofs.Laid.{laid_next, laid_as}
use Rattle.lines.proofs.put_answer.Goals as goal

-- r as it is passed on is r
same : (r : ℤ) → SFits w64 r → answer_text (held r) ≡ answer_text r
same r f = ap answer_text (to_z-of_z w64 r f)

pub put_text-requires : goal.put_text-requires
put_text-requires c = omega (arith, text_length c.args.r c.ranges.r, ap length (same c.args.r c.ranges.r))

pub put-requires-3 : goal.put-requires-3
put-requires-3 c = omega (arith, text_length c.args.r c.ranges.r, ap length (same c.args.r c.ranges.r))

pub returns-clause-laid : goal.returns-clause-laid
returns-clause-laid c =
    let text = laid_as (same c.args.r c.ranges.r) c.put_text.ensures.laid in
    let told = laid_next text c.put-3.ensures.laid (omega arith) in
    let spaced = laid_next c.put-2.ensures.laid told (omega arith) in
    let line = laid_next c.put.ensures.laid spaced (omega arith) in
    (search rules) ∙ line.bytes

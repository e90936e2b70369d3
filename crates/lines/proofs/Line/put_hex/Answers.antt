-- `put_hex` meets its contract: a turn lays two digits behind those that are laid in.
use Rattle.std.proofs.Common.{[], ◌∷◌, refl, sym, ap₂, ap, ◌∙◌, ◌++◌, take, arith}
use Rattle.lines.specs.Text.{hex}
use Rattle.lines.proofs.Laid.{laid_none, laid_next, laid_as, hex-length, hex_so_far, hex_none, hex_more}
use Rattle.lines.proofs.Line.put_hex.Goals as goal

pub loop-b-init : goal.loop-b-init
loop-b-init c = record { same_buffer = refl; laid = laid_as (sym (hex_none c.args.bytes.now)) (laid_none c.args.self.now) }

pub put-requires : goal.put-requires
put-requires c =
    omega (arith, hex-length c.args.bytes.now, hex_so_far c.args.bytes.now c.loop-b.b-index (omega arith))

pub put-requires-in-loop-b : goal.put-requires-in-loop-b
put-requires-in-loop-b c =
    omega (arith, hex-length c.args.bytes.now, hex_so_far c.args.bytes.now c.loop-b.b-index (omega arith))

pub loop-b-preserved : goal.loop-b-preserved
loop-b-preserved c =
    let l = c.loop-b in
    let bytes = c.args.bytes.now in
    let two = ap₂ (λ x y. x ∷ (y ∷ [])) c.glyph.ensures c.glyph-in-loop-b.ensures in
    record {
      same_buffer = c.put-in-loop-b.ensures.same_buffer ∙ c.put.ensures.same_buffer ∙ l.invariant.same_buffer;
      laid =
          laid_as (ap (λ t. hex (take l.b-index bytes) ++ t) two ∙ sym (hex_more bytes l.b-index (omega arith)))
          (laid_next l.invariant.laid (laid_next c.put.ensures.laid c.put-in-loop-b.ensures.laid
          (omega (arith, hex-length bytes, hex_so_far bytes l.b-index (omega arith)))) (omega arith));
    }

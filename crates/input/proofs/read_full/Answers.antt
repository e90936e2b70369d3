-- Each read goes on behind what was read before.
use Rattle.std.proofs.Common.{◌≡◌, ◌≤◌, ℕ, ◌+◌, List, ◌++◌, length, take, drop, arith, subst, sym, ap, ◌∙◌, append_assoc, length-append}
use Rattle.std.proofs.lemmas.Grind.{common_steps}
use Rattle.std.proofs.lemmas.List.{take-append-drop}
use lib.Seq.{take_at, length-take-le}
use Rattle.std.proofs.KnownBytes.{Consumes-trans}
use Rattle.std.specs.Io.KnownBytes.{Consumes}
use borrow.Rule.Slice.PartMut.{put_mid, post_of}
use Rattle.input.proofs.read_full.Goals as goal

-- what stands in front after a read of n bytes behind the first a
longer : (a k n : ℕ) (xs ys : List ℕ) → a ≤ length xs → n ≤ length ys → take (a + n) (put_mid a k xs ys) ≡ take a xs ++ take n ys
longer a k n xs ys h g =
    let rest : List ℕ = post_of a k xs in
    let whole : ys ++ rest ≡ take n ys ++ (drop n ys ++ rest) =
    ap (λ l. l ++ rest) (sym (take-append-drop n ys)) ∙ append_assoc (take n ys) (drop n ys) rest in
    ap (λ l. take (a + n) (take a xs ++ l)) whole
    ∙ ap (take (a + n)) (sym (append_assoc (take a xs) (take n ys) (drop n ys ++ rest)))
    ∙ take_at _ _ (a + n) (omega (arith, length-append (take a xs) (take n ys), length-take-le a xs h, length-take-le n ys g))

pub loop-end-preserved : goal.loop-end-preserved
loop-end-preserved g c =
    let l = c.loop-end in
    record {
      bound = grind (arith, common_steps);
      bytes =
          subst (Consumes (g.R.Read.remaining c.args.from.now) (g.R.Read.remaining c.read.new.self))
          (sym (longer l.end _ c.in-Ok.k l.buffer c.read.new.buf l.invariant.bound c.in-Ok.ensures.bound.0))
          (Consumes-trans _ (g.R.Read.remaining l.from) _ _ _ l.invariant.bytes c.in-Ok.ensures.bytes.0);
    }

-- `read_in` meets its contract.
use Rattle.std.proofs.Common.{◌≡◌, ◌+◌, ◌*◌, sym, ◌∙◌, arith}
use Rattle.model.specs.Checkpoint.{map_of, free_of}
use Rattle.model.proofs.Bytes.{length-read}
use Rattle.model.proofs.Slots.{whole-splice}
use Rattle.model.proofs.Sealed.{size_fits, alloc_fits}
use Rattle.checkpoint.proofs.read_in.Goals as goal

-- the file has its exact length, and its allocation segment is a segment
pub get_words-requires : goal.get_words-requires
get_words-requires c =
    let t = c.args.t.now in
    (omega (arith, t.map_len), omega (arith, size_fits t.geo c.args.file.now c.requires))

pub get_words-requires-2 : goal.get_words-requires-2
get_words-requires-2 c =
    let t = c.args.t.now in
    (omega (arith, t.free_len), omega (arith, size_fits t.geo c.args.file.now c.requires))

pub get_long-requires : goal.get_long-requires
get_long-requires c = omega (arith, size_fits c.args.t.now.geo c.args.file.now c.requires)

pub overflow_cast-t : goal.overflow_cast-t
overflow_cast-t c =
    let t = c.args.t.now in
    omega (arith, alloc_fits t.geo c.args.file.now c.requires, t.good.n≤, c.get_long.ensures)

pub returns-clause-read : goal.returns-clause-read
returns-clause-read c =
    let t = c.args.t.now in
    let b = c.args.file.now in
    let m : c.get_words.new.d ≡ map_of t.geo b = c.get_words.ensures ∙ whole-splice (map_of t.geo b) t.map.now (length-read t.geo.e b 44 ∙ sym t.map_len) in
    let f : c.get_words-2.new.d ≡ free_of t.geo b =
    c.get_words-2.ensures ∙ whole-splice (free_of t.geo b) t.free.now (length-read t.geo.n b (44 + 4 * t.geo.e) ∙ sym t.free_len) in
    c.unlist.ensures.unlisted ∙ rw (m, f, c.get_long.ensures)

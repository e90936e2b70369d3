-- The lent tables are sound, and look as they do.
use Rattle.std.proofs.Common.{refl}
use Rattle.tables.specs.Parts.{tables_of}
use Rattle.page_write.proofs.found.Goals as goal

pub find_page-requires-clause-sound : goal.find_page-requires-clause-sound
find_page-requires-clause-sound c = (tables_of c.args.t.now, c.requires.sound, record { free_is = refl; alloc_is = refl })

pub returns : goal.returns
returns c = c.find_page.ensures (tables_of c.args.t.now) c.requires.sound record { free_is = refl; alloc_is = refl }

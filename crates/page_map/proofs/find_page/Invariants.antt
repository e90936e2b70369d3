-- On any sound tables that look so, what is found from the start is what is found from here.
use Rattle.std.proofs.Common.{◌≡◌}
use Rattle.model.specs.Tables.{Tables}
use Rattle.model.specs.PageMap.{find}
use Rattle.page_map.specs.Parts.{Looked}
use Rattle.page_map.proofs.Walk.{from}
use Rattle.page_map.proofs.find_page.Given as goal

abbrev pub invariant-loop-i : goal.invariant-loop-i
invariant-loop-i l = (t : Tables) → Looked t l.fn.free l.fn.alloc → find l.fn.geo l.fn.bad t ≡ from l.fn.geo l.fn.bad t l.i

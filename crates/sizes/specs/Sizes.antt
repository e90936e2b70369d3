-- What a caller lends, by size: "lent number slices of fixed capacity (p per list, n for the queue)", and the scratch of the public entries.
use Rattle.std.specs.Prelude.{ℕ, ◌*◌, cond}
use Rattle.model.specs.declared.Geometry.{Geometry}
use Rattle.model.specs.Numbers.{good?}
use Rattle.model.specs.Tables.{tab_words, pages}
use Rattle.model.specs.Checkpoint.{file_size}
use Rattle.model.specs.Entry.{page_scratch, seen_scratch}
pub use Rattle.sizes.specs.declared.Size.{Size}

abbrev pub size_of : Geometry → Size → ℕ
size_of G Size.TabWords = tab_words G
size_of G Size.UsedBytes = pages G
size_of G Size.FlashBytes = pages G * G.s
size_of G Size.MarkBytes = pages G
size_of G Size.CountWords = G.n
size_of G Size.BadBytes = G.n
size_of G Size.PageBytes = page_scratch G
size_of G Size.SeenBytes = seen_scratch G
size_of G Size.OrderWords = G.n
size_of G Size.TakenBytes = pages G
size_of G Size.CheckpointBytes = file_size G

-- 0 for a geometry that is refused
abbrev pub sized : Geometry → Size → ℕ
sized G what = cond (good? G) (size_of G what) 0

-- Tables just made of a file have nothing queued.
use Rattle.std.proofs.Common.{ap, ◌∙◌}
use Rattle.model.specs.Tables.{Tables}
use Rattle.model.specs.Checkpoint.{map_of, free_of, alloc_of}
use Rattle.model.proofs.Requeue.{restored_queued}
use Rattle.ftl.proofs.calls.RestoringDeed.run.Goals as goal

pub requeue-requires : goal.requeue-requires
requeue-requires c =
    let G = c.args.t.now.geo in
    let b = c.args.self.now.file.now in
    ap (λ (t : Tables). t.queued) c.restore.ensures.restored ∙ restored_queued G (map_of G b) (free_of G b) (alloc_of G b)

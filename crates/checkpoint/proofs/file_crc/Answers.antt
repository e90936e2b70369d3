-- `file_crc` meets its contract: the second part goes to the end.
use Rattle.std.proofs.Common.{◌-◌, length, drop, length-take, length-drop, arith}
use lib.Seq.{take_all}
use Rattle.checkpoint.proofs.file_crc.Goals as goal

pub slice_bounds-joined-end : goal.slice_bounds-joined-end
slice_bounds-joined-end c = simp length-take (omega arith)

pub returns : goal.returns
returns c =
    let s = c.args.file.now in
    cc (take_all (length s - 44) (drop 44 s) (rw length-drop (omega arith)))

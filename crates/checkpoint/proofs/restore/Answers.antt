-- `restore` meets its contract: the words are read in, the use marks set, the words settled, the taken marks cleared.
use Rattle.std.proofs.Common.{ℕ, ◌*◌, length, sym, ap, ap₂, ◌∙◌}
use Rattle.model.specs.declared.Geometry.{Geometry}
use Rattle.model.specs.Tables.{Tables}
use Rattle.model.proofs.Sealed.{accepted_sound}
use Rattle.tables.specs.Parts.{tables_of}
use Rattle.checkpoint.proofs.Restoring.{free_least, begins, comes}
use Rattle.checkpoint.proofs.restore.Goals as goal

pub mark_used-requires : goal.mark_used-requires
mark_used-requires c =
    let t = c.args.t.now in
    let r = c.read_in.new.t in
    let geo = c.read_in.ensures.same.geo in (
      ap (λ (x : Tables). length x.used) c.read_in.ensures.read
          ∙ c.requires.marks
          ∙ ap₂ (λ (n p : ℕ). n * p) (sym (r.free_len ∙ ap (λ (G : Geometry). G.n) geo)) (ap (λ (G : Geometry). G.p) (sym geo)),
      free_least t.geo r.geo c.read_in.ensures.same.geo c.args.file.now t.used.now c.requires.passes (tables_of r) c.read_in.ensures.read,
    )

pub settle_all-requires : goal.settle_all-requires
settle_all-requires c =
    let t = c.args.t.now in
    let r = c.read_in.new.t in
    begins t.geo r.geo c.read_in.ensures.same.geo c.args.file.now t.used.now c.requires.passes (tables_of r) c.read_in.ensures.read c.mark_used.new.used
    c.mark_used.ensures
    c.args.taken.now
    t.good
    c.requires.taken_value

pub returns-clause-restored : goal.returns-clause-restored
returns-clause-restored c =
    let t = c.args.t.now in
    let r = c.read_in.new.t in
    comes t.geo r.geo c.read_in.ensures.same.geo c.args.file.now t.used.now c.requires.passes (tables_of r) c.read_in.ensures.read c.mark_used.new.used
    c.mark_used.ensures
    t.good
    c.settle_all.ensures.ending

pub returns-clause-marks : goal.returns-clause-marks
returns-clause-marks c =
    let a = c.args in
    let S = accepted_sound a.t.now.geo a.file.now c.requires.passes a.t.now.good in
    rw (c.settle_all.ensures.same.geo, c.read_in.ensures.same.geo) (ap (λ (x : Tables). length x.used) (returns-clause-restored c) ∙ S.sized.used)

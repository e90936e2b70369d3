-- A unit that is lent in parts, as its recorder.
use Rattle.std.specs.Prelude.{◌≡◌, length}
use Rattle.model.specs.Device.{flash}
use Rattle.model.specs.Entry.{Recorder, recorder}
use Rattle.lending.specs.declared.UnitMut.{UnitMut}

abbrev pub recorder_of : UnitMut → Recorder
recorder_of u = recorder u.tab.now u.used.now (flash u.bytes.now u.marks.now u.counts.now u.fuse.now)

-- the geometry and the places lent are the same, and as long: what a call leaves lies where it was lent
pub record Same (a b : UnitMut) : Type 0 where
  pub geo : b.geo ≡ a.geo
  pub tab : b.tab.ghost_name ≡ a.tab.ghost_name
  pub used : b.used.ghost_name ≡ a.used.ghost_name
  pub bytes : b.bytes.ghost_name ≡ a.bytes.ghost_name
  pub marks : b.marks.ghost_name ≡ a.marks.ghost_name
  pub counts : b.counts.ghost_name ≡ a.counts.ghost_name
  pub fuse : b.fuse.ghost_name ≡ a.fuse.ghost_name
  pub tab_len : length b.tab.now ≡ length a.tab.now
  pub used_len : length b.used.now ≡ length a.used.now
  pub bytes_len : length b.bytes.now ≡ length a.bytes.now
  pub marks_len : length b.marks.now ≡ length a.marks.now
  pub counts_len : length b.counts.now ≡ length a.counts.now

use Rattle.std.proofs.Common.{◌≡◌, drop}
use Rattle.std.specs.List.{list_any}
use Rattle.isp_lanes_read.specs.Free.{is_of}
use Rattle.isp_lanes_read.proofs.table.Row.reads_of.Given as goal

abbrev pub invariant-loop-r : goal.invariant-loop-r
invariant-loop-r l = list_any (is_of l.vector) l.self.read.now ≡ list_any (is_of l.vector) (drop l.r-index l.self.read.now)

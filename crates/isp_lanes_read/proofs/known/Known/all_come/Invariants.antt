use Rattle.std.proofs.Common.{◌≡◌, drop}
use Rattle.std.specs.List.{list_all}
use Rattle.isp_lanes_read.specs.Rows.{seen_row}
use Rattle.isp_lanes_read.specs.reader.Passing.{comes}
use Rattle.isp_lanes_read.proofs.known.Known.all_come.Given as goal

abbrev pub invariant-loop-r : goal.invariant-loop-r
invariant-loop-r l =
    list_all (comes (seen_row l.self.row) l.self.more l.instr) l.read ≡ list_all (comes (seen_row l.self.row) l.self.more l.instr) (drop l.r-index l.read)

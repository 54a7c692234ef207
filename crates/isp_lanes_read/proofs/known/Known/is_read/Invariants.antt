use Rattle.std.proofs.Common.{◌≡◌, drop}
use Rattle.std.specs.List.{list_any}
use Rattle.isp_lanes_read.specs.Rows.{seen_row}
use Rattle.isp_lanes_read.specs.reader.Known.{is_reading}
use Rattle.isp_lanes_read.proofs.known.Known.is_read.Given as goal

abbrev pub invariant-loop-r : goal.invariant-loop-r
invariant-loop-r l =
    list_any (is_reading (seen_row l.self.row) l.self.more l.vector l.lanes) l.self.row.read.now ≡ list_any (is_reading (seen_row l.self.row) l.self.more l.vector l.lanes) (drop l.r-index l.self.row.read.now)

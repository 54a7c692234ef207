use Rattle.std.proofs.Common.{◌≡◌, drop}
use Rattle.std.specs.List.{list_all}
use Rattle.isp_lanes_read.specs.Rows.{seen_row}
use Rattle.isp_lanes_read.specs.reader.Passing.{covers_reading}
use Rattle.isp_lanes_read.proofs.table.Row.has_all.Given as goal

abbrev pub invariant-loop-r : goal.invariant-loop-r
invariant-loop-r l = list_all (covers_reading (seen_row l.self)) l.readings ≡ list_all (covers_reading (seen_row l.self)) (drop l.r-index l.readings)

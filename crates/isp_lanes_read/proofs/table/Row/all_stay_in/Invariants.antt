use Rattle.std.proofs.Common.{◌≡◌, drop}
use Rattle.std.specs.List.{list_all}
use Rattle.isp_lanes_read.specs.Free.{stays_in}
use Rattle.isp_lanes_read.specs.Rows.{seen_row}
use Rattle.isp_lanes_read.proofs.table.Row.all_stay_in.Given as goal

abbrev pub invariant-loop-r : goal.invariant-loop-r
invariant-loop-r l = list_all (stays_in (seen_row l.self) l.write) l.read ≡ list_all (stays_in (seen_row l.self) l.write) (drop l.r-index l.read)

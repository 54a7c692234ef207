use Rattle.std.proofs.Common.{◌≡◌, drop}
use Rattle.std.specs.List.{list_all}
use Rattle.isp_lanes_read.specs.Rows.{seen_row}
use Rattle.isp_lanes_read.specs.reader.Passing.{follows, mask_written}
use Rattle.isp_lanes_read.proofs.known.Known.all_follow.Given as goal

abbrev pub invariant-loop-x : goal.invariant-loop-x
invariant-loop-x l =
    list_all (follows (seen_row l.self.row) l.self.more (mask_written l.instr)) l.within ≡ list_all (follows (seen_row l.self.row) l.self.more (mask_written l.instr)) (drop l.x-index l.within)

use Rattle.std.proofs.Common.{◌≡◌, drop, map}
use Rattle.std.specs.List.{list_all}
use Rattle.isp_code.specs.Calls.{numbers}
use Rattle.isp_code.specs.declared.register.Class.TheVariants as class
use Rattle.isp_lanes_read.specs.Reads.{number_under}
use Rattle.isp_lanes_read.specs.Rows.{seen_row}
use Rattle.isp_lanes_read.specs.reader.Passing.{covers_reading}
use Rattle.isp_lanes_read.proofs.table.Row.has_passed.Given as goal

abbrev pub invariant-loop-x : goal.invariant-loop-x
invariant-loop-x l =
    list_all (covers_reading (seen_row l.self)) (map (number_under l.mask) (numbers class.Vector l.passed)) ≡ list_all (covers_reading (seen_row l.self)) (map (number_under l.mask) (numbers class.Vector (drop l.x-index l.passed)))

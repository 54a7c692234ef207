use Rattle.std.proofs.Common.{◌≡◌, drop}
use Rattle.std.specs.List.{list_all}
use Rattle.isp_lanes_read.specs.reader.Passing.{begins_so}
use Rattle.isp_lanes_read.proofs.checker.all_begin_so.Given as goal

abbrev pub invariant-loop-x : goal.invariant-loop-x
invariant-loop-x l = list_all begins_so l.within ≡ list_all begins_so (drop l.x-index l.within)

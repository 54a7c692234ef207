use Rattle.std.proofs.Common.{◌≡◌, drop, map}
use Rattle.isp_code.specs.Listing.{routine_of}
use Rattle.isp_lanes_read.specs.Rows.{rows_of}
use Rattle.isp_lanes_read.specs.reader.Passing.{functions_pass, passes}
use Rattle.isp_lanes_read.proofs.checker.all_pass.Given as goal

abbrev pub invariant-loop-f : goal.invariant-loop-f
invariant-loop-f l = passes l.code (rows_of l.tables) ≡ functions_pass l.code (rows_of l.tables) l.f (map routine_of (drop l.f l.functions))

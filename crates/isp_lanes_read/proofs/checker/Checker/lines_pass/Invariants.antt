use Rattle.std.proofs.Common.{◌≡◌, drop, map}
use Rattle.isp_code.specs.Listing.{routine_of}
use Rattle.isp_lanes_read.specs.Rows.{row_of}
use Rattle.isp_lanes_read.specs.reader.Passing.{lines_pass}
use Rattle.isp_lanes_read.proofs.checker.Checker.lines_pass.Given as goal

abbrev pub invariant-loop-pc : goal.invariant-loop-pc
invariant-loop-pc l =
    lines_pass l.self.code.now (map row_of l.self.lines.now) (routine_of l.self.function.now) 0 l.self.function.now.code.items ≡ lines_pass l.self.code.now (map row_of l.self.lines.now) (routine_of l.self.function.now) l.pc (drop l.pc l.self.function.now.code.items)

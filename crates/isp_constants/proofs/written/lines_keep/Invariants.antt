use Rattle.std.proofs.Common.{◌≡◌, drop}
use Rattle.isp_constants.specs.reader.Passing.{lines_keep}
use Rattle.isp_constants.proofs.written.lines_keep.Given as goal

abbrev pub invariant-loop-pc : goal.invariant-loop-pc
invariant-loop-pc l = lines_keep l.x 0 l.instrs ≡ lines_keep l.x l.pc (drop l.pc l.instrs)

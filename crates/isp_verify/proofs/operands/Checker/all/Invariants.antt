use Rattle.std.proofs.Common.{◌≡◌, drop}
use Rattle.isp_code.specs.Listing.{routine_of}
use Rattle.isp_verify.specs.Faults.{operands_fault}
use Rattle.isp_verify.proofs.operands.Checker.all.Given as goal

abbrev pub invariant-loop-operand : goal.invariant-loop-operand
invariant-loop-operand l = operands_fault l.self.code.now (routine_of l.self.function.now) l.operands ≡ operands_fault l.self.code.now (routine_of l.self.function.now) (drop l.operand-index l.operands)

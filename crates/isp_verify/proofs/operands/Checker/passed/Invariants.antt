use Rattle.std.proofs.Common.{◌≡◌, drop, map}
use Rattle.isp_code.specs.Listing.{routine_of}
use Rattle.isp_code.specs.Operands.{any_register}
use Rattle.isp_verify.specs.Faults.{operands_fault}
use Rattle.isp_verify.proofs.operands.Checker.passed.Given as goal

abbrev pub invariant-loop-register : goal.invariant-loop-register
invariant-loop-register l =
    operands_fault l.self.code.now (routine_of l.self.function.now) (map any_register l.passed) ≡ operands_fault l.self.code.now (routine_of l.self.function.now) (map any_register (drop l.register-index l.passed))

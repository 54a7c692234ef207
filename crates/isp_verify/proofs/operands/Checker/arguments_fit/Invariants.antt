use Rattle.std.proofs.Common.{◌≡◌, drop}
use Rattle.isp_code.specs.Listing.{routine_of}
use Rattle.isp_verify.specs.Faults.{arguments_fit}
use Rattle.isp_verify.proofs.operands.Checker.arguments_fit.Given as goal

abbrev pub invariant-loop-place : goal.invariant-loop-place
invariant-loop-place l =
    arguments_fit (routine_of l.self.function.now) l.params l.arguments ≡ arguments_fit (routine_of l.self.function.now) (drop l.place l.params) (drop l.place l.arguments)

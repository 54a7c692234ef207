use Rattle.std.proofs.Common.{◌≡◌, drop}
use Rattle.isp_code.specs.Listing.{routine_of}
use Rattle.isp_verify.specs.Faults.{instrs_fault}
use Rattle.isp_verify.proofs.check.check_instrs.Given as goal

abbrev pub invariant-loop-n : goal.invariant-loop-n
invariant-loop-n l =
    instrs_fault l.checker.code.now l.k (routine_of l.checker.function.now) 0 l.checker.function.now.code.items ≡ instrs_fault l.checker.code.now l.k (routine_of l.checker.function.now) l.n (drop l.n l.checker.function.now.code.items)

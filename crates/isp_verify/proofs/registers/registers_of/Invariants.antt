use Rattle.std.proofs.Common.{◌≡◌, ◌++◌, drop, map}
use Rattle.isp_code.specs.Listing.{routine_of}
use Rattle.isp_code.specs.Registers.{table_of}
use Rattle.isp_verify.proofs.registers.registers_of.Given as goal

abbrev pub invariant-loop-function : goal.invariant-loop-function
invariant-loop-function l =
    map table_of (map routine_of l.functions) ≡ l.all.items ++ map table_of (map routine_of (drop l.function-index l.functions))

use Rattle.std.proofs.Common.{◌≡◌, ◌++◌, drop}
use Rattle.isp_code.specs.Registers.{param_elems}
use Rattle.isp_verify.proofs.registers.param_elems.Given as goal

abbrev pub invariant-loop-param : goal.invariant-loop-param
invariant-loop-param l = param_elems l.class l.params ≡ l.elems.items ++ param_elems l.class (drop l.param-index l.params)

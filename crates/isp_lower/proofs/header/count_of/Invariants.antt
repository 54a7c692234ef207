use Rattle.std.proofs.Common.{◌≡◌, ◌≤◌, ◌+◌, drop, length}
use Rattle.isp_code.specs.Registers.{param_elems}
use Rattle.isp_lower.proofs.header.count_of.Given as goal

abbrev pub invariant-loop-param : goal.invariant-loop-param
invariant-loop-param l =
    (l.count + length (param_elems l.class (drop l.param-index l.params)) ≡ length (param_elems l.class l.params)) × (l.count ≤ l.param-index)

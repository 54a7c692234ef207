use Rattle.std.proofs.Common.{◌≡◌, drop}
use Rattle.std.specs.List.{list_any}
use Rattle.isp_verify.specs.Faults.{is_vector}
use Rattle.isp_verify.proofs.header.has_vector.Given as goal

abbrev pub invariant-loop-param : goal.invariant-loop-param
invariant-loop-param l = list_any is_vector l.params ≡ list_any is_vector (drop l.param-index l.params)

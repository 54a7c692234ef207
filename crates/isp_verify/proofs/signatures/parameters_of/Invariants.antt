use Rattle.std.proofs.Common.{◌≡◌, ◌++◌, drop, map}
use Rattle.isp_code.specs.Entries.{parameter_of}
use Rattle.isp_verify.proofs.signatures.parameters_of.Given as goal

abbrev pub invariant-loop-param : goal.invariant-loop-param
invariant-loop-param l = map parameter_of l.params ≡ l.all.items ++ map parameter_of (drop l.param-index l.params)

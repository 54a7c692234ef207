use Rattle.std.proofs.Common.{◌≡◌, ◌++◌, drop}
use Rattle.isp_lower_code.specs.Header.{params_of}
use Rattle.isp_lower.proofs.header.params.Given as goal

abbrev pub invariant-loop-place : goal.invariant-loop-place
invariant-loop-place l = l.params.items ++ params_of (drop l.place l.parameters) (drop l.place l.variables) ≡ params_of l.parameters l.variables

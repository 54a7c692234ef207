use Rattle.std.proofs.Common.{◌≡◌, ◌++◌, drop}
use Rattle.isp_lower_code.specs.Header.{locals_of}
use Rattle.isp_lower.proofs.header.locals.Given as goal

abbrev pub invariant-loop-variable : goal.invariant-loop-variable
invariant-loop-variable l = l.locals.items ++ locals_of (drop l.variable-index l.variables) ≡ locals_of l.variables

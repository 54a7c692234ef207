use Rattle.std.proofs.Common.{◌≡◌, ◌++◌}
use Rattle.std.specs.Prelude.{take}
use Rattle.isp_hints.specs.Accesses.{hints_in}
use Rattle.isp_hints.proofs.accesses.push_hints.Given as goal

abbrev pub invariant-loop-number : goal.invariant-loop-number
invariant-loop-number l = l.found.items ≡ l.initial.found.items ++ hints_in l.code (take l.number l.instrs.items)

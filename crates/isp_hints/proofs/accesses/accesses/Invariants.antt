use Rattle.std.proofs.Common.{◌≡◌, ◌++◌}
use Rattle.std.specs.Prelude.{map, take}
use Rattle.isp_code.specs.Listing.{routine_of}
use Rattle.isp_hints.specs.Accesses.{all_hints}
use Rattle.isp_hints.proofs.accesses.accesses.Given as goal

abbrev pub invariant-loop-number : goal.invariant-loop-number
invariant-loop-number l = l.found.items ≡ l.initial.found.items ++ all_hints l.code (map routine_of (take l.number l.functions))

use Rattle.std.proofs.Common.{◌≡◌, ◌++◌, length, drop}
use Rattle.isp_breaches.specs.reader.Lists.{parameters_faults}
use Rattle.isp_breaches.proofs.function.parameters.Given as goal

abbrev pub invariant-loop-name : goal.invariant-loop-name
invariant-loop-name l =
    l.found.items ++ parameters_faults (drop (length l.yielded) l.names) (drop (length l.yielded) l.variables)
    ≡ l.initial.found.items ++ parameters_faults l.names l.variables

use Rattle.std.proofs.Common.{◌≡◌, drop, map}
use Rattle.isp_typed.specs.Views.{functions_of}
use Rattle.isp_alike.specs.Bare.{bare_function}
use Rattle.isp_alike.specs.Renamed.{functions_renamed}
use Rattle.isp_alike.proofs.function.are_functions.Given as goal

abbrev pub invariant-loop-number : goal.invariant-loop-number
invariant-loop-number l =
    map bare_function (functions_of l.rest) ≡ map bare_function (functions_renamed l.to.subject l.to.name.now l.number (functions_of (drop l.number l.old)))
    → map bare_function (functions_of l.new) ≡ map bare_function (functions_renamed l.to.subject l.to.name.now 0 (functions_of l.old))

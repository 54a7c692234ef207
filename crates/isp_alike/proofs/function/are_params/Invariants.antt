use Rattle.std.proofs.Common.{◌≡◌, drop}
use Rattle.isp_alike.specs.Renamed.{params_renamed}
use Rattle.isp_alike.proofs.function.are_params.Given as goal

abbrev pub invariant-loop-number : goal.invariant-loop-number
invariant-loop-number l =
    l.rest ≡ params_renamed l.to.subject l.to.name.now l.function l.number (drop l.number l.old) → l.new ≡ params_renamed l.to.subject l.to.name.now l.function 0 l.old

use Rattle.std.proofs.Common.{◌≡◌, ◌++◌, drop}
use Rattle.isp_rates.specs.Exports.{exports_from}
use Rattle.isp_rates.proofs.exports.exports.Given as goal

abbrev pub invariant-loop-number : goal.invariant-loop-number
invariant-loop-number l = l.numbers.items ++ exports_from l.number (drop l.number l.functions) ≡ exports_from 0 l.functions

use Rattle.isp_independence.specs.reader.Firsts.{IsListed}
use Rattle.isp_independence.proofs.firsts.listed.Given as goal

abbrev pub invariant-loop-function : goal.invariant-loop-function
invariant-loop-function l = IsListed l.own l.function l.breaches.items

use Rattle.std.proofs.Common.{take}
use Rattle.isp_independence.specs.reader.Visits.{Visits}
use Rattle.isp_independence.proofs.spread.visit.Given as goal

abbrev pub invariant-loop-function : goal.invariant-loop-function
invariant-loop-function l = Visits (take l.function-index l.row) l.dependence l.initial.found.items l.found.items l.initial.waiting.items l.waiting.items

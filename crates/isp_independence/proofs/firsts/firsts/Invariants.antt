use Rattle.isp_independence.specs.Tables.{lists_of}
use Rattle.isp_independence.proofs.InOrder.{Firsts}
use Rattle.isp_independence.proofs.firsts.firsts.Given as goal

abbrev pub invariant-loop-breach : goal.invariant-loop-breach
invariant-loop-breach l = Firsts (lists_of l.calls) l.own l.breach-items l.breach-index l.found.items

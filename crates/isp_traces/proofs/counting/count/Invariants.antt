use Rattle.isp_traces.specs.Tallies.{IsGrouped}
use Rattle.isp_traces.proofs.Walks.{SoFar}
use Rattle.isp_traces.proofs.counting.count.Given as goal

abbrev pub invariant-loop-done : goal.invariant-loop-done
invariant-loop-done g l = SoFar l.done l.fn.machine l.machine l.stop l.counts × IsGrouped l.fn.grouping l.counts.groups

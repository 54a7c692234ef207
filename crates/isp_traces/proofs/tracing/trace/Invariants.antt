use Rattle.isp_traces.proofs.Parts.{Lined}
use Rattle.isp_traces.proofs.tracing.trace.Given as goal

abbrev pub invariant-loop-number : goal.invariant-loop-number
invariant-loop-number g l = Lined l.window.lanes l.first l.number l.fn.machine l.machine l.stop l.text.items

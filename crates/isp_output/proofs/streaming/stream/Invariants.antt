use Rattle.std.proofs.Common.{◌≡◌, ◌-◌, ◌≤◌, false}
use Rattle.isp_machine.specs.Runs.{Made}
use Rattle.isp_output.specs.Stops.{Adds}
use Rattle.isp_output.specs.Sinks.{TookAll}
use Rattle.isp_output.proofs.streaming.stream.Given as goal

abbrev pub invariant-loop-left : goal.invariant-loop-left
invariant-loop-left g l = record {
  within : l.left ≤ l.fn.budget;
  fresh : g.W.Sink.has_failed l.out ≡ false;
  made : Made (l.fn.budget - l.left) l.initial.machine l.machine;
  adds : Adds l.initial.machine l.machine (λ bytes. TookAll bytes (g.W.Sink.written l.initial.out) (g.W.Sink.written l.out) (g.W.Sink.has_failed l.out));
}

abbrev pub decreases-loop-left : goal.decreases-loop-left
decreases-loop-left g l = l.left

use Rattle.std.proofs.Common.{◌≡◌, ◌≤◌, ◌-◌, false, length, take}
use Rattle.isp_output.specs.Sinks.{adds}
use Rattle.isp_output.proofs.sink.write_all.Given as goal

abbrev pub invariant-loop-taken : goal.invariant-loop-taken
invariant-loop-taken g l =
    (l.taken ≤ length l.bytes)
    × (g.W.Sink.has_failed l.out ≡ false)
    × (g.W.Sink.written l.out ≡ adds (take l.taken l.bytes) (g.W.Sink.written l.initial.out))

abbrev pub decreases-loop-taken : goal.decreases-loop-taken
decreases-loop-taken g l = length l.bytes - l.taken

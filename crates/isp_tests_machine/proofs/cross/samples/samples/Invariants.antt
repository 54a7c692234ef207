use Rattle.std.proofs.Common.{◌≡◌}
use Rattle.isp_tests_machine.proofs.cross.samples.samples.Given as goal

abbrev pub invariant-loop-lane : goal.invariant-loop-lane
invariant-loop-lane g l = l.row.elem ≡ l.elem

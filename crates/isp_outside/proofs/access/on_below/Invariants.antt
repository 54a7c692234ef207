use Rattle.std.proofs.Common.{◌≡◌, ◌≤◌}
use Rattle.isp_machine.specs.Seen.{seen_conf}
use Rattle.isp_outside.specs.Asked.{on_below}
use Rattle.isp_outside.proofs.access.on_below.Given as goal

abbrev pub invariant-loop-below : goal.invariant-loop-below
invariant-loop-below g l = (l.count ≡ on_below l.machine.code (seen_conf l.machine) l.mask l.below) × (l.count ≤ l.below)

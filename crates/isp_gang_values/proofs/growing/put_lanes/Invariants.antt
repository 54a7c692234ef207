use Rattle.std.proofs.Common.{◌≡◌, length}
use Rattle.isp_gang_values.specs.Growing.{lanes_of}
use Rattle.isp_gang_values.proofs.growing.put_lanes.Given as goal

abbrev pub invariant-loop-next : goal.invariant-loop-next
invariant-loop-next l = record { same : lanes_of l.values.items ≡ lanes_of l.initial.values.items; long : length l.values.items ≡ l._next }

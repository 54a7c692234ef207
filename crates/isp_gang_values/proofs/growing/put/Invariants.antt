use Rattle.std.proofs.Common.{◌≡◌, length}
use Rattle.isp_gang_values.specs.Growing.{values_of}
use Rattle.isp_gang_values.proofs.growing.put.Given as goal

abbrev pub invariant-loop-next : goal.invariant-loop-next
invariant-loop-next l = record { same : values_of l.values.items ≡ values_of l.initial.values.items; long : length l.values.items ≡ l._next }

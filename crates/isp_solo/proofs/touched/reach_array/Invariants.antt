use Rattle.std.proofs.Common.{◌≡◌, length}
use Rattle.isp_solo.specs.Touched.{touched_seen}
use Rattle.isp_solo.proofs.touched.reach_array.Given as goal

abbrev pub invariant-loop-next : goal.invariant-loop-next
invariant-loop-next l = record { same : touched_seen l.touched.items ≡ touched_seen l.initial.touched.items; long : length l.touched.items ≡ l._next }

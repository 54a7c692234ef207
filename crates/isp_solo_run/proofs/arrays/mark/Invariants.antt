use Rattle.std.proofs.Common.{◌≡◌, length}
use Rattle.isp_solo_run.specs.Arrays.{marks_of}
use Rattle.isp_solo_run.proofs.arrays.mark.Given as goal

abbrev pub invariant-loop-next : goal.invariant-loop-next
invariant-loop-next l = record { same : marks_of l.marks.items ≡ marks_of l.initial.marks.items; long : length l.marks.items ≡ l._next }

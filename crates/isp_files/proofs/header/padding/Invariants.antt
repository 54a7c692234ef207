use Rattle.std.proofs.Common.{◌≡◌, ◌≤◌}
use Rattle.isp_files.specs.Npy.{padding_of}
use Rattle.isp_files.proofs.header.padding.Given as goal

abbrev pub invariant-loop-left : goal.invariant-loop-left
invariant-loop-left l = (padding_of l.size l.initial.reader ≡ padding_of l.left l.reader) × (1 ≤ l.left)

abbrev pub decreases-loop-left : goal.decreases-loop-left
decreases-loop-left l = l.left

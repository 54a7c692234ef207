use Rattle.std.proofs.Common.{◌≡◌}
use Rattle.isp_files.specs.Npy.{dims_of}
use Rattle.isp_files.specs.Reading.{ahead}
use Rattle.isp_files.proofs.entry.dims.Given as goal

abbrev pub invariant-loop-left : goal.invariant-loop-left
invariant-loop-left l = ahead l.initial.lengths.items (dims_of 63 l.initial.reader) ≡ ahead l.lengths.items (dims_of l.left l.reader)

abbrev pub decreases-loop-left : goal.decreases-loop-left
decreases-loop-left l = l.left

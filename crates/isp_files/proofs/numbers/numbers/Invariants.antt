use Rattle.std.proofs.Common.{◌≡◌}
use Rattle.isp_files.specs.Endian.{number_in}
use Rattle.isp_files.specs.Reading.{ahead, numbers_of}
use Rattle.isp_files.proofs.numbers.numbers.Given as goal

abbrev pub invariant-loop-left : goal.invariant-loop-left
invariant-loop-left l =
    (numbers_of (number_in l.endian) l.cell.size l.cell.most l.fn.count l.initial.reader ≡ ahead l.array.bits (numbers_of (number_in l.endian) l.cell.size l.cell.most l.left l.reader)) × (l.array.elem ≡ l.cell.elem)

abbrev pub decreases-loop-left : goal.decreases-loop-left
decreases-loop-left l = l.left

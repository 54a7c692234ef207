use Rattle.std.proofs.Common.{◌≡◌, ◌≤◌, drop}
use Rattle.isp_files.specs.Files.{count_of, counted}
use Rattle.isp_files.specs.Reading.{longest}
use Rattle.isp_files.proofs.grid.count.Given as goal

abbrev pub invariant-loop-length : goal.invariant-loop-length
invariant-loop-length l = (count_of l.shape ≡ counted l.count (drop l.length-index l.shape)) × (l.count ≤ longest)

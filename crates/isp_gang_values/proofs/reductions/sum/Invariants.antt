use Rattle.std.proofs.Common.{◌≡◌}
use Rattle.isp_gang_values.specs.Seen.{map_of}
use Rattle.isp_gang_values.proofs.Sums.{sum_below}
use Rattle.isp_gang_values.proofs.reductions.sum.Given as goal

abbrev pub invariant-loop-instance : goal.invariant-loop-instance
invariant-loop-instance l = l.total ≡ sum_below l.elem (map_of l.row) l.instance

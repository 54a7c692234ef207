use Rattle.std.proofs.Common.{◌≡◌, None}
use Rattle.isp_base.specs.Cross.{best, fold_below}
use Rattle.isp_gang_values.specs.Seen.{map_of}
use Rattle.isp_base.specs.Values.{op_bits}
use Rattle.isp_gang_values.proofs.reductions.extreme.Given as goal

abbrev pub invariant-loop-instance : goal.invariant-loop-instance
invariant-loop-instance l = l.found ≡ fold_below (best (op_bits l.operator l.elem)) None (map_of l.row) l.instance

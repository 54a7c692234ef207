use Rattle.std.proofs.Common.{None}
use Rattle.isp_base.specs.Maps.{map2}
use Rattle.isp_base.specs.Values.{op_bits}
use Rattle.isp_gang_values.specs.Seen.{map_of}
use Rattle.isp_gang_values.proofs.Made.{Made}
use Rattle.isp_gang_values.proofs.row.binary.Given as goal

abbrev pub invariant-loop-instance : goal.invariant-loop-instance
invariant-loop-instance l = Made None (map2 (op_bits l.operator l.elem) (map_of l.left) (map_of l.right)) l.row l.instance

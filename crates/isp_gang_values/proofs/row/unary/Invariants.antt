use Rattle.std.proofs.Common.{None}
use Rattle.isp_base.specs.Maps.{map1}
use Rattle.isp_base.specs.Unary.{unary_bits}
use Rattle.isp_gang_values.specs.Seen.{map_of}
use Rattle.isp_gang_values.proofs.Made.{Made}
use Rattle.isp_gang_values.proofs.row.unary.Given as goal

abbrev pub invariant-loop-instance : goal.invariant-loop-instance
invariant-loop-instance l = Made None (map1 (unary_bits l.operator l.elem) (map_of l.operand)) l.row l.instance

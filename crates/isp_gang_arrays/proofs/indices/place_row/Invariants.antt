use Rattle.std.proofs.Common.{None}
use Rattle.isp_base.specs.Access.{element}
use Rattle.isp_base.specs.Maps.{map1}
use Rattle.isp_gang_values.specs.Seen.{map_of}
use Rattle.isp_gang_values.proofs.Made.{Made}
use Rattle.isp_gang_arrays.proofs.indices.place_row.Given as goal

abbrev pub invariant-loop-instance : goal.invariant-loop-instance
invariant-loop-instance l = Made None (map1 (element l.elem) (map_of l.indices)) l.row l.instance

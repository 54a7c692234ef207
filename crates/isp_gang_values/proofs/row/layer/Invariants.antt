use Rattle.std.proofs.Common.{None}
use Rattle.isp_meaning.specs.Payloads.{layer}
use Rattle.isp_gang_values.specs.Seen.{map_of}
use Rattle.isp_gang_values.proofs.Made.{Made}
use Rattle.isp_gang_values.proofs.row.layer.Given as goal

abbrev pub invariant-loop-instance : goal.invariant-loop-instance
invariant-loop-instance l = Made None (layer (map_of l.first) (map_of l.second)) l.row l.instance

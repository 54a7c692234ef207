use Rattle.std.proofs.Common.{None}
use Rattle.isp_base.specs.Cross.{rotate}
use Rattle.isp_base.specs.Maps.{on}
use Rattle.isp_base.specs.Sets.{flag_of}
use Rattle.isp_base.specs.Types.{gang_width}
use Rattle.isp_gang_values.specs.Seen.{map_of}
use Rattle.isp_gang_values.proofs.Made.{Made}
use Rattle.isp_gang_values.proofs.cross.rotated.Given as goal

abbrev pub invariant-loop-instance : goal.invariant-loop-instance
invariant-loop-instance l = Made None (on (flag_of l.set) (rotate (gang_width l.gang) (map_of l.row) l.count)) l.moved l.instance

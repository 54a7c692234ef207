use Rattle.std.proofs.Common.{None}
use Rattle.isp_base.specs.Cross.{shuffle_two}
use Rattle.isp_base.specs.Maps.{on}
use Rattle.isp_base.specs.Sets.{flag_of}
use Rattle.isp_base.specs.Types.{gang_width}
use Rattle.isp_gang_values.specs.Seen.{map_of}
use Rattle.isp_gang_values.proofs.Made.{Made}
use Rattle.isp_gang_values.proofs.cross.shuffled_two.Given as goal

abbrev pub invariant-loop-instance : goal.invariant-loop-instance
invariant-loop-instance l = Made None (on (flag_of l.set) (shuffle_two (gang_width l.gang) (map_of l.first) (map_of l.second) (map_of l.indices))) l.moved l.instance

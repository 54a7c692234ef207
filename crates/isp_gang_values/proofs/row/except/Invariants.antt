use Rattle.std.proofs.Common.{None}
use Rattle.isp_base.specs.Sets.{flag_of}
use Rattle.isp_meaning.specs.Payloads.{except}
use Rattle.isp_gang_values.specs.Seen.{map_of}
use Rattle.isp_gang_values.proofs.Made.{Made}
use Rattle.isp_gang_values.proofs.row.except.Given as goal

abbrev pub invariant-loop-instance : goal.invariant-loop-instance
invariant-loop-instance l = Made None (except (map_of l.row) (flag_of l.set)) l.rest l.instance

use Rattle.std.proofs.Common.{false}
use Rattle.isp_base.specs.Values.{number}
use Rattle.isp_meaning.specs.Rounds.{holding}
use Rattle.isp_gang_values.specs.Seen.{map_of}
use Rattle.isp_gang_values.proofs.Made.{Made}
use Rattle.isp_gang_values.proofs.row.where_same.Given as goal

abbrev pub invariant-loop-instance : goal.invariant-loop-instance
invariant-loop-instance l = Made false (holding l.elem (number l.elem l.bits) (map_of l.row)) l.set l.instance

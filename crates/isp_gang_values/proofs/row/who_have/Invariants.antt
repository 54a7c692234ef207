use Rattle.std.proofs.Common.{false}
use Rattle.isp_meaning.specs.Rounds.{have}
use Rattle.isp_gang_values.specs.Seen.{map_of}
use Rattle.isp_gang_values.proofs.Made.{Made}
use Rattle.isp_gang_values.proofs.row.who_have.Given as goal

abbrev pub invariant-loop-instance : goal.invariant-loop-instance
invariant-loop-instance l = Made false (have (map_of l.row)) l.set l.instance

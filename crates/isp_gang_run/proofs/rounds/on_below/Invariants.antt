use Rattle.std.proofs.Common.{false}
use Rattle.isp_gang_values.specs.Left.{numbers_below}
use Rattle.isp_gang_values.proofs.Made.{Made}
use Rattle.isp_gang_run.proofs.rounds.on_below.Given as goal

abbrev pub invariant-loop-instance : goal.invariant-loop-instance
invariant-loop-instance l = Made false (numbers_below l.instance-end l.range.next l.range.end) l.set l.instance

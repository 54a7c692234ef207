use Rattle.std.proofs.Common.{None}
use Rattle.isp_base.specs.Maps.{on}
use Rattle.isp_base.specs.Sets.{flag_of}
use Rattle.isp_base.specs.Values.{wrap}
use Rattle.isp_base.specs.declared.types.Elem.TheVariants.{I32}
use Rattle.isp_gang_values.specs.Left.{number_now}
use Rattle.isp_gang_values.proofs.Made.{Made}
use Rattle.isp_gang_run.proofs.rounds.index_row.Given as goal

abbrev pub invariant-loop-instance : goal.invariant-loop-instance
invariant-loop-instance l = Made None (on (flag_of l.set) (λ p. wrap I32 (number_now l.range.next l.is_last p))) l.row l.instance

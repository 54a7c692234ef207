use Rattle.std.proofs.Common.{◌≡◌}
use Rattle.isp_base.specs.Cross.{all_of}
use Rattle.isp_meaning.specs.Payloads.{is_true}
use Rattle.isp_gang_values.specs.Seen.{map_of}
use Rattle.isp_gang_values.proofs.reductions.all_true.Given as goal

abbrev pub invariant-loop-instance : goal.invariant-loop-instance
invariant-loop-instance l = l.all ≡ all_of is_true l.instance (map_of l.row)

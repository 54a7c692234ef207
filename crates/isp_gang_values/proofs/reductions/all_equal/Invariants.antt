use Rattle.std.proofs.Common.{◌≡◌, nat_eq}
use Rattle.isp_base.specs.Cross.{all_of}
use Rattle.isp_gang_values.specs.Seen.{map_of}
use Rattle.isp_gang_values.proofs.reductions.all_equal.Given as goal

abbrev pub invariant-loop-instance : goal.invariant-loop-instance
invariant-loop-instance l = l.all ≡ all_of (λ b. nat_eq b l.first) l.instance (map_of l.row)

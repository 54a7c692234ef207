use Rattle.std.proofs.Common.{None}
use Rattle.isp_base.specs.Access.{element}
use Rattle.isp_base.specs.Maps.{each1}
use Rattle.isp_gang_values.specs.Seen.{map_of}
use Rattle.isp_gang_values.proofs.Made.{Made}
use Rattle.isp_gang_arrays.specs.Stores.{own_of}
use Rattle.isp_gang_arrays.proofs.indices.picked_own.Given as goal

abbrev pub invariant-loop-instance : goal.invariant-loop-instance
invariant-loop-instance l = Made None (λ p. each1 (λ x. own_of l.arrays l.array (element l.elem x) p) (map_of l.indices p)) l.row l.instance

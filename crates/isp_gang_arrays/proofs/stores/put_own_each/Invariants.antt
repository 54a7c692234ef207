use Rattle.std.proofs.Common.{◌≡◌}
use Rattle.isp_base.specs.Maps.{put}
use Rattle.isp_gang_values.specs.Seen.{map_of}
use Rattle.isp_gang_arrays.specs.Stores.{own_of}
use Rattle.isp_gang_arrays.proofs.Puts.{own_part}
use Rattle.isp_gang_arrays.proofs.stores.put_own_each.Given as goal

abbrev pub invariant-loop-instance : goal.invariant-loop-instance
invariant-loop-instance l =
    own_of l.arrays.items ≡ put (own_of l.initial.arrays.items) l.array (own_part l.instance (map_of l.places) (map_of l.values) (own_of l.initial.arrays.items l.array))

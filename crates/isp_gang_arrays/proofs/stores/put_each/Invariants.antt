use Rattle.std.proofs.Common.{◌≡◌}
use Rattle.isp_base.specs.Access.{scatter}
use Rattle.isp_base.specs.Maps.{put}
use Rattle.isp_gang_values.specs.Seen.{map_of}
use Rattle.isp_gang_arrays.specs.Stores.{stores_of}
use Rattle.isp_gang_arrays.proofs.stores.put_each.Given as goal

abbrev pub invariant-loop-instance : goal.invariant-loop-instance
invariant-loop-instance l =
    stores_of l.stores.items ≡ put (stores_of l.initial.stores.items) l.store (scatter l.instance (map_of l.places) (map_of l.values) (stores_of l.initial.stores.items l.store))

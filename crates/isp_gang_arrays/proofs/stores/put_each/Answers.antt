use Rattle.isp_gang_values.specs.Seen.{map_of}
use Rattle.isp_gang_arrays.specs.Stores.{stores_of}
use Rattle.isp_gang_arrays.proofs.Puts.{scatter_next}
use Rattle.isp_gang_arrays.proofs.stores.put_each.Goals as goal

pub loop-instance-preserved : goal.loop-instance-preserved
loop-instance-preserved c =
    scatter_next (stores_of c.args.stores.now.items) (stores_of c.loop-instance.stores.items) (stores_of c.put_one.new.stores.items) c.args.store
    c.loop-instance.instance (map_of c.args.places.now) (map_of c.args.values.now) c.loop-instance.invariant c.in_ok-put_one.ensures

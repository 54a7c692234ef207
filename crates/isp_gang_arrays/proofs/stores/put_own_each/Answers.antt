use Rattle.std.proofs.Common.{arith}
use Rattle.isp_gang_values.specs.Seen.{map_of}
use Rattle.isp_gang_arrays.specs.Stores.{own_of}
use Rattle.isp_gang_arrays.proofs.Puts.{own_first, own_next_store, own_last}
use Rattle.isp_gang_arrays.proofs.stores.put_own_each.Goals as goal

pub loop-instance-init : goal.loop-instance-init
loop-instance-init c = own_first (own_of c.args.arrays.now.items) c.args.array (map_of c.args.places.now) (map_of c.args.values.now)

pub loop-instance-preserved : goal.loop-instance-preserved
loop-instance-preserved c =
    own_next_store (own_of c.args.arrays.now.items) (own_of c.loop-instance.arrays.items) (own_of c.put_lane.new.arrays.items) c.args.array
    c.loop-instance.instance (map_of c.args.places.now) (map_of c.args.values.now) c.loop-instance.invariant c.in_ok-put_lane.ensures

pub returns : goal.returns
returns c = own_last (own_of c.args.arrays.now.items) (own_of c.loop-instance.arrays.items) c.args.array c.loop-instance.instance c.args.places.now
    (map_of c.args.values.now) c.told-places (omega (arith, c.loop-instance-test.false, c.loop-instance.auto)) c.loop-instance.invariant

use Rattle.std.proofs.Common.{arith}
use Rattle.isp_solo_run.specs.Arrays.{wrote_seen}
use Rattle.isp_solo.proofs.Leaving.{stored_none, stored_all}
use Rattle.isp_solo.proofs.left.store_in.Goals as goal

pub loop-place-init : goal.loop-place-init
loop-place-init c = stored_none c.args.array.now (wrote_seen c.args.run.now.stores.items c.args.store)

pub returns : goal.returns
returns c = stored_all c.args.array.now c.loop-place.array (wrote_seen c.args.run.now.stores.items c.args.store) c.loop-place.place c.loop-place.invariant (omega (arith, c.loop-place-test.false, c.len-place-end.ensures))

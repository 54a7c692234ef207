use Rattle.std.proofs.Common.{arith}
use Rattle.std.specs.Prelude.{length}
use Rattle.isp_masks.proofs.Awaiting.{below_at}
use Rattle.isp_masks.proofs.awaited.land_all.Goals as goal

pub land-requires : goal.land-requires
land-requires c =
    let low = below_at (length c.args.b.now.code.items) c.args.jumps.now c.loop-at.at-index 0 c.requires c.loop-at-test.true in
    omega (arith, low, c.loop-at.invariant.1)

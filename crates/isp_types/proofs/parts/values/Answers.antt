use Rattle.std.proofs.Common.{◌+◌, drop}
use Rattle.isp_types.proofs.Joined.{split_at}
use Rattle.isp_types.proofs.PartSteps.{values_step}
use Rattle.isp_types.proofs.parts.values.Goals as goal

pub loop-x-preserved : goal.loop-x-preserved
loop-x-preserved c =
    let xs = c.args.all.now in
    let i = c.loop-x.x-index in
    let x = c.x-item.result in
    rw (c.in_ok-done.ensures, c.in_ok-part.ensures)
    (values_step c.args.setting.now.gang c.args.setting.now.headers.now c.args.scope.now (drop i xs) (drop (i + 1) xs) _ _ x
    (split_at xs i x c.loop-x-test.true c.x-item.is) c.loop-x.invariant)

use Rattle.isp_tree.specs.Views.{range_of as read_range}
use Rattle.isp_typed.specs.Verdicts.{made}
use Rattle.isp_types.specs.reader.Boxes.{boxed_pair}
use Rattle.isp_types.specs.reader.Lists.{bounds_verdict}
use Rattle.isp_types.proofs.Joined.{viewed_step}
use Rattle.isp_types.proofs.parts.all_bounds.Goals as goal

pub loop-r-preserved : goal.loop-r-preserved
loop-r-preserved c =
    rw c.in_ok-push.ensures.items
    (viewed_step (made boxed_pair) (bounds_verdict c.args.setting.now.gang c.args.setting.now.headers.now c.args.scope.now) read_range
    c.args.all.now c.loop-r.r-index c.r-item.result c.loop-r.done.items c.in_ok-part.part c.loop-r-test.true c.r-item.is c.loop-r.invariant c.in_ok-part.ensures)

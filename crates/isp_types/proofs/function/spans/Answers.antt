use Rattle.std.proofs.Common.{refl}
use Rattle.isp_tree.specs.Views.{param_of as read_param}
use Rattle.isp_types.specs.Functions.{param_span}
use Rattle.isp_types.proofs.Joined.{done_step}
use Rattle.isp_types.proofs.function.spans.Goals as goal

pub loop-p-preserved : goal.loop-p-preserved
loop-p-preserved c =
    rw c.in_ok-push.ensures.items
    (done_step param_span read_param c.args.all.now c.loop-p.p-index c.p-item.result c.loop-p.done.items _ c.loop-p-test.true c.p-item.is c.loop-p.invariant refl)

use Rattle.isp_tree.specs.Views.{function_of as read_function}
use Rattle.isp_types.specs.Functions.{heading}
use Rattle.isp_types.proofs.Joined.{done_step}
use Rattle.isp_types.proofs.program.headers.Goals as goal

pub loop-f-preserved : goal.loop-f-preserved
loop-f-preserved c =
    rw c.in_ok-push.ensures
    (done_step heading read_function c.args.all.now c.loop-f.f-index c.f-item.result c.loop-f.done _ c.loop-f-test.true c.f-item.is c.loop-f.invariant c.in_ok-next.ensures)

use Rattle.isp_gang_run.proofs.Fewer.{active_fewer}
use Rattle.isp_gang_run.proofs.Progress.{leaves_within}
use Rattle.isp_gang_run.specs.Due.{each_due, members_due, own}
use Rattle.isp_gang_run.proofs.Foreach.{active_comes}
use Rattle.isp_gang_run.proofs.state.Evaluator.foreach_active.Goals as goal

pub returns-clause-ok : goal.returns-clause-ok
returns-clause-ok c =
    active_comes c.args.self.now c.members.new.self c.tick.new.self c.tick.ensures c.in_ok-members.members c.args.index c.args.body c.args.set c.in_ok-members.ensures.ok c.in_ok-members-2.ensures.ok

pub returns-clause-fewer : goal.returns-clause-fewer
returns-clause-fewer c =
    leaves_within c.args.self.now c.members.new.self c.args.self.now.left (own c.args.self.now each_due c.args.body) (own c.args.self.now members_due c.in_ok-members.members.value) (active_fewer c.args.self.now c.in_ok-members.members c.args.index c.args.body c.args.set c.in_ok-members.ensures.ok) c.in_ok-members-2.ensures.fewer

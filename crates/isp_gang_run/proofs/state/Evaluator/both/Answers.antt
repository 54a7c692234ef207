use Rattle.isp_gang_run.proofs.Progress.{both_leaves}
use Rattle.isp_gang_run.proofs.Steps.{two_first}
use Rattle.isp_gang_run.proofs.state.Evaluator.both.Goals as goal

pub returns-clause-ok : goal.returns-clause-ok
returns-clause-ok c =
    two_first c.args.self.now c.later.new.self c.later-2.new.self c.args.second c.args.first c.in_ok-later.ensures.ok c.in_ok-later.ensures.rest c.in_ok-later-2.ensures.ok c.in_ok-later-2.ensures.rest

pub returns-clause-fewer : goal.returns-clause-fewer
returns-clause-fewer c =
    both_leaves c.args.self.now c.later.new.self c.later-2.new.self c.args.first c.args.second c.in_ok-later.ensures.ok c.in_ok-later.ensures.rest c.in_ok-later-2.ensures.fewer

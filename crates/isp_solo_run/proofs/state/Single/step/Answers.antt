use Rattle.isp_solo_run.proofs.Runs.{no_step_tells, step_tells}
use Rattle.isp_solo_run.specs.Tasks.{store_seen}
use Rattle.isp_solo_run.proofs.Results.{at_found}
use Rattle.isp_solo_run.proofs.Runs.{step_goes, no_step}
use Rattle.isp_solo_run.proofs.Steps.{tells_by}
use Rattle.isp_solo_run.proofs.state.Single.step.Goals as goal

pub returns-in-Some : goal.returns-in-Some
returns-in-Some c =
    let old = c.args.self.now in
    step_tells c.both.result old c.both.new.self c.args.turning c.in-Ok.after c.in-Some.step (at_found _ c.new.result _ c.in-Ok.is c.new.ensures.ok) c.in-Some.is c.both.ensures

pub returns-in-None : goal.returns-in-None
returns-in-None c =
    let old = c.args.self.now in
    no_step_tells c.later.result old c.later.new.self c.args.turning c.in-Ok.after (at_found _ c.new.result _ c.in-Ok.is c.new.ensures.ok) c.in-None.is c.later.ensures

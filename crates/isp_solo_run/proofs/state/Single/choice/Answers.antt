use Rattle.isp_solo_run.proofs.Runs.{choice_tells}
use Rattle.isp_solo_run.specs.Tasks.{store_seen}
use Rattle.isp_solo_run.proofs.Results.{at_found}
use Rattle.isp_solo_run.proofs.Runs.{choice_is}
use Rattle.isp_solo_run.proofs.Steps.{tells_by}
use Rattle.isp_solo_run.proofs.state.Single.choice.Goals as goal

pub returns-in-Ok : goal.returns-in-Ok
returns-in-Ok c =
    let old = c.args.self.now in
    choice_tells c.both.result old c.both.new.self c.args.test (record { then = c.args.then; otherwise = c.args.otherwise }) c.in-Ok.after (at_found _ c.new.result _ c.in-Ok.is c.new.ensures.ok) c.both.ensures

use Rattle.isp_solo_run.proofs.Runs.{no_test_tells, test_tells}
use Rattle.isp_solo_run.specs.Tasks.{store_seen}
use Rattle.isp_solo_run.proofs.Results.{at_found}
use Rattle.isp_solo_run.proofs.Runs.{test_goes, no_test}
use Rattle.isp_solo_run.proofs.Steps.{tells_by}
use Rattle.isp_solo_run.proofs.state.Single.test.Goals as goal

pub returns-in-Ok : goal.returns-in-Ok
returns-in-Ok c =
    let old = c.args.self.now in
    test_tells c.both.result old c.both.new.self c.args.turning c.in-Ok.after c.in-Some.test (at_found _ c.new.result _ c.in-Ok.is c.new.ensures.ok) c.in-Some.is c.both.ensures

pub returns-in-None : goal.returns-in-None
returns-in-None c =
    let old = c.args.self.now in
    no_test_tells c.turn.result old c.turn.new.self c.args.turning c.in-None.is c.turn.ensures

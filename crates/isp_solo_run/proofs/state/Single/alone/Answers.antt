use Rattle.isp_solo_run.proofs.Results.{at_ok}
use Rattle.isp_solo_run.proofs.Runs.{alone_tells}
use Rattle.isp_solo_run.proofs.state.Single.alone.Goals as goal

pub returns-in-Ok : goal.returns-in-Ok
returns-in-Ok c =
    let old = c.args.self.now in
    alone_tells c.both.result old c.write.new.self c.both.new.self c.args.index c.args.bits c.args.body (at_ok c.write.result _ c.in-Ok.is c.write.ensures) c.both.ensures

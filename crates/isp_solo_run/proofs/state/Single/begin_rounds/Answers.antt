use Rattle.isp_solo_run.proofs.Foreach.{begins_tells}
use Rattle.isp_solo_run.specs.Tasks.{store_seen}
use Rattle.isp_solo_run.proofs.Foreach.{begins_is}
use Rattle.isp_solo_run.proofs.Results.{at_found}
use Rattle.isp_solo_run.proofs.Steps.{tells_by}
use Rattle.isp_solo_run.proofs.state.Single.begin_rounds.Goals as goal

pub returns-in-Ok : goal.returns-in-Ok
returns-in-Ok c =
    let old = c.args.self.now in
    begins_tells c.later.result old c.later.new.self c.in-Ok.rounds c.args.ranges.items c.reset.new.ranges c.args.body c.reset.ensures (at_found _ c.new.result _ c.in-Ok.is c.new.ensures.ok) c.later.ensures

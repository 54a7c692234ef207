use Rattle.std.proofs.Common.{refl}
use Rattle.isp_solo_run.proofs.Steps.{acts}
use Rattle.isp_solo_run.proofs.state.Single.act_foreach.Goals as goal

pub returns-in-Start : goal.returns-in-Start
returns-in-Start c =
    acts c.start.result c.args.self.now c.start.new.self c.args.task _ _ c.in-Start.is refl c.start.ensures

pub returns-in-End : goal.returns-in-End
returns-in-End c =
    acts c.end.result c.args.self.now c.end.new.self c.args.task _ _ c.in-End.is refl c.end.ensures

pub returns-in-Rounds : goal.returns-in-Rounds
returns-in-Rounds c =
    acts c.rounds.result c.args.self.now c.rounds.new.self c.args.task _ _ c.in-Rounds.is refl c.rounds.ensures

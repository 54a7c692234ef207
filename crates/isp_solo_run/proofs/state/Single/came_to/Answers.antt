use Rattle.std.proofs.Common.{◌∙◌, map, refl, sym}
use Rattle.isp_solo_run.specs.Seen.{passed_seen}
use Rattle.isp_solo_run.proofs.Outcomes.{ran_gave, ran_stopped}
use Rattle.isp_solo_run.proofs.state.Single.came_to.Goals as goal

pub returns-in-Ok : goal.returns-in-Ok
returns-in-Ok c =
    ran_gave c.args.self c.done.new.self c.args.function (map passed_seen c.args.passed.now) c.done.result _ _ c.in-Ok.is refl c.done.ensures

pub returns-in-Some : goal.returns-in-Some
returns-in-Some c =
    ran_stopped c.args.self c.done.new.self c.args.function (map passed_seen c.args.passed.now) c.done.result c.in-Err.stop c.in-Some.ending _ c.in-Err.is (sym c.ending_of.ensures ∙ c.in-Some.is) refl c.done.ensures

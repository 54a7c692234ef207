use Rattle.isp_solo_run.specs.Tasks.{Enters}
use Rattle.std.proofs.Common.{map, subst}
use Rattle.std.specs.Prelude.{Result}
use Rattle.isp_meaning.specs.Runs.{no_place}
use Rattle.isp_solo_run.specs.Seen.{passed_seen}
use Rattle.isp_solo_run.specs.Tasks.{Tells, enters}
use Rattle.isp_solo_run.specs.declared.state.Stop.{Stop}
use Rattle.isp_solo_run.proofs.Outcomes.{then_ends, stops_ends}
use Rattle.isp_solo_run.proofs.state.Single.done.Goals as goal

pub returns-in-Ok : goal.returns-in-Ok
returns-in-Ok c =
    let old = c.args.self.now in
    then_ends c.finish.result tt old c.enter.new.self c.finish.new.self (enters old c.args.function no_place (map passed_seen c.args.passed.now)) _
    c.requires (subst (λ (q : Result (Unit {0}) Stop). Enters q old c.enter.new.self c.args.function no_place (map passed_seen c.args.passed.now)) c.in-Ok.is c.enter.ensures) c.finish.ensures

pub returns-in-Err : goal.returns-in-Err
returns-in-Err c =
    let old = c.args.self.now in
    stops_ends c.in-Err.stop old c.enter.new.self (enters old c.args.function no_place (map passed_seen c.args.passed.now)) _
    (subst (λ (q : Result (Unit {0}) Stop). Enters q old c.enter.new.self c.args.function no_place (map passed_seen c.args.passed.now)) c.in-Err.is c.enter.ensures)

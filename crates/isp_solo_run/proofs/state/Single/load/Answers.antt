use Rattle.isp_solo_run.specs.Seen.{spot_seen}
use Rattle.std.specs.Prelude.{Result}
use Rattle.std.proofs.Common.{ℕ, subst}
use Rattle.isp_solo_run.specs.Tasks.{Finds}
use Rattle.isp_solo_run.specs.declared.state.Stop.{Stop}
use Rattle.isp_solo_run.proofs.Writes.{held_tells, held_stops}
use Rattle.isp_solo_run.proofs.state.Single.load.Goals as goal

pub returns-in-Ok : goal.returns-in-Ok
returns-in-Ok c =
    let old = c.args.self.now in
    held_tells c.give.result old c.hold.new.self c.give.new.self c.args.span (spot_seen c.args.place.now) c.in-Ok.bits
    (subst (λ (q : Result ℕ Stop). Finds q old c.hold.new.self c.args.span (spot_seen c.args.place.now)) c.in-Ok.is c.hold.ensures) c.give.ensures

pub returns-in-Err : goal.returns-in-Err
returns-in-Err c =
    let old = c.args.self.now in
    held_stops _ c.in-Err.stop old c.hold.new.self c.args.span (spot_seen c.args.place.now) (subst (λ (q : Result ℕ Stop). Finds q old c.hold.new.self c.args.span (spot_seen c.args.place.now)) c.in-Err.is c.hold.ensures)

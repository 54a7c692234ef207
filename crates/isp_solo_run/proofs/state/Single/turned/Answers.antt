use Rattle.isp_solo_run.proofs.Steps.{tells_within}
use Rattle.std.proofs.Common.{arith}
use Rattle.std.proofs.Common.{ap}
use Rattle.isp_solo_run.specs.Seen.{how_seen}
use Rattle.isp_solo_run.specs.Tasks.{store_seen}
use Rattle.isp_solo_run.proofs.Runs.{turned_goes, turned_continues, turned_breaks, turned_returns}
use Rattle.isp_solo_run.proofs.Steps.{tells_by}
use Rattle.isp_solo_run.proofs.state.Single.turned.Goals as goal

pub returns-in-Going : goal.returns-in-Going
returns-in-Going c =
    let old = c.args.self.now in
    tells_by _ c.step.result old c.step.new.self _ _ (turned_goes old (store_seen old) c.args.turning (ap how_seen c.in-Going.is)) c.step.ensures

pub returns-in-Continued : goal.returns-in-Continued
returns-in-Continued c =
    let old = c.args.self.now in
    tells_by _ c.step-in-Continued.result old c.step-in-Continued.new.self _ _ (turned_continues old (store_seen old) c.args.turning (ap how_seen c.in-Continued.is)) c.step-in-Continued.ensures

pub returns-in-Broke : goal.returns-in-Broke
returns-in-Broke c =
    let old = c.args.self.now in
    tells_within 0 _ c.leave.result old c.leave.new.self _ (omega arith) (tells_by 0 c.leave.result old c.leave.new.self _ _ (turned_breaks old (store_seen old) c.args.turning (ap how_seen c.in-Broke.is)) c.leave.ensures)

pub returns-in-Returned : goal.returns-in-Returned
returns-in-Returned c =
    let old = c.args.self.now in
    tells_within 0 _ c.leave-in-Returned.result old c.leave-in-Returned.new.self _ (omega arith)
    (tells_by 0 c.leave-in-Returned.result old c.leave-in-Returned.new.self _ _ (turned_returns old (store_seen old) c.args.turning (ap how_seen c.in-Returned.is)) c.leave-in-Returned.ensures)

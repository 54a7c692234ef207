use Rattle.isp_solo_run.proofs.Steps.{tells_within}
use Rattle.std.proofs.Common.{arith}
use Rattle.isp_solo_run.specs.Tasks.{store_seen}
use Rattle.isp_solo_run.proofs.Runs.{test_true, test_false, true_value, false_value}
use Rattle.isp_solo_run.proofs.Steps.{tells_by}
use Rattle.isp_solo_run.proofs.state.Single.tested.Goals as goal

pub returns-then-self-ne0 : goal.returns-then-self-ne0
returns-then-self-ne0 c =
    let old = c.args.self.now in
    tells_by _ c.turn.result old c.turn.new.self _ _ (test_true old (store_seen old) c.args.turning (true_value old.value c.if-self-ne0.true)) c.turn.ensures

pub returns-else-self-ne0 : goal.returns-else-self-ne0
returns-else-self-ne0 c =
    let old = c.args.self.now in
    tells_within 0 _ c.leave.result old c.leave.new.self _ (omega arith) (tells_by 0 c.leave.result old c.leave.new.self _ _ (test_false old (store_seen old) c.args.turning (false_value old.value c.if-self-ne0.false)) c.leave.ensures)

use Rattle.isp_solo_run.proofs.Runs.{branch_other_tells, branch_true_tells}
use Rattle.isp_solo_run.proofs.Steps.{tells_within}
use Rattle.std.proofs.Common.{arith}
use Rattle.isp_solo_run.specs.Tasks.{store_seen}
use Rattle.isp_solo_run.proofs.Runs.{branch_true, branch_other, branch_none, true_value, false_value}
use Rattle.isp_solo_run.proofs.Steps.{tells_by}
use Rattle.isp_solo_run.proofs.state.Single.branch.Goals as goal

pub returns-then-self-ne0 : goal.returns-then-self-ne0
returns-then-self-ne0 c =
    let old = c.args.self.now in
    branch_true_tells c.later.result old c.later.new.self c.args.branches (true_value old.value c.if-self-ne0.true) c.later.ensures

pub returns-in-Some : goal.returns-in-Some
returns-in-Some c =
    let old = c.args.self.now in
    branch_other_tells c.later-in-Some.result old c.later-in-Some.new.self c.args.branches c.in-Some.statement (false_value old.value c.if-self-ne0.false) c.in-Some.is c.later-in-Some.ensures

pub returns-in-None : goal.returns-in-None
returns-in-None c =
    let old = c.args.self.now in
    tells_within 0 _ c.leave.result old c.leave.new.self _ (omega arith) (tells_by 0 c.leave.result old c.leave.new.self _ _ (branch_none old (store_seen old) c.args.branches (false_value old.value c.if-self-ne0.false) c.in-None.is) c.leave.ensures)

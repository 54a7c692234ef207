use Rattle.isp_solo_run.proofs.Runs.{next_tells, none_tells}
use Rattle.std.proofs.Common.{ap, arith}
use Rattle.isp_solo_run.specs.declared.tasks.Statements.{Statements}
use Rattle.isp_solo_run.specs.Tasks.{store_seen}
use Rattle.isp_solo_run.proofs.Lists.{nothing_left, headed}
use Rattle.isp_solo_run.proofs.Results.{at_found}
use Rattle.isp_solo_run.proofs.Runs.{none_left, one_next}
use Rattle.isp_solo_run.proofs.Steps.{tells_by}
use Rattle.isp_solo_run.proofs.state.Single.statements.Goals as goal

pub returns-in-empty : goal.returns-in-empty
returns-in-empty c =
    let old = c.args.self.now in
    none_tells c.leave.result old c.leave.new.self c.args.statements.now (nothing_left c.args.statements.now c.in-empty.len_below) c.leave.ensures

pub returns-in-Ok : goal.returns-in-Ok
returns-in-Ok c =
    let old = c.args.self.now in
    next_tells c.both.result old c.both.new.self c.args.statements.now _ (record { ref_ptr = (0, 0); now = c.first-item.result }) c.in-Ok.others
    (headed c.args.statements.now c.first-item.result (omega (arith, c.in-len1-up.len_at_least)) c.first-item.is)
    (ap (λ (x : Statements). x.rest.now) (at_found _ c.new.result _ c.in-Ok.is c.new.ensures.ok))
    c.both.ensures

use Rattle.isp_gang_run.specs.declared.places.Writing.{Writing}
use Rattle.std.proofs.Common.{ap}
use Rattle.isp_gang_run.proofs.Progress.{leaves_as}
use Rattle.isp_gang_run.specs.Due.{own, write_due}
use Rattle.isp_gang_run.proofs.Assignments.{placed_step_halts, placed_update}
use Rattle.isp_gang_run.proofs.Results.{if_err, on_ok}
use Rattle.isp_gang_run.proofs.state.Evaluator.placed.Goals as goal

pub returns-in_ok-both-in-Update-clause-ok : goal.returns-in_ok-both-in-Update-clause-ok
returns-in_ok-both-in-Update-clause-ok c =
    placed_update c.args.self.now c.both-in-Update.new.self c.args.target c.args.place c.args.set c.in-Update.operation c.in-Update.value c.args.writing c.in-Update.is c.in_ok-both-in-Update.ensures.ok

pub returns-in-Step-clause-err : goal.returns-in-Step-clause-err
returns-in-Step-clause-err c =
    if_err c.update.result (λ e h. placed_step_halts c.args.self.now c.update.new.self c.args.target c.args.place c.args.set c.in-Step.operation c.args.writing e c.in-Step.is h) c.update.ensures.err

pub returns-in_ok-both-in-Assign-clause-fewer : goal.returns-in_ok-both-in-Assign-clause-fewer
returns-in_ok-both-in-Assign-clause-fewer c =
    leaves_as c.args.self.now c.both.new.self c.args.self.now.left (ap (λ (k : Writing). own c.args.self.now write_due k) c.in-Assign.is) c.in_ok-both-in-Assign.ensures.fewer

pub returns-in_ok-both-in-Update-clause-fewer : goal.returns-in_ok-both-in-Update-clause-fewer
returns-in_ok-both-in-Update-clause-fewer c =
    leaves_as c.args.self.now c.both-in-Update.new.self c.args.self.now.left (ap (λ (k : Writing). own c.args.self.now write_due k) c.in-Update.is) c.in_ok-both-in-Update.ensures.fewer

pub returns-in-Step-clause-fewer : goal.returns-in-Step-clause-fewer
returns-in-Step-clause-fewer c =
    on_ok c.update.result (leaves_as c.args.self.now c.update.new.self c.args.self.now.left (ap (λ (k : Writing). own c.args.self.now write_due k) c.in-Step.is)) c.update.ensures.fewer

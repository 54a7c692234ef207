use Rattle.std.proofs.Common.{refl}
use Rattle.isp_solo_meaning.specs.Alone.{written}
use Rattle.isp_solo_run.specs.Tasks.{does_task}
use Rattle.isp_solo_run.specs.declared.tasks.Task.TheVariants as task
use Rattle.isp_solo_run.proofs.Results.{at_ok}
use Rattle.isp_solo_run.proofs.Steps.{changed_tells}
use Rattle.isp_solo_run.proofs.state.Single.declared.Goals as goal

pub returns-in-Ok : goal.returns-in-Ok
returns-in-Ok c =
    let old = c.args.self.now in
    changed_tells c.go_on.result old c.write.new.self c.go_on.new.self (does_task old (task.Declared c.args.number c.args.ty)) (written c.args.ty.rate c.args.number old.value) (at_ok c.write.result _ c.in-Ok.is c.write.ensures) refl c.go_on.ensures

use Rattle.isp_solo_run.specs.declared.state.Single.{Single}
use Rattle.isp_solo_run.proofs.Steps.{tells_from}
use Rattle.std.proofs.Common.{refl}
use Rattle.isp_solo_run.specs.Tasks.{does_task, leaves}
use Rattle.isp_solo_run.specs.declared.state.How.TheVariants as how
use Rattle.isp_solo_run.specs.declared.tasks.Task.TheVariants as task
use Rattle.isp_solo_run.proofs.state.Single.answer.Goals as goal

pub returns : goal.returns
returns c =
    let old = c.args.self.now in
    let mid : Single = record old { here = record old.here { result = old.value } } in
    tells_from old mid mid c.leave.new.self (does_task old task.Answer) (λ e. leaves how.Returned) (λ e. 0) (λ e. e.left) refl refl refl c.leave.result c.leave.ensures

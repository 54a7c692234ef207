use Rattle.std.proofs.Common.{ap}
use Rattle.isp_base.specs.declared.types.Ty.{Ty}
use Rattle.isp_solo_run.proofs.Results.{at_found}
use Rattle.isp_solo_run.proofs.Runs.{value_tells}
use Rattle.isp_solo_run.proofs.state.Single.unique.Goals as goal

pub returns-in-Ok : goal.returns-in-Ok
returns-in-Ok c =
    value_tells c.both.result c.args.self.now c.both.new.self c.args.value (record { index = c.args.index; from = c.ty.result.elem; to = c.args.elem; body = c.args.body }) c.in-Ok.after
    (at_found _ c.new.result _ c.in-Ok.is c.new.ensures.ok) (ap (λ (t : Ty). t.elem) c.ty.ensures) c.both.ensures

use Rattle.std.proofs.Common.{◌∙◌, ◌-◌, ap, map}
use Rattle.isp_solo_run.specs.Seen.{frame_seen, passed_seen, with_variables}
use Rattle.isp_solo_run.specs.declared.activation.Activation.{Activation}
use Rattle.isp_solo_run.proofs.Handing.{begin_tells}
use Rattle.isp_solo_run.proofs.Results.{at_ok, at_found}
use Rattle.isp_solo_run.proofs.state.Single.begin.Goals as goal

pub returns-in-Ok-push : goal.returns-in-Ok-push
returns-in-Ok-push c =
    let old = c.args.self.now in
    begin_tells old c.push.new.self c.args.function (map passed_seen c.args.passed.now) c.in-Ok-new.caller c.replace-caller.new.dest (old.left - 1)
    (at_ok c.push.result _ c.in-Ok-push.is c.push.ensures.more) (at_ok c.push.result _ c.in-Ok-push.is c.push.ensures.rest)
    (at_found _ c.new.result _ c.in-Ok-new.is c.new.ensures.ok ∙ c.replace-caller.ensures.value)
    (ap frame_seen c.replace-caller.ensures.after ∙ at_found _ c.begun.result _ c.in-Ok.is c.begun.ensures.frame)
    (λ s. ap (λ (h : Activation). with_variables h s) c.replace-caller.ensures.after ∙ at_found _ c.begun.result _ c.in-Ok.is c.begun.ensures.state s)
    c.block.result c.block.new.self c.block.ensures

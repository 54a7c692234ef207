use Rattle.std.proofs.Common.{◌∙◌, ap}
use Rattle.isp_typed.specs.Views.{expr_of}
use Rattle.isp_lower.specs.declared.sites.Site.{Site}
use Rattle.isp_lower.specs.declared.sites.Target.{Target}
use Rattle.isp_lower.proofs.ChangedBy.{variable_changed}
use Rattle.isp_lower.proofs.changed.change_variable_by.Goals as goal

pub returns : goal.returns
returns c =
    let a = c.args in
    let to = c.variable-to.result in
    variable_changed a.on.now a.b.now c.operand.new.b c.update_to.new.b a.operation a.home (expr_of a.x.now) a.site to c.in_ok-by.by c.new-target.result c.variable-to.ensures c.in_ok-by.ensures.register
    (c.new-target.ensures ∙ ap (λ (s : Site). record { to = to; ty = a.home.ty; span = a.operation.span; site = s }) c.next.ensures) c.in_ok-by.ensures.code c.in_ok-update_to.ensures

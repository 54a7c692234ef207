use Rattle.isp_tree.specs.Views.{expr_of as read_expr}
use Rattle.isp_name_breaches.proofs.Steps.{none_more}
use Rattle.isp_name_breaches.proofs.Stmts.{target_sound}
use Rattle.isp_name_breaches.proofs.simple.target.Goals as goal

pub returns-in-None : goal.returns-in-None
returns-in-None c =
    none_more _ _ (target_sound c.args.setting.now.gang c.args.setting.now.headers.now c.args.scope.now (read_expr c.args.x.now) _ c.in_ok-target_fault.ensures c.in-None.is)

use Rattle.isp_tree.specs.Views.{expr_of as read_expr}
use Rattle.isp_types.proofs.PartSteps.{returned_is}
use Rattle.isp_types.proofs.parts.returned.Goals as goal

pub returns-in_ok-value-in-Some-2 : goal.returns-in_ok-value-in-Some-2
returns-in_ok-value-in-Some-2 c =
    let seen = rw (c.agrees.ensures, c.is_some.ensures, c.mismatch.ensures, c.in-Some.is) at c.unless-seen.ensures in
    rw (c.beside-in-Some.ensures, c.some.ensures, c.in-Some.is)
    (returned_is c.args.setting.now.gang c.args.setting.now.headers.now c.args.scope.now c.args.answer c.args.keyword (read_expr c.in-Some.x) _ _ _ seen c.in_ok-value-in-Some-2.ensures c.in_ok-value-in-Some.ensures)

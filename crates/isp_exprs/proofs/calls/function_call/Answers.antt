use Rattle.std.proofs.Common.{◌∙◌, ap}
use Rattle.isp_typed.specs.declared.expr.TypedExpr.{TypedExpr}
use Rattle.isp_typed.specs.Views.{expr_of}
use Rattle.isp_exprs.specs.Passing.{gives}
use Rattle.isp_exprs.specs.reader.Parts.{list_passed}
use Rattle.isp_exprs.proofs.CallViews.{call_gives}
use Rattle.isp_exprs.proofs.calls.function_call.Goals as goal

pub returns-in_ok-boxed-in-Some : goal.returns-in_ok-boxed-in-Some
returns-in_ok-boxed-in-Some c =
    ap (λ (z : TypedExpr). gives (expr_of z)) c.in_ok-boxed-in-Some.ensures
    ∙ call_gives c.args.function c.args.span c.in-Some.ty c.in_ok-arguments.arguments (list_passed c.args.passed.items) c.args.answer c.in-Some.is c.in_ok-arguments.ensures

use Rattle.std.proofs.Common.{◌∙◌, ap}
use Rattle.std.specs.Prelude.{Ok}
use Rattle.isp_typed.specs.declared.expr.TypedExpr.{TypedExpr}
use Rattle.isp_typed.specs.declared.variable.ArrayVariable.{ArrayVariable}
use Rattle.isp_typed.specs.Views.{expr_of}
use Rattle.isp_exprs.specs.Passing.{gives}
use Rattle.isp_exprs.specs.Values.{converted}
use Rattle.isp_exprs.specs.reader.Parts.{boxed_of}
use Rattle.isp_exprs.proofs.CallViews.{store_no_base, store_no_value, store_both}
use Rattle.isp_exprs.proofs.calls.packed_store.Goals as goal

pub returns-in_default : goal.returns-in_default
returns-in_default c = store_no_base c.args.span c.args.passed.items c.first_two-first.result c.base_passed.result c.first_two-first.ensures c.base_passed.ensures
    _ c.in_default.is (cc)

pub returns-in_default-value_passed : goal.returns-in_default-value_passed
returns-in_default-value_passed c = store_no_value c.args.span c.args.passed.items c.first_two-first.result c.base_passed.result c.first_two-first.ensures c.base_passed.ensures
    c.value_passed.result c.value_passed.ensures c.in-Some.base _ c.in-Some.is c.in_default-value_passed.is (cc)

pub returns : goal.returns
returns c =
    ap (λ (z : TypedExpr). Ok (gives (expr_of z))) c.in_ok-boxed.ensures
    ∙ store_both c.args.span c.args.passed.items c.first_two-first.result c.base_passed.result c.first_two-first.ensures c.base_passed.ensures
    c.value_passed.result c.value_passed.ensures c.in-Some.base c.in-Some-value_passed.x c.in_ok-value.value c.in-Some.is c.in-Some-value_passed.is
    (c.in_ok-value.ensures ∙ ap (λ (a : ArrayVariable). converted a.ty.elem (boxed_of c.in-Some-value_passed.x)) c.array.ensures)

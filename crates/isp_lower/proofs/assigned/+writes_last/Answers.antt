use Rattle.std.proofs.Common.{sym, ap, ◌∙◌}
use Rattle.isp_base.specs.declared.types.Ty.{Ty}
use Rattle.isp_typed.specs.Typed.{type_of}
use Rattle.isp_typed.specs.Views.{expr_of}
use Rattle.isp_lower_code.specs.Stays.{is_short, writes_last, writes_part}
use Rattle.isp_lower.specs.Emitted.{layout}
use Rattle.isp_lower.proofs.Views.{cast_view, choose_view}
use Rattle.isp_lower.proofs.assigned.+writes_last.Goals as goal

pub returns-in-Cast : goal.returns-in-Cast
returns-in-Cast t c =
    let l = layout c.args.on.now in
    let e = c.in-Cast in
    let x = expr_of e.operand.value in
    c.writes_part.ensures l
    ∙ ap (λ (y : Ty). writes_part l e.ty.rate y.rate c.writes_last.result) (c.ty.ensures ∙ ap (λ y. type_of (expr_of y)) c.deref.ensures)
    ∙ ap (writes_part l e.ty.rate (type_of x).rate) (c.writes_last.ensures ∙ ap (λ y. writes_last l (expr_of y)) c.deref-in-Cast.ensures)
    ∙ sym (ap (writes_last l) (ap expr_of e.is ∙ cast_view e.operand e.ty e.span))

pub returns-in-Choose : goal.returns-in-Choose
returns-in-Choose t c =
    let l = layout c.args.on.now in
    let e = c.in-Choose in
    let r = e.ty.rate in
    c.is_short.ensures
    ∙ ap (λ y. is_short l r (expr_of y) (expr_of c.deref-in-Choose-2.result.now) (expr_of c.deref-in-Choose-3.result.now)) c.deref-in-Choose.ensures
    ∙ ap (λ y. is_short l r (expr_of e.test.value) (expr_of y) (expr_of c.deref-in-Choose-3.result.now)) c.deref-in-Choose-2.ensures
    ∙ ap (λ y. is_short l r (expr_of e.test.value) (expr_of e.then.value) (expr_of y)) c.deref-in-Choose-3.ensures
    ∙ sym (ap (writes_last l) (ap expr_of e.is ∙ choose_view e.test e.then e.otherwise e.ty e.span))

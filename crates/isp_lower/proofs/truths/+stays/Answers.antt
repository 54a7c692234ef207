use Rattle.std.proofs.Common.{◌≡◌, true, sym, ap, ◌∙◌}
use Rattle.std.specs.Prelude.{◌&&◌}
use Rattle.isp_base.specs.declared.types.Ty.{Ty}
use Rattle.isp_typed.specs.Typed.{type_of}
use Rattle.isp_typed.specs.Views.{expr_of}
use Rattle.isp_meaning.specs.Calls.{same_rate}
use Rattle.isp_lower_code.specs.Stays.{stays}
use Rattle.isp_lower.specs.Emitted.{layout}
use Rattle.isp_lower.proofs.Views.{cast_view}
use Rattle.isp_lower.proofs.truths.+stays.Goals as goal

pub returns-then-same_rate : goal.returns-then-same_rate
returns-then-same_rate t c =
    let l = layout c.args.on.now in
    let e = c.in-Cast in
    let x = expr_of e.operand.value in
    let so : true ≡ same_rate e.ty.rate (type_of x).rate = sym c.if-same_rate.true ∙ c.same_rate.ensures ∙ ap (λ (y : Ty). same_rate e.ty.rate y.rate) (c.ty.ensures ∙ ap (λ y. type_of (expr_of y)) c.deref.ensures) in
    c.stays.ensures
    ∙ ap (λ y. stays l (expr_of y)) c.deref-then-same_rate.ensures
    ∙ ap (λ b. b && stays l x) so
    ∙ sym (ap (stays l) (ap expr_of e.is ∙ cast_view e.operand e.ty e.span))

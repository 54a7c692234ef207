use Rattle.std.proofs.Common.{◌≡◌, true, sym, ap, ◌∙◌}
use Rattle.std.specs.Prelude.{◌&&◌}
use Rattle.isp_base.specs.declared.types.Ty.{Ty}
use Rattle.isp_typed.specs.Typed.{type_of}
use Rattle.isp_typed.specs.Views.{expr_of}
use Rattle.isp_meaning.specs.Calls.{same_rate}
use Rattle.isp_lower_code.specs.Stays.{stays}
use Rattle.isp_lower.specs.Emitted.{layout}
use Rattle.isp_lower.proofs.truths.stays_at.Goals as goal

pub returns-then-same_rate : goal.returns-then-same_rate
returns-then-same_rate c =
    let l = layout c.args.on.now in
    let x = expr_of c.args.x.now in
    let so : true ≡ same_rate c.args.rate (type_of x).rate = sym c.if-same_rate.true ∙ c.same_rate.ensures ∙ ap (λ (y : Ty). same_rate c.args.rate y.rate) c.ty.ensures in
    c.stays.ensures ∙ ap (λ b. b && stays l x) so

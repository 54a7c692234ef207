use Rattle.std.proofs.Common.{◌≡◌, true, false, Bool, ℕ, sym, ap, subst, ◌∙◌}
use Rattle.isp_base.specs.declared.types.Ty.{Ty}
use Rattle.isp_typed.specs.Typed.{type_of}
use Rattle.isp_typed.specs.Views.{expr_of}
use Rattle.isp_lower_code.specs.Code.{variable_from}
use Rattle.isp_lower_code.specs.Spans.{expr_places}
use Rattle.isp_lower_code.specs.Stays.{writes_last, writes_part}
use Rattle.isp_lower.specs.Emitted.{Appends, layout}
use Rattle.isp_lower.specs.Written.{Writes, value_at}
use Rattle.isp_lower.specs.declared.sites.Target.{Target}
use Rattle.isp_lower.proofs.assigned.variable_to.Goals as goal

pub returns-in_ok-cast_to : goal.returns-in_ok-cast_to
returns-in_ok-cast_to c =
    let a = c.args in
    let l = layout a.on.now in
    let x = expr_of a.x.now in
    let r = a.home.ty.rate in
    let code = λ (q : Bool) (d pc p : ℕ). variable_from l q r d x pc p a.site.mask.number a.site.slot.number in
    let so : true ≡ writes_part l r (type_of x).rate (writes_last l x)
    = sym c.if-writes_part.true ∙ c.writes_part.ensures l ∙ ap (λ (y : Ty). writes_part l r y.rate c.writes_last.result) c.ty.ensures ∙ ap (writes_part l r (type_of x).rate) c.writes_last.ensures in
    let written = subst (λ (t : Target). Writes a.b.now c.cast_to.new.b (value_at a.on.now true x t)) c.new-target.ensures c.in_ok-cast_to.ensures in
    subst (λ q. Appends a.b.now c.cast_to.new.b (code q (l.variable r a.home.number)) (expr_places l x)) so
    (subst (λ d. Appends a.b.now c.cast_to.new.b (code true d) (expr_places l x)) c.variable-to.ensures written)

pub returns-in_ok-copied : goal.returns-in_ok-copied
returns-in_ok-copied c =
    let a = c.args in
    let l = layout a.on.now in
    let x = expr_of a.x.now in
    let r = a.home.ty.rate in
    let code = λ (q : Bool) (d pc p : ℕ). variable_from l q r d x pc p a.site.mask.number a.site.slot.number in
    let so : false ≡ writes_part l r (type_of x).rate (writes_last l x)
    = sym c.if-writes_part.false ∙ c.writes_part.ensures l ∙ ap (λ (y : Ty). writes_part l r y.rate c.writes_last.result) c.ty.ensures ∙ ap (writes_part l r (type_of x).rate) c.writes_last.ensures in
    let written = subst (λ (t : Target). Writes a.b.now c.copied.new.b (value_at a.on.now false x t)) c.new-target.ensures c.in_ok-copied.ensures in
    subst (λ q. Appends a.b.now c.copied.new.b (code q (l.variable r a.home.number)) (expr_places l x)) so
    (subst (λ d. Appends a.b.now c.copied.new.b (code false d) (expr_places l x)) c.variable-to.ensures written)

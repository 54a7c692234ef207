use Rattle.std.proofs.Common.{◌≡◌, sym, ◌∙◌, subst, ◌<◌, ◌^◌, Option, Some}
use Rattle.isp_base.specs.Values.{width}
use Rattle.isp_base.specs.declared.types.Elem.{Elem}
use Rattle.isp_code.specs.Fine.{IsGiven}
use Rattle.isp_code.specs.declared.register.Register.{Register}
use Rattle.isp_machine.specs.Receives.{Receives}
use Rattle.isp_machine.proofs.Returned.{lanes_taken, scalar_taken, receives_scalar}
use Rattle.isp_machine.proofs.returns.receive.Goals as goal

pub returns-in-Vector : goal.returns-in-Vector
returns-in-Vector g c = λ t.
    let h = c.args.here.now.routine in
    let to : c.args.caller.now.to ≡ Some c.in-Some-to.d = sym c.to.ensures ∙ c.in-Some-to.is in
    let p = lanes_taken t.routine h h.returns c.in-Some-to.d c.in-Some.x (subst (IsGiven t.routine h.returns) to t.takes) (subst (IsGiven h h.returns) c.in-Some.is c.requires.given) c.in-Vector.is in
    subst (λ (o : Option Register). Receives t.routine c.args.callee.now o c.args.caller.now c.receive_lanes.new.caller) (sym c.in-Some.is) (c.receive_lanes.ensures t.routine t.shaped p.0 p.2 to)

pub returns-in_default-class : goal.returns-in_default-class
returns-in_default-class g c = λ t.
    let h = c.args.here.now.routine in
    let to : c.args.caller.now.to ≡ Some c.in-Some-to.d = sym c.to.ensures ∙ c.in-Some-to.is in
    let p = scalar_taken t.routine h h.returns c.in-Some-to.d c.in-Some.x (subst (IsGiven t.routine h.returns) to t.takes) (subst (IsGiven h h.returns) c.in-Some.is c.requires.given) c.in_default-class.not-Vector in
    let fits = subst (λ (e : Elem). c.scalar.result < 2 ^ width e) (sym p.2) c.scalar.ensures.fits in
    subst (λ (o : Option Register). Receives t.routine c.args.callee.now o c.args.caller.now c.set_scalar.new.self) (sym c.in-Some.is)
    (subst (Receives t.routine c.args.callee.now (Some c.in-Some.x) c.args.caller.now) (sym c.set_scalar.ensures)
    (receives_scalar t.routine c.args.callee.now c.args.caller.now t.shaped c.in-Some.x c.in-Some-to.d to p.0 c.scalar.result c.scalar.ensures.value fits))

use Rattle.std.proofs.Common.{◌≡◌, IfOk, refl, subst}
use Rattle.std.specs.Prelude.{Result}
use Rattle.isp_lex.specs.declared.fault.Fault.{Fault}
use Rattle.isp_typed.specs.Verdicts.{made}
use Rattle.isp_exprs.specs.Passing.{Called}
use Rattle.isp_exprs.specs.reader.Parts.{called_of}
use Rattle.isp_exprs.proofs.CallViews.{load_no_base, load_no_variable, load_both}
use Rattle.isp_exprs.proofs.calls.packed_load.Goals as goal

pub returns-in_default : goal.returns-in_default
returns-in_default c = load_no_base c.args.span c.args.passed.items c.first_two-first.result c.base_passed.result c.first_two-first.ensures c.base_passed.ensures
    _ c.in_default.is (cc)

pub returns-in_default-destination_passed : goal.returns-in_default-destination_passed
returns-in_default-destination_passed c = load_no_variable c.args.span c.args.passed.items c.first_two-first.result c.base_passed.result c.first_two-first.ensures c.base_passed.ensures
    c.destination_passed.result c.destination_passed.ensures c.in-Some.base _ c.in-Some.is c.in_default-destination_passed.is (cc)

pub returns : goal.returns
returns c =
    let d = c.in-Some-destination_passed in
    subst (λ (z : Result Called Fault). IfOk c.loaded.result (λ v. made called_of v ≡ z))
    (load_both c.args.span c.args.passed.items c.first_two-first.result c.base_passed.result c.first_two-first.ensures c.base_passed.ensures
    c.destination_passed.result c.destination_passed.ensures c.in-Some.base d.known d.ty d.place _ c.in-Some.is d.is refl) c.loaded.ensures

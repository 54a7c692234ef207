use Rattle.std.proofs.Common.{◌≡◌, sym, ap, subst, Some}
use Rattle.std.specs.Prelude.{slice_get}
use Rattle.isp_verify.proofs.Exports.{kept_at}
use Rattle.isp_code.specs.Listing.{Listing}
use Rattle.isp_verify.proofs.verified.Verified.signature.Goals as goal

pub returns-in-Some-clause-found : goal.returns-in-Some-clause-found
returns-in-Some-clause-found c =
    let found = c.in-Some.ensures.found in
    let entry = subst (λ (code : Listing). slice_get code.routines c.in-Some.number ≡ Some found.0) (sym c.self.view_is) found.1.found in
    let kept = kept_at _ _ c.in-Some.number found.0 c.index.result.now c.self.invariant.2 entry c.index.ensures in
    (c.in-Some.number, found.0, found.1, ap (λ s. s.params) kept, ap (λ s. s.result) kept)

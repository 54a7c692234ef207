use Rattle.std.proofs.Common.{◌≡◌, sym, ap, ◌∙◌, subst, ℕ, ◌<◌, ◌++◌, length, map, Some, rules}
use Rattle.std.specs.Prelude.{slice_get}
use Rattle.std.proofs.lemmas.List.{length-map}
use Rattle.std.proofs.lemmas.Result.{on_ok_weaker}
use Rattle.isp_code.specs.Listing.{Listing, Routine, routine_of}
use Rattle.isp_frames.specs.Begun.{Begun, given, new_stores}
use Rattle.isp_verify.proofs.Exports.{routine_at}
use Rattle.isp_frames.proofs.Finds.{some_same, masks_of}
use Rattle.isp_machine.proofs.calls.begin.Goals as goal

pub begin-requires : goal.begin-requires
begin-requires g c =
    let fs = c.functions.result.now in
    let made : map routine_of fs ≡ c.args.code.now.routines = c.functions.ensures.same ∙ ap (λ (p : Listing). p.routines) c.code.ensures.same in
    let low : c.args.number < length fs = subst (λ (n : ℕ). c.args.number < n) (ap length (sym made) ∙ length-map fs routine_of) c.requires in
    let found : slice_get c.args.code.now.routines c.args.number ≡ Some (routine_of c.index-functions-number.result) = routine_at c.args.code.now fs c.args.number c.index-functions-number.result made low c.index-functions-number.is in
    let wide = c.told.ensures.wide in
    let masks = masks_of c.args.code.now c.args.number (routine_of c.index-functions-number.result) c.code.ensures.goes_on found in
    search (rules, wide, masks)

pub returns-clause-begun : goal.returns-clause-begun
returns-clause-begun g c =
    let fs = c.functions.result.now in
    let made : map routine_of fs ≡ c.args.code.now.routines = c.functions.ensures.same ∙ ap (λ (p : Listing). p.routines) c.code.ensures.same in
    let low : c.args.number < length fs = subst (λ (n : ℕ). c.args.number < n) (ap length (sym made) ∙ length-map fs routine_of) c.requires in
    let found : slice_get c.args.code.now.routines c.args.number ≡ Some (routine_of c.index-functions-number.result) = routine_at c.args.code.now fs c.args.number c.index-functions-number.result made low c.index-functions-number.is in
    on_ok_weaker c.begin.result (λ b h e. subst (λ (z : Routine). Begun g.row.N z c.args.number c.args.mask.now (length c.args.stores.now.rows) (given c.args.frame.now) c.begin.new.self) (some_same (sym found ∙ e)) b) c.begin.ensures.begun

pub returns-clause-stores : goal.returns-clause-stores
returns-clause-stores g c =
    let fs = c.functions.result.now in
    let made : map routine_of fs ≡ c.args.code.now.routines = c.functions.ensures.same ∙ ap (λ (p : Listing). p.routines) c.code.ensures.same in
    let low : c.args.number < length fs = subst (λ (n : ℕ). c.args.number < n) (ap length (sym made) ∙ length-map fs routine_of) c.requires in
    let found : slice_get c.args.code.now.routines c.args.number ≡ Some (routine_of c.index-functions-number.result) = routine_at c.args.code.now fs c.args.number c.index-functions-number.result made low c.index-functions-number.is in
    on_ok_weaker c.begin.result (λ b h e. subst (λ (z : Routine). c.begin.new.stores ≡ record c.args.stores.now { rows = c.args.stores.now.rows ++ new_stores z.locals }) (some_same (sym found ∙ e)) b) c.begin.ensures.stores

pub returns-clause-masks : goal.returns-clause-masks
returns-clause-masks g c = λ h found. masks_of c.args.code.now c.args.number h c.code.ensures.goes_on found

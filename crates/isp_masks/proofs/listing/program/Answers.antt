use Rattle.std.proofs.Common.{◌≡◌, ◌<◌, ap, ◌∙◌, subst, sym}
use Rattle.std.specs.List.{All}
use Rattle.std.proofs.lemmas.Result.{IfOk-weaker}
use Rattle.isp_lower.specs.Drafts.{Draft, all_routines, draft_of, finished}
use Rattle.isp_tree.specs.Nodes.{nodes_of_all}
use Rattle.isp_typed.specs.Nodes.{function_nodes}
use Rattle.isp_typed.specs.Views.{functions_of, program_of}
use Rattle.isp_typed.specs.declared.function.Program.{Program}
use Rattle.isp_masks.specs.Added.{AreLowered}
use Rattle.isp_masks_code.specs.Lowered.{HasCode, IsFineFunction, IsSmall}
use Rattle.isp_masks.proofs.Listings.{has_finished}
use Rattle.isp_masks_code.proofs.Lemmas.{numbers_fit, routines_fit, functions_small}
use Rattle.isp_masks.proofs.listing.program.Goals as goal

pub routines-requires : goal.routines-requires
routines-requires c =
    let are = c.deref.ensures.value ∙ ap (λ (p : Program). p.functions.items) c.program.ensures.same in
    record {
      none = ap all_routines c.new-e.ensures;
      empty = ap (λ (d : Draft). d.places) c.new-e.ensures;
      empty_texts = ap (λ (d : Draft). d.texts) c.new-e.ensures;
      fine = subst (λ fs. All IsFineFunction (functions_of fs)) (sym are) (λ k d lt. (functions_of c.args.checked.now.functions.items, c.program.ensures.accepted.fine.each k d lt));
      small = subst (λ fs. All IsSmall (functions_of fs)) (sym are) (functions_small (program_of c.args.checked.now) c.program.ensures.accepted);
      few = subst (λ fs. nodes_of_all function_nodes (functions_of fs) < 16777216) (sym are) c.program.ensures.accepted.fine.few;
    }

pub finish-requires : goal.finish-requires
finish-requires c =
    let p = program_of c.args.checked.now in
    let d = draft_of c.routines.new.e in
    let are = c.deref.ensures.value ∙ ap (λ (p : Program). p.functions.items) c.program.ensures.same in
    let lowered =
    subst (λ fs. AreLowered fs p.functions (all_routines d) d.places d.texts) (ap (λ (z : Draft). z.callees) c.new-e.ensures)
    (subst (λ fs. AreLowered (draft_of c.new-e.result).callees (functions_of fs) (all_routines d) d.places d.texts) are
    c.in_ok-routines.ensures.lowered) in
    let gang = c.in_ok-routines.ensures.gang ∙ ap (λ (z : Draft). z.gang) c.new-e.ensures in
    let tables = c.in_ok-routines.ensures.tables in
    record {
      tables = tables;
      routines = routines_fit p (finished d) c.program.ensures.accepted (has_finished p d lowered gang);
      numbers = numbers_fit p (finished d) c.program.ensures.accepted (has_finished p d lowered gang) tables.few_places tables.few_texts;
    }

pub returns-clause-code : goal.returns-clause-code
returns-clause-code c =
    let p = program_of c.args.checked.now in
    let d = draft_of c.routines.new.e in
    let are = c.deref.ensures.value ∙ ap (λ (p : Program). p.functions.items) c.program.ensures.same in
    let lowered =
    subst (λ fs. AreLowered fs p.functions (all_routines d) d.places d.texts) (ap (λ (z : Draft). z.callees) c.new-e.ensures)
    (subst (λ fs. AreLowered (draft_of c.new-e.result).callees (functions_of fs) (all_routines d) d.places d.texts) are
    c.in_ok-routines.ensures.lowered) in
    let gang = c.in_ok-routines.ensures.gang ∙ ap (λ (z : Draft). z.gang) c.new-e.ensures in
    IfOk-weaker c.finish.result (λ code. code ≡ finished d) (λ code. HasCode p code) (λ code is. subst (HasCode p) (sym is) (has_finished p d lowered gang)) c.finish.ensures

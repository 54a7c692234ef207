use Rattle.std.proofs.Common.{List, string_bytes, subst, ◌∙◌}
use Rattle.std.proofs.lemmas.Result.{err_from_is_err_and}
use Rattle.isp_base.specs.declared.types.Gang.{Gang}
use Rattle.isp_case_command.specs.Testing.{IsShown}
use Rattle.isp_case_command.proofs.Ends.{uncompiled_same}
use Rattle.isp_case_command.proofs.command.tested_as_asked.Goals as goal

pub returns-in_err-page-clause-err : goal.returns-in_err-page-clause-err
returns-in_err-page-clause-err c =
    let p = err_from_is_err_and c.from_residual-in_err-page.result c.from_residual-in_err-page.ensures.1 in
    rw (p.1, p.2) (uncompiled_same _ _ c.args.text.now (c.as_slice.ensures.value ∙ c.in_ok-gangs.ensures) _ c.in_err-page.ensures.err)

pub returns-clause-ok : goal.returns-clause-ok
returns-clause-ok c =
    let page = c.in_ok-page.page in
    subst (λ (gs : List Gang). IsShown c.args.text.now gs c.args.cases.now c.args.request.now.budget (string_bytes page.text) page.end) (c.as_slice.ensures.value ∙ c.in_ok-gangs.ensures) c.in_ok-page.ensures.ok

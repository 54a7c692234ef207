use Rattle.std.proofs.Common.{List, string_bytes, inr, subst}
use Rattle.std.proofs.lemmas.Result.{err_from_is_err_and}
use Rattle.serde_json.specs.View.{view}
use Rattle.isp_case_files.specs.declared.case.Case.{Case}
use Rattle.isp_case_command.specs.Testing.{IsShown, gangs_of}
use Rattle.isp_case_command.proofs.Ends.{unlisted, untested}
use Rattle.isp_case_command.proofs.command.tested.Goals as goal

pub returns-in_err-list-clause-err : goal.returns-in_err-list-clause-err
returns-in_err-list-clause-err c =
    let p = err_from_is_err_and c.from_residual.result c.from_residual.ensures.1 in
    rw (p.1, p.2) (unlisted c.args.request.now c.args.text.now c.args.json.now _ c.in_err-list.ensures.err)

pub returns-in_err-cases-clause-err : goal.returns-in_err-cases-clause-err
returns-in_err-cases-clause-err c =
    let p = err_from_is_err_and c.from_residual-in_err-cases.result c.from_residual-in_err-cases.ensures.1 in
    rw (p.1, p.2)
    (unlisted c.args.request.now c.args.text.now c.args.json.now _ (λ n. inr (view c.in_ok-list.list, c.in_ok-list.ensures.ok, c.in_err-cases.ensures.err n)))

pub returns-in_err-page-clause-err : goal.returns-in_err-page-clause-err
returns-in_err-page-clause-err c =
    let p = err_from_is_err_and c.from_residual-in_err-page.result c.from_residual-in_err-page.ensures.1 in
    rw (p.1, p.2) (untested c.args.request.now c.args.text.now c.args.json.now _ c.in_err-page.ensures.err)

pub returns-clause-ok : goal.returns-clause-ok
returns-clause-ok c =
    let q = c.args.request.now in
    let page = c.in_ok-page.page in
    record {
      cases = c.in_ok-cases.cases.items;
      list = (view c.in_ok-list.list, c.in_ok-list.ensures.ok, c.in_ok-cases.ensures.ok);
      shown = subst (λ (cs : List Case). IsShown c.args.text.now (gangs_of q.gang) cs q.budget (string_bytes page.text) page.end) c.as_slice.ensures.value c.in_ok-page.ensures.ok;
    }

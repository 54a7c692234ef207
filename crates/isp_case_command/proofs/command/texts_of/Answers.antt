use Rattle.std.proofs.Common.{ℕ, List, Some, string_bytes, subst, ◌∙◌}
use Rattle.std.proofs.lemmas.Result.{err_from_is_err_and}
use Rattle.isp_case_command.proofs.Ends.{no_cases, no_source}
use Rattle.isp_case_command.proofs.command.texts_of.Goals as goal

pub returns-in_err-source-clause-err : goal.returns-in_err-source-clause-err
returns-in_err-source-clause-err g c =
    let p = err_from_is_err_and c.from_residual.result c.from_residual.ensures.1 in
    rw (p.1, p.2) (no_source (g.F.SourceFiles.holds c.args.files.now) c.args.request.now.source.now _ c.in_err-source.ensures.err)

pub returns-in_err-cases-clause-err : goal.returns-in_err-cases-clause-err
returns-in_err-cases-clause-err g c =
    let p = err_from_is_err_and c.from_residual-in_err-cases.result c.from_residual-in_err-cases.ensures.1 in
    rw (p.1, p.2) (no_cases (g.F.SourceFiles.holds c.args.files.now) c.args.request.now.source.now _ (c.as_str.ensures.value ∙ c.in_ok-name.ensures) _ c.in_err-cases.ensures.err)

pub returns-clause-cases : goal.returns-clause-cases
returns-clause-cases g c =
    subst (λ (n : List ℕ). g.F.SourceFiles.holds c.args.files.now n (Some (string_bytes c.in_ok-cases.cases))) (c.as_str.ensures.value ∙ c.in_ok-name.ensures) c.in_ok-cases.ensures.ok

use Rattle.std.proofs.Common.{ℕ, List, [], subst}
use Rattle.std.proofs.lemmas.Result.{IfOk-weaker}
use Rattle.isp_lex.specs.Lexing.{IsRefused, Lexes}
use Rattle.isp_lex.specs.declared.fault.SourceFault.TheVariants.{Refused}
use Rattle.isp_server.specs.Completions.{behind, nothing}
use Rattle.isp_server.proofs.completion.by_tokens.Goals as goal

pub returns-in-Ok : goal.returns-in-Ok
returns-in-Ok c =
    IfOk-weaker c.behind.result _ _
    (λ v completes k same. behind c.in-Ok.before.items (subst (λ (z : List ℕ). Lexes 0 z c.in-Ok.before.items []) same c.in-Ok.ensures.ok) completes)
    c.behind.ensures

pub returns-in-Err-Refused : goal.returns-in-Err-Refused
returns-in-Err-Refused c =
    let refused = rw c.in-Err-Refused.field-0-is at c.in-Err-Refused.ensures.refused in
    λ k same. nothing c.in-Err-Refused._fault (subst (λ (z : List ℕ). IsRefused (Refused c.in-Err-Refused._fault) z) same refused) c.nothing.ensures

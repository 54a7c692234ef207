use Rattle.std.proofs.Common.{sym, ◌∙◌}
use Rattle.std.proofs.lemmas.Result.{err_from_is_err_and}
use Rattle.isp_grammar.specs.reader.Choices.{perhaps_at}
use Rattle.isp_grammar.specs.reader.Stmts.{item_at}
use Rattle.isp_grammar.proofs.SimpleSteps.{fails_then}
use Rattle.isp_grammar.proofs.declaration.item.Goals as goal

pub returns-in_err-word-clause-value : goal.returns-in_err-word-clause-value
unfolding item_at
returns-in_err-word-clause-value c =
    let p = err_from_is_err_and c.from_residual.result c.from_residual.ensures.1 in
    rw (p.1, p.2) (fails_then c.in_err-word.field-0.0 _ _ (fails_then c.in_err-word.field-0.0 _ _ c.in_err-word.ensures.value))

pub returns-in_err-tail-clause-value : goal.returns-in_err-tail-clause-value
unfolding item_at perhaps_at
returns-in_err-tail-clause-value c =
    let p = err_from_is_err_and c.from_residual-in_err-tail.result c.from_residual-in_err-tail.ensures.1 in
    rw (p.1, p.2, c.in_ok-word.ensures.value, sym c.goes_on.ensures ∙ c.if-not-goes_on.false) (fails_then c.in_err-tail.field-0.0 _ _ (fails_then c.in_err-tail.field-0.0 _ _ (fails_then c.in_err-tail.field-0.0 _ _ c.in_err-tail.ensures.value)))

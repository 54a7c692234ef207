use Rattle.std.proofs.Common.{refl, sym, ◌∙◌}
use Rattle.std.proofs.lemmas.Result.{err_from_is_err_and}
use Rattle.isp_grammar.proofs.ItemSteps.{tail_valued, tail_sized}
use Rattle.isp_grammar.proofs.SimpleSteps.{fails_then}
use Rattle.isp_grammar.proofs.declaration.item_tail.Goals as goal

pub returns-in_err-value-clause-value : goal.returns-in_err-value-clause-value
returns-in_err-value-clause-value c =
    let p = err_from_is_err_and c.from_residual.result c.from_residual.ensures.1 in
    rw (p.1, p.2, tail_valued c.args.left c.args.tokens.now (sym c.starts_with.ensures ∙ c.if-starts_with.true), sym c.tail.ensures) (fails_then c.in_err-value.field-0.0 _ _ c.in_err-value.ensures.value)

pub returns-then-starts_with-clause-value : goal.returns-then-starts_with-clause-value
returns-then-starts_with-clause-value c = rw (tail_valued c.args.left c.args.tokens.now (sym c.starts_with.ensures ∙ c.if-starts_with.true), sym c.tail.ensures, c.in_ok-value.ensures.value, c.first_span.ensures) refl

pub returns-in_err-open-clause-value : goal.returns-in_err-open-clause-value
returns-in_err-open-clause-value c =
    let p = err_from_is_err_and c.from_residual-in_err-open.result c.from_residual-in_err-open.ensures.1 in
    rw (p.1, p.2, tail_sized c.args.left c.args.tokens.now (sym c.starts_with.ensures ∙ c.if-starts_with.false)) (fails_then c.in_err-open.field-0.0 _ _ c.in_err-open.ensures.value)

pub returns-clause-value : goal.returns-clause-value
returns-clause-value c = rw (tail_sized c.args.left c.args.tokens.now (sym c.starts_with.ensures ∙ c.if-starts_with.false), c.in_ok-open.ensures.value) refl

use Rattle.std.proofs.lemmas.Result.{err_from_is_err_and}
use Rattle.isp_grammar.specs.reader.Stmts.{heading_of, head_at}
use Rattle.isp_grammar.proofs.SimpleSteps.{fails_then, boxed_gives}
use Rattle.isp_grammar.proofs.heads.for_head.Goals as goal

pub returns-in_err-_open-clause-value : goal.returns-in_err-_open-clause-value
unfolding head_at
returns-in_err-_open-clause-value c =
    let p = err_from_is_err_and c.from_residual.result c.from_residual.ensures.1 in
    rw (p.1, p.2) (fails_then c.in_err-_open.field-0.0 _ _ (fails_then c.in_err-_open.field-0.0 _ _ (fails_then c.in_err-_open.field-0.0 _ _ c.in_err-_open.ensures.value)))

pub returns-in_err-first-clause-value : goal.returns-in_err-first-clause-value
unfolding head_at
returns-in_err-first-clause-value c =
    let p = err_from_is_err_and c.from_residual-in_err-first.result c.from_residual-in_err-first.ensures.1 in
    rw (p.1, p.2, c.in_ok-_open.ensures.value) (fails_then c.in_err-first.field-0.0 _ _ (fails_then c.in_err-first.field-0.0 _ _ (fails_then c.in_err-first.field-0.0 _ _ (fails_then c.in_err-first.field-0.0 _ _ c.in_err-first.ensures.value))))

pub returns-in_err-test-clause-value : goal.returns-in_err-test-clause-value
unfolding head_at
returns-in_err-test-clause-value c =
    let p = err_from_is_err_and c.from_residual-in_err-test.result c.from_residual-in_err-test.ensures.1 in
    rw (p.1, p.2, c.in_ok-_open.ensures.value, c.in_ok-first.ensures.value)
    (fails_then c.in_err-test.field-0.0 _ _ (fails_then c.in_err-test.field-0.0 _ _
    (fails_then c.in_err-test.field-0.0 _ _ (fails_then c.in_err-test.field-0.0 _ _
    (fails_then c.in_err-test.field-0.0 _ _ c.in_err-test.ensures.value)))))

pub returns-in_err-step-clause-value : goal.returns-in_err-step-clause-value
unfolding head_at
returns-in_err-step-clause-value c =
    let p = err_from_is_err_and c.from_residual-in_err-step.result c.from_residual-in_err-step.ensures.1 in
    rw (p.1, p.2, c.in_ok-_open.ensures.value, c.in_ok-first.ensures.value, c.in_ok-test.ensures.value)
    (fails_then c.in_err-step.field-0.0 _ _ (fails_then c.in_err-step.field-0.0 _ _
    (fails_then c.in_err-step.field-0.0 _ _ (fails_then c.in_err-step.field-0.0 _ _
    (fails_then c.in_err-step.field-0.0 _ _ c.in_err-step.ensures.value)))))

pub returns-clause-value : goal.returns-clause-value
unfolding head_at
returns-clause-value c = rw (c.in_ok-_open.ensures.value, c.in_ok-first.ensures.value, c.in_ok-test.ensures.value, c.in_ok-step.ensures.value)
    (boxed_gives heading_of c.in_box.result _ _ c.in_box.ensures.value c.in_box.ensures.rest c.in_box.ensures.memory)

use Rattle.std.proofs.Common.{rules, ◌≡◌, List, drop, Some, Ok, sym, subst, ◌∙◌}
use Rattle.std.proofs.lemmas.Result.{err_from_is_err_and}
use Rattle.isp_lex.specs.declared.token.Token.{Token}
use Rattle.isp_tree.specs.Views.{expr_of, simple_of}
use Rattle.isp_grammar.specs.reader.Readers.{Fails}
use Rattle.isp_grammar.specs.reader.Choices.{found_at}
use Rattle.isp_grammar.specs.reader.Exprs.{expr_at}
use Rattle.isp_grammar.specs.reader.Stmts.{change_of}
use Rattle.isp_grammar.proofs.SimpleSteps.{simple_changed, simple_other, fails_then, boxed_gives}
use Rattle.isp_grammar.proofs.simple.simple.Goals as goal

pub returns-in_err-target-clause-value : goal.returns-in_err-target-clause-value
returns-in_err-target-clause-value c =
    let p = err_from_is_err_and c.from_residual.result c.from_residual.ensures.1 in
    let e : found_at change_of c.args.tokens.now ≡ Some (c.in-Some.sign, c.in-Some.place) = search rules in
    let w = subst (λ (l : List Token). Fails c.in_err-target.field-0.0 (expr_at c.args.left 0 l)) c.tail.ensures c.in_err-target.ensures.value in
    rw (p.1, p.2, simple_changed c.args.left c.args.tokens.now (c.in-Some.sign, c.in-Some.place) e) (fails_then c.in_err-target.field-0.0 (expr_at c.args.left 0 (drop 1 c.args.tokens.now)) _ w)

pub returns-in-Some-clause-value : goal.returns-in-Some-clause-value
returns-in-Some-clause-value c =
    let e : found_at change_of c.args.tokens.now ≡ Some (c.in-Some.sign, c.in-Some.place) = search rules in
    let w = subst (λ (l : List Token). expr_at c.args.left 0 l ≡ Ok (expr_of c.in_ok-target.target.value, c.in_ok-target.rest.now)) c.tail.ensures c.in_ok-target.ensures.value in
    rw (simple_changed c.args.left c.args.tokens.now (c.in-Some.sign, c.in-Some.place) e, w, sym c.stepped.ensures)
    (boxed_gives simple_of c.in_box.result c.stepped.result c.in_ok-target.rest.now c.in_box.ensures.value c.in_box.ensures.rest c.in_box.ensures.memory)

pub returns-in_err-target-2-clause-value : goal.returns-in_err-target-2-clause-value
returns-in_err-target-2-clause-value c =
    let p = err_from_is_err_and c.from_residual-in_err-target-2.result c.from_residual-in_err-target-2.ensures.1 in
    rw (p.1, p.2, simple_other c.args.left c.args.tokens.now (sym c.change_at.ensures ∙ c.in_default.is))
    (fails_then c.in_err-target-2.field-0.0 _ _ (fails_then c.in_err-target-2.field-0.0 _ _ c.in_err-target-2.ensures.value))

pub returns-in_err-ending-clause-value : goal.returns-in_err-ending-clause-value
returns-in_err-ending-clause-value c =
    let p = err_from_is_err_and c.from_residual-in_err-ending.result c.from_residual-in_err-ending.ensures.1 in
    rw (p.1, p.2, simple_other c.args.left c.args.tokens.now (sym c.change_at.ensures ∙ c.in_default.is), c.in_ok-target-2.ensures.value)
    (fails_then c.in_err-ending.field-0.0 _ _ (fails_then c.in_err-ending.field-0.0 _ _ c.in_err-ending.ensures.value))

pub returns-clause-value : goal.returns-clause-value
returns-clause-value c =
    rw (simple_other c.args.left c.args.tokens.now (sym c.change_at.ensures ∙ c.in_default.is), c.in_ok-target-2.ensures.value, c.in_ok-ending.ensures.value, sym c.ended.ensures)
    (boxed_gives simple_of c.in_box-2.result c.ended.result c.in_ok-ending.rest.now c.in_box-2.ensures.value c.in_box-2.ensures.rest c.in_box-2.ensures.memory)

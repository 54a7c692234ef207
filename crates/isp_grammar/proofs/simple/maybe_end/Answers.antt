use Rattle.std.proofs.Common.{rules, ◌≡◌, List, drop, Some, Ok, refl, sym, subst, ◌∙◌}
use Rattle.std.proofs.lemmas.Result.{err_from_is_err_and}
use Rattle.isp_lex.specs.declared.token.Token.{Token}
use Rattle.isp_tree.specs.Views.{expr_of}
use Rattle.isp_grammar.specs.Signs.{loosest}
use Rattle.isp_grammar.specs.reader.Readers.{Fails}
use Rattle.isp_grammar.specs.reader.Choices.{found_at}
use Rattle.isp_grammar.specs.reader.Exprs.{expr_at}
use Rattle.isp_grammar.specs.reader.Stmts.{assignment_of, change_of}
use Rattle.isp_grammar.proofs.SimpleSteps.{end_assigned, end_changed, end_none, fails_then}
use Rattle.isp_grammar.proofs.simple.maybe_end.Goals as goal

pub returns-in_err-value-clause-value : goal.returns-in_err-value-clause-value
returns-in_err-value-clause-value c =
    let p = err_from_is_err_and c.from_residual.result c.from_residual.ensures.1 in
    let e : found_at assignment_of c.args.tokens.now ≡ Some (c.in-Some.sign, c.in-Some.place) = search rules in
    let w = subst (λ (l : List Token). Fails c.in_err-value.field-0.0 (expr_at c.args.left loosest l)) c.tail.ensures c.in_err-value.ensures.value in
    rw (p.1, p.2, end_assigned c.args.left c.args.tokens.now (c.in-Some.sign, c.in-Some.place) e) (fails_then c.in_err-value.field-0.0 (expr_at c.args.left loosest (drop 1 c.args.tokens.now)) _ w)

pub returns-in-Some-clause-value : goal.returns-in-Some-clause-value
returns-in-Some-clause-value c =
    let e : found_at assignment_of c.args.tokens.now ≡ Some (c.in-Some.sign, c.in-Some.place) = search rules in
    let w = subst (λ (l : List Token). expr_at c.args.left loosest l ≡ Ok (expr_of c.in_ok-value.value.value, c.in_ok-value.rest.now)) c.tail.ensures c.in_ok-value.ensures.value in
    rw (end_assigned c.args.left c.args.tokens.now (c.in-Some.sign, c.in-Some.place) e, w) refl

pub returns-in-Some-change_at-clause-value : goal.returns-in-Some-change_at-clause-value
returns-in-Some-change_at-clause-value c =
    let e : found_at change_of c.args.tokens.now ≡ Some (c.in-Some-change_at.sign, c.in-Some-change_at.place) = search rules in
    rw c.tail-in-Some-change_at.ensures (end_changed c.args.left c.args.tokens.now (c.in-Some-change_at.sign, c.in-Some-change_at.place) (sym c.assignment_at.ensures ∙ c.in_default.is) e)

pub returns-clause-value : goal.returns-clause-value
returns-clause-value c = end_none c.args.left c.args.tokens.now (sym c.assignment_at.ensures ∙ c.in_default.is) (sym c.change_at.ensures ∙ c.in_default-change_at.is)

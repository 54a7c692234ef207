use Rattle.std.proofs.Common.{◌≡◌, ◌∷◌, ◌++◌, [], suc, length, sym, ◌∙◌, arith}
use Rattle.std.proofs.lemmas.Result.{err_from_is_err_and}
use Rattle.std.proofs.lemmas.List.{map_push}
use Rattle.isp_lex.specs.declared.token.Mark.TheVariants as mark
use Rattle.isp_tree.specs.Views.{expr_of, exprs_of}
use Rattle.isp_grammar.specs.reader.Stmts.{behind_at, values_at}
use Rattle.isp_grammar.proofs.Loops.{until_fails, until_end, until_step, until_begins}
use Rattle.isp_grammar.proofs.parts.values.Goals as goal

pub each-init : goal.each-init
unfolding values_at
each-init c = record {
  rest = omega arith;
  value = (suc (length c.args.tokens.now), omega arith, rw c.new-all.ensures.items (until_begins mark.ParenClose (behind_at mark.Comma c.args.left) (suc (length c.args.tokens.now)) c.args.tokens.now));
}

pub returns-in_err-next-clause-value : goal.returns-in_err-next-clause-value
returns-in_err-next-clause-value c =
    let v = c.each.invariant.value in
    let p = err_from_is_err_and c.from_residual.result c.from_residual.ensures.1 in
    rw (p.1, p.2) (until_fails mark.ParenClose c.in_err-next.field-0.0 (behind_at mark.Comma c.args.left) v.0 (exprs_of c.each.all.items)
    c.each.rest.now (values_at c.args.left c.args.tokens.now) v.1 (sym c.starts_with.ensures ∙ c.each-test.true) c.in_err-next.ensures.value v.2)

pub each-preserved : goal.each-preserved
each-preserved c =
    let v = c.each.invariant.value in
    let e : exprs_of c.in_ok-all.all.items ≡ exprs_of c.each.all.items ++ expr_of c.in_ok-next.next.value ∷ [] = rw c.in_ok-all.ensures.items (map_push _ c.each.all.items c.in_ok-next.next.value) in
    let s = until_step mark.ParenClose (behind_at mark.Comma c.args.left) v.0 (exprs_of c.each.all.items) c.each.rest.now
    (expr_of c.in_ok-next.next.value) c.in_ok-next.after.now (values_at c.args.left c.args.tokens.now) v.1 c.in_ok-next.ensures.rest
    (sym c.starts_with.ensures ∙ c.each-test.true) c.in_ok-next.ensures.value v.2 in
    record {
      rest = omega (arith, c.each.invariant.rest, c.in_ok-next.ensures.rest);
      value = rw e s;
    }

pub returns-clause-value : goal.returns-clause-value
returns-clause-value c =
    let v = c.each.invariant.value in
    until_end mark.ParenClose (behind_at mark.Comma c.args.left) v.0 (exprs_of c.each.all.items) c.each.rest.now (values_at c.args.left c.args.tokens.now) v.1 (sym c.starts_with.ensures ∙ c.each-test.false) v.2

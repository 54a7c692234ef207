use Rattle.std.proofs.Common.{◌≡◌, List, ◌∷◌, ◌++◌, [], map, Ok, subst, sym, ◌∙◌}
use Rattle.std.proofs.lemmas.Result.{err_from_is_err_and}
use Rattle.std.proofs.lemmas.List.{map_push}
use Rattle.isp_lex.specs.declared.token.Token.{Token}
use Rattle.isp_grammar.specs.reader.Readers.{Fails}
use Rattle.isp_grammar.specs.reader.Stmts.{range_at}
use Rattle.isp_tree.specs.Views.{range_of}
use Rattle.isp_grammar.proofs.RangeSteps.{last_none, last_fails, last_made}
use Rattle.isp_grammar.proofs.parts.last_range.Goals as goal

pub returns-then-not-starts_with-clause-value : goal.returns-then-not-starts_with-clause-value
returns-then-not-starts_with-clause-value c = last_none c.args.left (map range_of c.args.all.items) c.args.tokens.now (sym c.starts_with.ensures ∙ c.if-not-starts_with.true)

pub returns-in_err-range-clause-value : goal.returns-in_err-range-clause-value
returns-in_err-range-clause-value c =
    let p = err_from_is_err_and c.from_residual.result c.from_residual.ensures.1 in
    let w = subst (λ (l : List Token). Fails c.in_err-range.field-0.0 (range_at c.args.left l)) c.tail.ensures c.in_err-range.ensures.value in
    rw (p.1, p.2) (last_fails c.in_err-range.field-0.0 c.args.left (map range_of c.args.all.items) c.args.tokens.now (sym c.starts_with.ensures ∙ c.if-not-starts_with.false) w)

pub returns-clause-value : goal.returns-clause-value
returns-clause-value c =
    let front = map range_of c.args.all.items in
    let one = subst (λ (l : List Token). range_at c.args.left l ≡ Ok (range_of c.in_ok-range.range.value, c.in_ok-range.rest.now)) c.tail.ensures c.in_ok-range.ensures.value in
    let all : map range_of c.in_ok-all.all.items ≡ front ++ range_of c.in_ok-range.range.value ∷ [] = rw c.in_ok-all.ensures.items (map_push _ c.args.all.items c.in_ok-range.range.value) in
    rw all (last_made c.args.left front c.args.tokens.now c.in_ok-range.rest.now (range_of c.in_ok-range.range.value) (sym c.starts_with.ensures ∙ c.if-not-starts_with.false) one)

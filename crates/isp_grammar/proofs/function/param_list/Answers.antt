use Rattle.std.proofs.Common.{◌≡◌, ◌+◌, ◌∷◌, ◌++◌, [], length, sym, ap, ◌∙◌, arith, length-drop}
use Rattle.std.specs.Prelude.{map}
use Rattle.std.proofs.lemmas.Result.{err_from_is_err_and}
use Rattle.std.proofs.lemmas.List.{map_push}
use Rattle.isp_grammar.specs.reader.Readers.{list_at}
use Rattle.isp_grammar.specs.reader.Programs.{param_at}
use Rattle.isp_tree.specs.Views.{param_of}
use Rattle.isp_grammar.proofs.Loops.{list_fails, list_last, list_step, list_begins}
use Rattle.isp_grammar.proofs.function.param_list.Goals as goal

pub each-init : goal.each-init
each-init c = record {
  rest = omega arith;
  value = (length c.args.tokens.now + 1, omega arith, rw c.new-all.ensures.items (list_begins param_at (length c.args.tokens.now + 1) c.args.tokens.now));
}

pub returns-in_err-next-clause-value : goal.returns-in_err-next-clause-value
returns-in_err-next-clause-value c =
    let v = c.each.invariant.value in
    let p = err_from_is_err_and c.from_residual.result c.from_residual.ensures.1 in
    rw (p.1, p.2) (list_fails c.in_err-next.field-0.0 param_at v.0 (map param_of c.each.all.items) c.each.rest.now (list_at param_at (length c.args.tokens.now + 1) c.args.tokens.now) v.1 c.in_err-next.ensures.value v.2)

pub returns-then-not-starts_with-clause-value : goal.returns-then-not-starts_with-clause-value
returns-then-not-starts_with-clause-value c =
    let v = c.each.invariant.value in
    let e : map param_of c.in_ok-all.all.items ≡ map param_of c.each.all.items ++ param_of c.in_ok-next.next.value ∷ [] = rw c.in_ok-all.ensures.items (map_push _ c.each.all.items c.in_ok-next.next.value) in
    rw e (list_last param_at v.0 (map param_of c.each.all.items) c.each.rest.now (param_of c.in_ok-next.next.value) c.in_ok-next.after.now
    (list_at param_at (length c.args.tokens.now + 1) c.args.tokens.now) v.1 c.in_ok-next.ensures.value
    (sym c.starts_with.ensures ∙ c.if-not-starts_with.true) v.2)

pub each-preserved : goal.each-preserved
each-preserved c =
    let v = c.each.invariant.value in
    let e : map param_of c.in_ok-all.all.items ≡ map param_of c.each.all.items ++ param_of c.in_ok-next.next.value ∷ [] = rw c.in_ok-all.ensures.items (map_push _ c.each.all.items c.in_ok-next.next.value) in
    let s = list_step param_at v.0 (map param_of c.each.all.items) c.each.rest.now (param_of c.in_ok-next.next.value) c.in_ok-next.after.now
    (list_at param_at (length c.args.tokens.now + 1) c.args.tokens.now) v.1 (omega (arith, c.in_ok-next.ensures.rest))
    c.in_ok-next.ensures.value (sym c.starts_with.ensures ∙ c.if-not-starts_with.false) v.2 in
    record {
      rest = omega (arith, c.each.invariant.rest, c.in_ok-next.ensures.rest, ap length c.tail-rest.ensures, length-drop 1 c.in_ok-next.after.now);
      value = rw (e, c.tail-rest.ensures) s;
    }

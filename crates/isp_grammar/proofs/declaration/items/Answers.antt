use Rattle.std.proofs.Common.{◌≡◌, ◌∷◌, ◌++◌, [], suc, length, sym, ap, ◌∙◌, arith, length-drop}
use Rattle.std.specs.Prelude.{map}
use Rattle.std.proofs.lemmas.Result.{err_from_is_err_and}
use Rattle.std.proofs.lemmas.List.{map_push}
use Rattle.isp_tree.specs.Views.{item_of}
use Rattle.isp_grammar.specs.reader.Stmts.{item_at, items_at}
use Rattle.isp_grammar.proofs.Loops.{list_fails, list_last, list_step, list_begins}
use Rattle.isp_grammar.proofs.ListForms.{last_item}
use Rattle.isp_grammar.proofs.declaration.items.Goals as goal

pub each-init : goal.each-init
unfolding items_at
each-init c = record {
  rest = omega arith;
  value = (suc (length c.args.tokens.now), omega arith, rw c.new-all.ensures.items (list_begins (item_at c.args.left) (suc (length c.args.tokens.now)) c.args.tokens.now));
}

pub returns-in_err-next-clause-value : goal.returns-in_err-next-clause-value
returns-in_err-next-clause-value c =
    let v = c.each.invariant.value in
    let p = err_from_is_err_and c.from_residual.result c.from_residual.ensures.1 in
    rw (p.1, p.2) (list_fails c.in_err-next.field-0.0 (item_at c.args.left) v.0 (map item_of c.each.all.items) c.each.rest.now (items_at c.args.left c.args.tokens.now) v.1 c.in_err-next.ensures.value v.2)

pub returns-then-not-starts_with-clause-value : goal.returns-then-not-starts_with-clause-value
returns-then-not-starts_with-clause-value c =
    let v = c.each.invariant.value in
    let e : map item_of c.in_ok-all.all.items ≡ map item_of c.each.all.items ++ item_of c.in_ok-next.next.value ∷ [] = rw c.in_ok-all.ensures.items (map_push _ c.each.all.items c.in_ok-next.next.value) in
    rw e (list_last (item_at c.args.left) v.0 (map item_of c.each.all.items) c.each.rest.now (item_of c.in_ok-next.next.value) c.in_ok-next.after.now
    (items_at c.args.left c.args.tokens.now) v.1 c.in_ok-next.ensures.value (sym c.starts_with.ensures ∙ c.if-not-starts_with.true) v.2)

pub returns-then-not-starts_with-clause-end : goal.returns-then-not-starts_with-clause-end
returns-then-not-starts_with-clause-end c =
    let e : map item_of c.in_ok-all.all.items ≡ map item_of c.each.all.items ++ item_of c.in_ok-next.next.value ∷ [] = rw c.in_ok-all.ensures.items (map_push _ c.each.all.items c.in_ok-next.next.value) in
    rw (e, c.span-end.ensures, c.deref.ensures) (sym (last_item (map item_of c.each.all.items) (item_of c.in_ok-next.next.value)))

pub each-preserved : goal.each-preserved
each-preserved c =
    let v = c.each.invariant.value in
    let e : map item_of c.in_ok-all.all.items ≡ map item_of c.each.all.items ++ item_of c.in_ok-next.next.value ∷ [] = rw c.in_ok-all.ensures.items (map_push _ c.each.all.items c.in_ok-next.next.value) in
    let s = list_step (item_at c.args.left) v.0 (map item_of c.each.all.items) c.each.rest.now (item_of c.in_ok-next.next.value)
    c.in_ok-next.after.now (items_at c.args.left c.args.tokens.now) v.1 (omega (arith, c.in_ok-next.ensures.rest)) c.in_ok-next.ensures.value
    (sym c.starts_with.ensures ∙ c.if-not-starts_with.false) v.2 in
    record {
      rest = omega (arith, c.each.invariant.rest, c.in_ok-next.ensures.rest, ap length c.tail-rest.ensures, length-drop 1 c.in_ok-next.after.now);
      value = rw (e, c.tail-rest.ensures) s;
    }

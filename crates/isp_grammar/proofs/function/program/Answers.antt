use Rattle.std.proofs.Common.{◌≡◌, ◌∷◌, ◌++◌, [], suc, length, sym, ◌∙◌, arith}
use Rattle.std.proofs.lemmas.Result.{err_from_is_err_and}
use Rattle.std.proofs.lemmas.List.{map_push}
use Rattle.isp_tree.specs.Depth.{limit}
use Rattle.isp_tree.specs.Views.{function_of, functions_of}
use Rattle.isp_grammar.specs.reader.Programs.{program_at}
use Rattle.isp_grammar.proofs.FunctionSteps.{program_begins, program_fails, program_ends, program_step, some_left, none_left}
use Rattle.isp_grammar.proofs.function.program.Goals as goal

pub each-init : goal.each-init
each-init c = record {
  rest = omega arith;
  value = (suc (length c.args.tokens.now), omega arith, rw c.new-all.ensures.items (program_begins limit c.args.tokens.now));
}

pub returns-in_err-next : goal.returns-in_err-next
returns-in_err-next c =
    let v = c.each.invariant.value in
    let p = err_from_is_err_and c.from_residual.result c.from_residual.ensures.1 in
    let left = some_left (length c.each.rest.now) (sym c.is_empty.ensures ∙ c.each-test.true) in
    rw (p.1, p.2) (program_fails c.in_err-next.field-0.0 limit v.0 (functions_of c.each.all.items) c.each.rest.now (program_at limit c.args.tokens.now) v.1 left c.in_err-next.ensures.value v.2)

pub each-preserved : goal.each-preserved
each-preserved c =
    let v = c.each.invariant.value in
    let left = some_left (length c.each.rest.now) (sym c.is_empty.ensures ∙ c.each-test.true) in
    let e : functions_of c.in_ok-all.all.items ≡ functions_of c.each.all.items ++ function_of c.in_ok-next.next.value ∷ [] = rw c.in_ok-all.ensures.items (map_push _ c.each.all.items c.in_ok-next.next.value) in
    let s = program_step limit v.0 (functions_of c.each.all.items) c.each.rest.now (function_of c.in_ok-next.next.value) c.in_ok-next.after.now (program_at limit c.args.tokens.now) v.1 left c.in_ok-next.ensures.rest c.in_ok-next.ensures.value v.2 in
    record {
      rest = omega (arith, c.each.invariant.rest, c.in_ok-next.ensures.rest);
      value = rw e s;
    }

pub returns : goal.returns
returns c =
    let v = c.each.invariant.value in
    program_ends limit v.0 (functions_of c.each.all.items) c.each.rest.now (program_at limit c.args.tokens.now) v.1 (none_left (length c.each.rest.now) (sym c.is_empty.ensures ∙ c.each-test.false)) v.2

use Rattle.std.proofs.Common.{◌≡◌, List, refl, sym, ◌∙◌, ◌++◌}
use Rattle.isp_tree.specs.declared.expr.Argument as rust_argument
use Rattle.isp_tree.specs.Tree.{listed}
use Rattle.isp_tree.specs.Views.{argument_of as read_argument, arguments_of as read_arguments, expr_of as read_expr}
use Rattle.isp_exprs.specs.declared.callee.Want.{Want}
use Rattle.isp_exprs.specs.Calls.{first_want}
use Rattle.std.proofs.lemmas.Result.{IfOk-weaker}
use Rattle.isp_name_breaches.specs.reader.Exprs.{arguments_faults, call_of_faults, expr_faults, passed_faults, refusal}
use Rattle.isp_name_breaches.proofs.Calls.{call_told, own_told}
use Rattle.isp_name_breaches.proofs.Exprs.{call_sound, expr_sound, passed_sound}
use Rattle.isp_name_breaches.proofs.Nodes.{binary_told, cast_told, choose_told}
use Rattle.isp_name_breaches.proofs.Steps.{beside_step, none_more, two_told}
use Rattle.isp_name_breaches.proofs.expr.+expr.Goals as goal

pub expr-returns-in-None : goal.expr-returns-in-None
expr-returns-in-None t c =
    none_more _ _ (expr_sound c.args.setting.now.gang c.args.setting.now.headers.now c.args.scope.now (read_expr c.args.x.now) _ c.in_ok-expr_fault.ensures c.in-None.is)

pub faulty-returns-in_ok-refused-in-Cast : goal.faulty-returns-in_ok-refused-in-Cast
faulty-returns-in_ok-refused-in-Cast t c =
    let gang = c.args.setting.now.gang in
    let hs = c.args.setting.now.headers.now in
    let ns = c.args.scope.now in
    IfOk-weaker c.expr.result (λ u. c.expr.new.found.items ≡ c.refused.new.found.items ++ expr_faults gang hs ns (read_expr c.deref-in-Cast.result.now))
    (λ u. c.expr.new.found.items ≡ c.args.found.now.items ++ expr_faults gang hs ns (read_expr c.args.x.now))
    (λ u told. cast_told gang hs ns c.args.x.now _ _ _ c.value_said.result c.deref-in-Cast.result.now c.args.found.now.items c.refused.new.found.items c.expr.new.found.items
    c.in-Cast.is c.value_said.ensures c.deref-in-Cast.ensures c.in_ok-refused-in-Cast.ensures told) c.expr.ensures

pub faulty-returns-in_ok-expr-in-Binary : goal.faulty-returns-in_ok-expr-in-Binary
faulty-returns-in_ok-expr-in-Binary t c =
    let gang = c.args.setting.now.gang in
    let hs = c.args.setting.now.headers.now in
    let ns = c.args.scope.now in
    let first = c.expr-in-Binary.new.found.items in
    let last = c.expr-in-Binary-2.new.found.items in
    IfOk-weaker c.expr-in-Binary-2.result (λ u. last ≡ first ++ expr_faults gang hs ns (read_expr c.deref-in-Binary-2.result.now))
    (λ u. last ≡ c.args.found.now.items ++ expr_faults gang hs ns (read_expr c.args.x.now))
    (λ u told. binary_told gang hs ns c.args.x.now _ _ _ _ c.deref-in-Binary.result.now c.deref-in-Binary-2.result.now c.args.found.now.items first last
    c.in-Binary.is c.deref-in-Binary.ensures c.deref-in-Binary-2.ensures c.in_ok-expr-in-Binary.ensures told) c.expr-in-Binary-2.ensures

pub faulty-returns-in_ok-expr-in-Choose-2 : goal.faulty-returns-in_ok-expr-in-Choose-2
faulty-returns-in_ok-expr-in-Choose-2 t c =
    let gang = c.args.setting.now.gang in
    let hs = c.args.setting.now.headers.now in
    let ns = c.args.scope.now in
    let first = c.expr-in-Choose.new.found.items in
    let second = c.expr-in-Choose-2.new.found.items in
    let last = c.expr-in-Choose-3.new.found.items in
    IfOk-weaker c.expr-in-Choose-3.result (λ u. last ≡ second ++ expr_faults gang hs ns (read_expr c.deref-in-Choose-3.result.now))
    (λ u. last ≡ c.args.found.now.items ++ expr_faults gang hs ns (read_expr c.args.x.now))
    (λ u told. choose_told gang hs ns c.args.x.now _ _ _ _ c.deref-in-Choose.result.now c.deref-in-Choose-2.result.now c.deref-in-Choose-3.result.now c.args.found.now.items first second last
    c.in-Choose.is c.deref-in-Choose.ensures c.deref-in-Choose-2.ensures c.deref-in-Choose-3.ensures c.in_ok-expr-in-Choose.ensures c.in_ok-expr-in-Choose-2.ensures told) c.expr-in-Choose-3.ensures

pub passed-returns-in-None : goal.passed-returns-in-None
passed-returns-in-None t c =
    none_more _ _ (passed_sound c.args.setting.now.gang c.args.setting.now.headers.now c.args.scope.now c.args.want (read_argument c.args.x.now) _ c.in_ok-argument_fault.ensures c.in-None.is)

pub arguments-loop-place-preserved : goal.arguments-loop-place-preserved
arguments-loop-place-preserved t c =
    let gang = c.args.setting.now.gang in
    let hs = c.args.setting.now.headers.now in
    let ns = c.args.scope.now in
    beside_step (λ (ws : List Want) (xs : List rust_argument.Argument). arguments_faults gang hs ns c.args.past ws (listed (read_arguments xs)))
    (λ (ws : List Want) (x : rust_argument.Argument). passed_faults gang hs ns (first_want c.args.past ws) (read_argument x)) (λ ws x xs. refl)
    c.args.wants.now c.args.all.now c.loop-place.place c.index-all-place.result c.loop-place.found.items _ _ c.loop-place-test.true c.index-all-place.is
    (rw (← c.want_at.ensures) c.in_ok-passed.ensures) c.loop-place.invariant

pub call-returns-in-None : goal.call-returns-in-None
call-returns-in-None t c =
    none_more _ _ (call_sound c.args.setting.now.gang c.args.setting.now.headers.now c.args.scope.now c.args.function.now (listed (read_arguments c.args.all.now)) c.args.span _ c.in_ok-call_fault.ensures c.in-None.is)

pub call-returns-in_ok-arguments-in-Some : goal.call-returns-in_ok-arguments-in-Some
call-returns-in_ok-arguments-in-Some t c =
    let gang = c.args.setting.now.gang in
    let hs = c.args.setting.now.headers.now in
    let ns = c.args.scope.now in
    let xs = listed (read_arguments c.args.all.now) in
    let known = refusal c.unless_unknown.result in
    let inside = arguments_faults gang hs ns c.asked_past.result c.called-callee.result.1.now xs in
    own_told c.own.result c.len-before.result c.arguments.new.found.items c.own.new.found.items c.in-Some.fault c.args.found.now.items (known ++ inside)
    (call_of_faults gang hs ns c.args.function.now xs c.args.span) c.own.ensures (sym (c.len-before.ensures ∙ c.args.found.now.ok.0))
    (two_told _ _ _ known inside c.in_ok-refused-in-Some.ensures c.in_ok-arguments-in-Some.ensures)
    (call_told gang hs ns c.args.function.now c.args.all.now c.args.span c.called-callee.result.0 c.asked_past.result c.called-callee.result.1.now c.unless_unknown.result _ c.in-Some.fault
    c.called-callee.ensures c.asked_past.ensures c.unless_unknown.ensures c.in_ok-call_fault.ensures c.in-Some.is)

use Rattle.std.proofs.Common.{◌≡◌, ◌≤◌, ◌+◌, ℕ, suc, length, sym, ap, ◌∙◌, arith, drop, drop_of_length-le}
use Rattle.std.specs.Prelude.{List, Result, Option, option_map, map}
use Rattle.isp_lex.specs.declared.fault.Fault.{Fault}
use Rattle.isp_tree.specs.declared.stmt.Stmt as rust
use Rattle.isp_tree.specs.Nodes.{nodes_of_block, nodes_of_stmts}
use Rattle.isp_tree.specs.Tree.{all}
use Rattle.isp_tree.specs.Views.{block_of as read_block, expr_of as read_expr, first_of as read_first, range_of as read_range, simple_of as read_simple, stmt_of as read_stmt, stmts_of as read_stmts}
use Rattle.isp_typed.specs.Typed.{TFirst, TStmt}
use Rattle.isp_typed.specs.Verdicts.{made}
use Rattle.isp_typed.specs.Views.{stmt_of as typed_stmt_of}
use Rattle.isp_exprs.specs.Typing.{perhaps}
use Rattle.isp_types.specs.Numbering.{block_variables, first_names, first_variables, range_names, variables_after}
use Rattle.isp_types.specs.Nodes.{braces_made, if_stmt, if_else_stmt, while_stmt, do_stmt, for_stmt, print_stmt}
use Rattle.isp_types.specs.reader.Boxes.{boxed_stmt, listed_exprs}
use Rattle.isp_types.specs.Statements.{block_typing, first_typing, stmt_typing, test_typing}
use Rattle.isp_types.proofs.NamesKept.{names_kept, first_kept, ranges_kept, kept_then}
use Rattle.isp_types.proofs.StmtParts.{joined_parts, joined_for, both_are, left_again, test_judged, body_judged, rest_judged, printed_judged}
use Rattle.isp_types.proofs.StmtTrees.{block_view, print_view}
use Rattle.isp_types.proofs.StmtSteps.{nodes_low, split_at, stmts_step, variables_step, joined_none, answer_is, any_ok, pair_seen}
use Rattle.isp_types.proofs.stmt.+stmt.Goals as goal

pub body-returns : goal.body-returns
body-returns t c =
    let v = c.in_ok-found.ensures in
    let gang = c.args.context.now.setting.gang in
    let ns = c.args.walk.now.scope in
    let vars = c.args.walk.now.variables.items in
    let judged : ℕ → Result TStmt Fault = λ n. (stmt_typing gang c.args.context.now.setting.headers.now c.args.context.now.answer ns n vars (read_stmt c.args.s.now)).verdict in
    record {
      value = answer_is c.boxed.result (made boxed_stmt) (made typed_stmt_of c.in_ok-found.found) (judged (length ns)) c.boxed.ensures (v.value ∙ ap judged c.len-start.ensures);
      names = any_ok c.boxed.result _ (c.leave.ensures ∙ (rw (v.names, c.len-start.ensures) (names_kept gang ns vars (read_stmt c.args.s.now))));
      variables = any_ok c.boxed.result _ v.variables;
    }

pub inner_block-returns : goal.inner_block-returns
inner_block-returns t c =
    let v = c.in_ok-found.ensures in
    record {
      value = rw (← c.len-start.ensures) v.value;
      names = c.leave.ensures ∙ (rw c.len-start.ensures v.names);
      variables = v.variables;
    }

pub block-stmt-requires : goal.block-stmt-requires
block-stmt-requires t c =
    let xs = c.deref-s-items.result.now in
    let low = nodes_low xs c.loop-s.s-index c.s-item.result c.loop-s-test.true c.s-item.is in
    let whole : nodes_of_block (read_block c.args.b.now) ≡ suc (nodes_of_stmts (all (read_stmts xs))) =
    ap nodes_of_block (block_view c.args.b.now) ∙ ap (λ (z : List rust.Stmt). suc (nodes_of_stmts (all (read_stmts z)))) (sym c.deref-s-items.ensures.value) in
    (omega (arith, low, whole, c.decreases), tt)

pub block-loop-s-preserved : goal.block-loop-s-preserved
block-loop-s-preserved t c =
    let v = c.in_ok-part.ensures in
    let h = c.loop-s.invariant in
    let gang = c.args.context.now.setting.gang in
    let hs = c.args.context.now.setting.headers.now in
    let ns = c.loop-s.walk.scope in
    let vars = c.loop-s.walk.variables.items in
    let xs = c.deref-s-items.result.now in
    let i = c.loop-s.s-index in
    let x = c.s-item.result in
    let split = split_at xs i x c.loop-s-test.true c.s-item.is in
    record {
      names = rw v.names (kept_then gang _ ns vars (read_stmt x) h.names);
      variables = rw (v.names, v.variables) (variables_step gang hs ns vars (drop i xs) (drop (i + 1) xs) _ x split h.variables);
      value = rw (c.in_ok-done.ensures, v.value, v.names, v.variables)
          (stmts_step gang hs c.args.context.now.answer ns c.args.start vars (drop i xs) (drop (i + 1) xs) _ _ x split h.value);
    }

pub block-returns : goal.block-returns
block-returns t c =
    let h = c.loop-s.invariant in
    let gang = c.args.context.now.setting.gang in
    let hs = c.args.context.now.setting.headers.now in
    let ns = c.args.walk.now.scope in
    let vars = c.args.walk.now.variables.items in
    let b = c.args.b.now in
    let xs = c.deref-s-items.result.now in
    let over : length xs ≤ c.loop-s.s-index = omega arith in
    let j = rw (drop_of_length-le xs over) at h.value in
    let k = rw (drop_of_length-le xs over) at h.variables in
    record {
      value = c.braces.ensures ∙ (ap (made (braces_made b.span)) (sym (joined_none _) ∙ j) ∙ rw c.deref-s-items.ensures.value (sym (ap (λ z. (block_typing gang hs c.args.context.now.answer ns c.args.start vars z).verdict) (block_view b))));
      names = h.names;
      variables = k ∙ rw c.deref-s-items.ensures.value (sym (ap (block_variables gang hs ns vars) (block_view b)));
    }

pub if_then-returns-clause-value : goal.if_then-returns-clause-value
if_then-returns-clause-value t c =
    let gang = c.args.context.now.setting.gang in
    let hs = c.args.context.now.setting.headers.now in
    let ns = c.args.walk.now.scope in
    let vars = c.args.walk.now.variables.items in
    let done = c.in_ok-done.ensures in
    let x = read_expr c.args.x.now in
    joined_parts (λ n. if_stmt c.args.form n c.args.span) _ _ (length vars) _ (test_typing gang hs ns x).verdict _ (stmt_typing gang hs c.args.context.now.answer ns (length ns) vars (read_stmt c.args.then.now)).verdict
    c.if_stmt.ensures (c.len-before.ensures ∙ c.args.walk.now.variables.ok.0) (test_judged gang hs _ _ ns x c.in_ok-found.ensures done.names) done.value

pub if_else-returns-clause-value : goal.if_else-returns-clause-value
if_else-returns-clause-value t c =
    let gang = c.args.context.now.setting.gang in
    let hs = c.args.context.now.setting.headers.now in
    let answer = c.args.context.now.answer in
    let ns = c.args.walk.now.scope in
    let vars = c.args.walk.now.variables.items in
    let chosen = c.in_ok-chosen.ensures in
    let other = c.in_ok-other.ensures in
    let x = read_expr c.args.x.now in
    let a = read_stmt c.args.then.now in
    let b = read_stmt c.args.otherwise.now in
    let otherwise = body_judged gang hs answer _ _ ns _ (variables_after gang hs ns vars a) b other.value chosen.names chosen.variables in
    let bodies = pair_seen boxed_stmt boxed_stmt c.in_ok-chosen.chosen c.in_ok-other.other c.both.result c.both.ensures in
    let judged = both_are _ (stmt_typing gang hs answer ns (length ns) vars a).verdict _ (stmt_typing gang hs answer ns (length ns) (variables_after gang hs ns vars a) b).verdict chosen.value otherwise in
    joined_parts (λ n. if_else_stmt c.args.form n c.args.span) _ _ (length vars) _ (test_typing gang hs ns x).verdict _ _
    c.if_else_stmt.ensures (c.len-before.ensures ∙ c.args.walk.now.variables.ok.0) (test_judged gang hs _ _ ns x c.in_ok-found.ensures (other.names ∙ chosen.names)) (bodies ∙ judged)

pub while_loop-returns-clause-value : goal.while_loop-returns-clause-value
while_loop-returns-clause-value t c =
    let gang = c.args.context.now.setting.gang in
    let hs = c.args.context.now.setting.headers.now in
    let ns = c.args.walk.now.scope in
    let vars = c.args.walk.now.variables.items in
    let done = c.in_ok-done.ensures in
    let x = read_expr c.args.x.now in
    joined_parts (λ n. while_stmt c.args.form n c.args.span) _ _ (length vars) _ (test_typing gang hs ns x).verdict _ (stmt_typing gang hs c.args.context.now.answer ns (length ns) vars (read_stmt c.args.inner.now)).verdict
    c.while_stmt.ensures (c.len-before.ensures ∙ c.args.walk.now.variables.ok.0) (test_judged gang hs _ _ ns x c.in_ok-found.ensures done.names) done.value

pub do_loop-returns-clause-value : goal.do_loop-returns-clause-value
do_loop-returns-clause-value t c =
    let gang = c.args.context.now.setting.gang in
    let hs = c.args.context.now.setting.headers.now in
    let ns = c.args.walk.now.scope in
    let vars = c.args.walk.now.variables.items in
    let done = c.in_ok-done.ensures in
    let x = read_expr c.args.x.now in
    joined_parts (λ n. do_stmt c.args.form n c.args.span) _ _ (length vars) _ (stmt_typing gang hs c.args.context.now.answer ns (length ns) vars (read_stmt c.args.inner.now)).verdict _ (test_typing gang hs ns x).verdict
    c.do_stmt.ensures (c.len-before.ensures ∙ c.args.walk.now.variables.ok.0) done.value (test_judged gang hs _ _ ns x c.in_ok-found.ensures done.names)

pub for_loop-returns-clause-value : goal.for_loop-returns-clause-value
for_loop-returns-clause-value t c =
    let gang = c.args.context.now.setting.gang in
    let hs = c.args.context.now.setting.headers.now in
    let answer = c.args.context.now.answer in
    let ns = c.args.walk.now.scope in
    let vars = c.args.walk.now.variables.items in
    let first = c.in_ok-first.ensures in
    let done = c.in_ok-done.ensures in
    let i = option_map read_first c.args.head.first.now in
    let x = option_map read_expr c.args.head.test.now in
    let p = option_map read_simple c.args.head.step.now in
    let a = read_stmt c.args.inner.now in
    let judged : ℕ → Result (Option TFirst) Fault = λ n. (perhaps (first_typing gang hs ns n vars) i).verdict in
    joined_for (λ n m. for_stmt c.args.form n m c.args.span) _ _ (length vars) _ (length (first_variables gang vars i)) _ (judged (length ns)) _ _
    c.for_stmt.ensures (c.len-before.ensures ∙ c.args.walk.now.variables.ok.0) (c.len-inside.ensures ∙ c.first_if.new.variables.ok.0 ∙ ap length first.variables) (first.value ∙ ap judged c.len-outer.ensures)
    (rest_judged gang hs answer _ _ _ _ (first_names gang ns vars i) _ (first_variables gang vars i) x p a c.in_ok-rest.ensures done.value done.names first.names first.variables)

pub for_loop-returns-clause-names : goal.for_loop-returns-clause-names
for_loop-returns-clause-names t c =
    let gang = c.args.context.now.setting.gang in
    let ns = c.args.walk.now.scope in
    let vars = c.args.walk.now.variables.items in
    let i = option_map read_first c.args.head.first.now in
    left_again _ _ _ ns (first_names gang ns vars i) c.leave.ensures c.len-outer.ensures (c.in_ok-done.ensures.names ∙ c.in_ok-first.ensures.names) (first_kept gang ns vars i)

pub foreach-returns-clause-names : goal.foreach-returns-clause-names
foreach-returns-clause-names t c =
    let ns = c.args.walk.now.scope in
    let vars = c.args.walk.now.variables.items in
    let rs = map read_range c.args.all.now in
    left_again _ _ _ ns (range_names ns vars rs) c.leave.ensures c.len-outer.ensures (c.in_ok-done.ensures.names ∙ c.in_ok-found.ensures.names) (ranges_kept ns vars rs)

pub stmt-returns-in_ok-found-in-Print-clause-value : goal.stmt-returns-in_ok-found-in-Print-clause-value
stmt-returns-in_ok-found-in-Print-clause-value t c =
    let gang = c.args.context.now.setting.gang in
    let hs = c.args.context.now.setting.headers.now in
    let ns = c.args.walk.now.scope in
    let w = c.in-Print in
    let found = made listed_exprs c.in_ok-found-in-Print.found in
    let judged = printed_judged gang hs w.keyword w.text_span w.span w.text ns found c.deref-in-Print.result.now w.values.items c.in_ok-found-in-Print.ensures c.deref-in-Print.ensures.value in
    let read = ap read_stmt w.is ∙ print_view w.keyword w.text w.text_span w.values w.span in
    answer_is c.print_stmt.result (made typed_stmt_of) (made (print_stmt w.keyword w.text w.span) found) _ c.print_stmt.ensures
    (judged ∙ sym (ap (λ z. (stmt_typing gang hs c.args.context.now.answer ns c.args.start c.args.walk.now.variables.items z).verdict) read))

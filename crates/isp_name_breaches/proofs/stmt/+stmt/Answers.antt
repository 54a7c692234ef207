use Rattle.std.proofs.Common.{◌≤◌, ◌+◌, ◌++◌, length, map, drop, ap, sym, ◌∙◌, arith, append-nil, drop_of_length-le}
use Rattle.std.specs.Prelude.{List, option_map}
use Rattle.isp_lex.specs.declared.fault.Fault.{Fault}
use Rattle.isp_tree.specs.Views.{expr_of as read_expr, first_of as read_first, range_of as read_range, stmt_of as read_stmt}
use Rattle.isp_types.specs.Numbering.{block_variables, first_names, range_names}
use Rattle.isp_types.proofs.NamesKept.{names_kept, first_kept, ranges_kept, kept_then}
use Rattle.isp_types.proofs.StmtParts.{left_again}
use Rattle.isp_types.proofs.StmtSteps.{split_at, variables_step}
use Rattle.isp_types.proofs.StmtTrees.{block_view}
use Rattle.isp_name_breaches.specs.reader.Stmts.{block_faults}
use Rattle.isp_name_breaches.proofs.StmtSteps.{if_else_told, repeated_told, stmts_step}
use Rattle.isp_name_breaches.proofs.stmt.+stmt.Goals as goal

pub body-returns : goal.body-returns
body-returns t c =
    let v = c.in_ok-stmt.ensures in
    record {
      found = rw (← c.len-start.ensures) v.found;
      names = c.leave.ensures ∙ rw (v.names, c.len-start.ensures) (names_kept c.args.context.now.setting.gang c.args.walk.now.scope c.args.walk.now.variables.items (read_stmt c.args.s.now));
      variables = v.variables;
    }

pub inner_block-returns : goal.inner_block-returns
inner_block-returns t c =
    let v = c.in_ok-block.ensures in
    record {
      found = rw (← c.len-start.ensures) v.found;
      names = c.leave.ensures ∙ (rw c.len-start.ensures v.names);
      variables = v.variables;
    }

pub block-loop-s-preserved : goal.block-loop-s-preserved
block-loop-s-preserved t c =
    let v = c.in_ok-stmt.ensures in
    let h = c.loop-s.invariant in
    let gang = c.args.context.now.setting.gang in
    let hs = c.args.context.now.setting.headers.now in
    let xs = c.deref-s-items.result.now in
    let i = c.loop-s.s-index in
    let x = c.s-item.result in
    let ns = c.loop-s.walk.scope in
    let vars = c.loop-s.walk.variables.items in
    let split = split_at xs i x c.loop-s-test.true c.s-item.is in
    record {
      names = rw v.names (kept_then gang _ ns vars (read_stmt x) h.names);
      variables = rw (v.names, v.variables) (variables_step gang hs ns vars (drop i xs) (drop (i + 1) xs) _ x split h.variables);
      found = rw (v.names, v.variables) (stmts_step gang hs c.args.context.now.answer ns c.args.start vars (drop i xs) (drop (i + 1) xs) _ _ _ x split v.found h.found);
    }

pub block-returns : goal.block-returns
block-returns t c =
    let h = c.loop-s.invariant in
    let gang = c.args.context.now.setting.gang in
    let hs = c.args.context.now.setting.headers.now in
    let ns = c.args.walk.now.scope in
    let vars = c.args.walk.now.variables.items in
    let b = c.args.b.now in
    let xs = c.deref-s-items.result.now in
    let over : length xs ≤ c.loop-s.s-index = omega arith in
    let j = rw (drop_of_length-le xs over) at h.found in
    let k = rw (drop_of_length-le xs over) at h.variables in
    record {
      found = sym (append-nil _) ∙ (j ∙ rw c.deref-s-items.ensures.value (ap (λ (z : List Fault). c.args.walk.now.found.items ++ z) (sym (ap (block_faults gang hs c.args.context.now.answer ns c.args.start vars) (block_view b)))));
      names = h.names;
      variables = k ∙ rw c.deref-s-items.ensures.value (sym (ap (block_variables gang hs ns vars) (block_view b)));
    }

pub for_loop-returns-clause-names : goal.for_loop-returns-clause-names
for_loop-returns-clause-names t c =
    let gang = c.args.context.now.setting.gang in
    let ns = c.args.walk.now.scope in
    let vars = c.args.walk.now.variables.items in
    let i = option_map read_first c.args.start_part.now in
    left_again _ _ _ ns (first_names gang ns vars i) c.leave.ensures c.len-outer.ensures (c.in_ok-body.ensures.names ∙ c.in_ok-first.ensures.names) (first_kept gang ns vars i)

pub foreach-returns-clause-names : goal.foreach-returns-clause-names
foreach-returns-clause-names t c =
    let ns = c.args.walk.now.scope in
    let vars = c.args.walk.now.variables.items in
    let rs = map read_range c.args.all.now in
    left_again _ _ _ ns (range_names ns vars rs) c.leave.ensures c.len-outer.ensures (c.in_ok-body.ensures.names ∙ c.in_ok-ranges.ensures.names) (ranges_kept ns vars rs)

pub stmt-returns-in_ok-body-in-IfElse-clause-found : goal.stmt-returns-in_ok-body-in-IfElse-clause-found
stmt-returns-in_ok-body-in-IfElse-clause-found t c =
    let then = c.in_ok-body-in-IfElse.ensures in
    if_else_told c.args.context.now.setting.gang c.args.context.now.setting.headers.now c.args.context.now.answer c.args.walk.now.scope _ c.args.start c.args.walk.now.variables.items _
    c.body-in-IfElse.result _ _ _ _ _ c.in-IfElse.form c.in-IfElse.test c.in-IfElse.then c.in-IfElse.otherwise c.in-IfElse.span _ _
    c.in-IfElse.is c.deref.ensures c.deref-in-IfElse.ensures c.in_ok-expr-in-IfElse.ensures then.found then.names then.variables c.body-in-IfElse.ensures.found

pub repeated-returns-clause-found : goal.repeated-returns-clause-found
repeated-returns-clause-found t c =
    repeated_told c.args.context.now.setting.gang c.args.context.now.setting.headers.now c.args.context.now.answer c.args.walk.now.scope _ c.args.walk.now.variables.items
    c.expr.result _ _ _ (read_stmt c.args.inner.now) (read_expr c.args.test.now) c.in_ok-body.ensures.found c.in_ok-body.ensures.names c.expr.ensures

use Rattle.isp_gang_run.proofs.Results.{on_ok}
use Rattle.isp_gang_run.specs.Due.{own, run_due}
use Rattle.isp_gang_run.proofs.Progress.{leaves_as}
use Rattle.std.proofs.Common.{refl, sym, ap, ap₂, ◌∙◌}
use Rattle.std.proofs.Common.{ℕ, List, Option, Bor}
use Rattle.std.specs.Prelude.{option_map}
use Rattle.isp_typed.specs.declared.stmt.TypedFirst.{TypedFirst}
use Rattle.isp_typed.specs.Typed.{TExpr, TFirst, TSimple, TStmt, TBlock, t_declare, t_if, t_if_else, t_while, t_do, t_for, t_foreach, t_foreach_active, t_foreach_unique, t_return, t_print}
use Rattle.isp_typed.specs.Views.{stmt_of, stmt_step, block_step, expr_of, exprs_of, first_of, items_of, ranges_of, simple_of}
use Rattle.isp_typed.specs.declared.expr.TypedExpr.{TypedExpr}
use Rattle.isp_typed.specs.declared.stmt.TypedItem.{TypedItem}
use Rattle.isp_typed.specs.declared.stmt.TypedRange.{TypedRange}
use Rattle.isp_typed.specs.declared.stmt.TypedStmt.{TypedStmt}
use Rattle.isp_typed.proofs.StmtViews.{if_view, if_else_view, while_view, do_view, for_view, foreach_view, active_view, unique_view}
use Rattle.isp_typed.specs.declared.stmt.TypedStmt.TheVariants as variant
use Rattle.isp_typed.specs.declared.stmt.TypedStmt.TheFolds.{fold-roll-TypedStmt}
use Rattle.isp_gang_run.proofs.Arms.{arm, arm_ok, arm_err, memory_err, part_is, return_is}
use Rattle.isp_gang_run.proofs.state.Evaluator.run.Goals as goal

pub returns-in-Block-clause-ok : goal.returns-in-Block-clause-ok
returns-in-Block-clause-ok c =
    arm_ok c.args.self.now c.block.new.self c.args.statement c.args.set _ _
    (ap stmt_of (c.in-Block.is ∙ sym (variant.rolls-Block c.in-Block.block)) ∙ fold-roll-TypedStmt TStmt TBlock stmt_step block_step _) (λ w. refl) c.block.result c.block.ensures.ok

pub returns-in-Block-clause-err : goal.returns-in-Block-clause-err
returns-in-Block-clause-err c = memory_err c.args.self.now c.block.new.self _ c.block.result c.block.ensures.err

pub returns-in-Declare-clause-ok : goal.returns-in-Declare-clause-ok
returns-in-Declare-clause-ok c =
    arm_ok c.args.self.now c.declare.new.self c.args.statement c.args.set _ _
    (ap stmt_of (c.in-Declare.is ∙ sym (variant.rolls-Declare c.in-Declare.items c.in-Declare.span))
    ∙ fold-roll-TypedStmt TStmt TBlock stmt_step block_step _
    ∙ ap (λ (ys : List TypedItem). t_declare (items_of ys) c.in-Declare.span) (sym c.as_slice.ensures.value)) (λ w. refl) c.declare.result
    c.declare.ensures.ok

pub returns-in-Declare-clause-err : goal.returns-in-Declare-clause-err
returns-in-Declare-clause-err c = memory_err c.args.self.now c.declare.new.self _ c.declare.result c.declare.ensures.err

pub returns-in-Simple-clause-ok : goal.returns-in-Simple-clause-ok
returns-in-Simple-clause-ok c =
    arm_ok c.args.self.now c.all_do.new.self c.args.statement c.args.set _ _
    (ap stmt_of (c.in-Simple.is ∙ sym (variant.rolls-Simple c.in-Simple.simple c.in-Simple.span)) ∙ fold-roll-TypedStmt TStmt TBlock stmt_step block_step _) (λ w. refl) c.all_do.result c.all_do.ensures.ok

pub returns-in-Simple-clause-err : goal.returns-in-Simple-clause-err
returns-in-Simple-clause-err c = memory_err c.args.self.now c.all_do.new.self _ c.all_do.result c.all_do.ensures.err

pub returns-in-If-clause-ok : goal.returns-in-If-clause-ok
returns-in-If-clause-ok c =
    arm_ok c.args.self.now c.choice.new.self c.args.statement c.args.set _ _
    (ap stmt_of c.in-If.is ∙ if_view c.in-If.form c.in-If.before c.in-If.test c.in-If.then c.in-If.span
    ∙ ap (λ (k : TypedStmt). t_if c.in-If.form c.in-If.before (expr_of c.in-If.test) (stmt_of k) c.in-If.span) (sym c.deref.ensures)) (λ w. refl)
    c.choice.result c.choice.ensures.ok

pub returns-in-If-clause-err : goal.returns-in-If-clause-err
returns-in-If-clause-err c = memory_err c.args.self.now c.choice.new.self _ c.choice.result c.choice.ensures.err

pub returns-in-IfElse-clause-ok : goal.returns-in-IfElse-clause-ok
returns-in-IfElse-clause-ok c =
    arm_ok c.args.self.now c.choice-in-IfElse.new.self c.args.statement c.args.set _ _
    (ap stmt_of c.in-IfElse.is ∙ if_else_view c.in-IfElse.form c.in-IfElse.before c.in-IfElse.test c.in-IfElse.then c.in-IfElse.otherwise
    c.in-IfElse.span ∙ ap₂ (λ (k l : TypedStmt). t_if_else c.in-IfElse.form c.in-IfElse.before (expr_of c.in-IfElse.test) (stmt_of k) (stmt_of l)
    c.in-IfElse.span) (sym c.deref-in-IfElse.ensures) (sym c.deref-in-IfElse-2.ensures)) (λ w. refl) c.choice-in-IfElse.result
    c.choice-in-IfElse.ensures.ok

pub returns-in-IfElse-clause-err : goal.returns-in-IfElse-clause-err
returns-in-IfElse-clause-err c = memory_err c.args.self.now c.choice-in-IfElse.new.self _ c.choice-in-IfElse.result c.choice-in-IfElse.ensures.err

pub returns-in-While-clause-ok : goal.returns-in-While-clause-ok
returns-in-While-clause-ok c =
    arm_ok c.args.self.now c.enter_while.new.self c.args.statement c.args.set _ _
    (ap stmt_of c.in-While.is ∙ while_view c.in-While.form c.in-While.before c.in-While.test c.in-While.body c.in-While.span
    ∙ ap (λ (k : TypedStmt). t_while c.in-While.form c.in-While.before (expr_of c.in-While.test) (stmt_of k) c.in-While.span)
    (sym c.deref-in-While.ensures)) (λ w. refl) c.enter_while.result c.enter_while.ensures.ok

pub returns-in-While-clause-err : goal.returns-in-While-clause-err
returns-in-While-clause-err c =
    arm_err c.args.self.now c.enter_while.new.self c.args.statement c.args.set _ _
    (ap stmt_of c.in-While.is ∙ while_view c.in-While.form c.in-While.before c.in-While.test c.in-While.body c.in-While.span
    ∙ ap (λ (k : TypedStmt). t_while c.in-While.form c.in-While.before (expr_of c.in-While.test) (stmt_of k) c.in-While.span)
    (sym c.deref-in-While.ensures)) (λ w. refl) c.enter_while.result c.enter_while.ensures.err

pub returns-in-Do-clause-ok : goal.returns-in-Do-clause-ok
returns-in-Do-clause-ok c =
    arm_ok c.args.self.now c.enter_do.new.self c.args.statement c.args.set _ _
    (ap stmt_of c.in-Do.is ∙ do_view c.in-Do.form c.in-Do.before c.in-Do.body c.in-Do.test c.in-Do.span
    ∙ ap (λ (k : TypedStmt). t_do c.in-Do.form c.in-Do.before (stmt_of k) (expr_of c.in-Do.test) c.in-Do.span) (sym c.deref-in-Do.ensures))
    (λ w. refl) c.enter_do.result c.enter_do.ensures.ok

pub returns-in-Do-clause-err : goal.returns-in-Do-clause-err
returns-in-Do-clause-err c =
    arm_err c.args.self.now c.enter_do.new.self c.args.statement c.args.set _ _
    (ap stmt_of c.in-Do.is ∙ do_view c.in-Do.form c.in-Do.before c.in-Do.body c.in-Do.test c.in-Do.span
    ∙ ap (λ (k : TypedStmt). t_do c.in-Do.form c.in-Do.before (stmt_of k) (expr_of c.in-Do.test) c.in-Do.span) (sym c.deref-in-Do.ensures))
    (λ w. refl) c.enter_do.result c.enter_do.ensures.err

pub returns-in-For-clause-ok : goal.returns-in-For-clause-ok
returns-in-For-clause-ok c =
    arm_ok c.args.self.now c.enter_for.new.self c.args.statement c.args.set _ _
    (ap stmt_of c.in-For.is ∙ for_view c.in-For.form c.in-For.before c.in-For.first c.in-For.test c.in-For.step c.in-For.inside c.in-For.body c.in-For.span
    ∙ ap₂ (λ (i : Option TFirst) (k : TypedStmt). t_for c.in-For.form c.in-For.before i (option_map expr_of c.in-For.test)
    (option_map simple_of c.in-For.step) c.in-For.inside (stmt_of k) c.in-For.span)
    (part_is first_of c.in-For.first c.as_ref.result c.as_ref.ensures.value) (sym c.deref-in-For.ensures)
    ∙ ap₂ (λ (x : Option TExpr) (p : Option TSimple). t_for c.in-For.form c.in-For.before
    (option_map (λ (v : Bor TypedFirst). first_of v.now) c.as_ref.result) x p c.in-For.inside (stmt_of c.deref-in-For.result.now) c.in-For.span)
    (part_is expr_of c.in-For.test c.as_ref-in-For.result c.as_ref-in-For.ensures.value)
    (part_is simple_of c.in-For.step c.as_ref-in-For-2.result c.as_ref-in-For-2.ensures.value)) (λ w. refl) c.enter_for.result
    c.enter_for.ensures.ok

pub returns-in-For-clause-err : goal.returns-in-For-clause-err
returns-in-For-clause-err c = memory_err c.args.self.now c.enter_for.new.self _ c.enter_for.result c.enter_for.ensures.err

pub returns-in-Foreach-clause-ok : goal.returns-in-Foreach-clause-ok
returns-in-Foreach-clause-ok c =
    arm_ok c.args.self.now c.foreach.new.self c.args.statement c.args.set _ _
    (ap stmt_of c.in-Foreach.is ∙ foreach_view c.in-Foreach.keyword c.in-Foreach.before c.in-Foreach.ranges c.in-Foreach.body c.in-Foreach.span
    ∙ ap₂ (λ (rs : List TypedRange) (k : TypedStmt). t_foreach c.in-Foreach.keyword c.in-Foreach.before (ranges_of rs) (stmt_of k)
    c.in-Foreach.span) (sym c.as_slice-in-Foreach.ensures.value) (sym c.deref-in-Foreach.ensures)) (λ w. refl) c.foreach.result
    c.foreach.ensures.ok

pub returns-in-Foreach-clause-err : goal.returns-in-Foreach-clause-err
returns-in-Foreach-clause-err c = memory_err c.args.self.now c.foreach.new.self _ c.foreach.result c.foreach.ensures.err

pub returns-in-ForeachActive-clause-ok : goal.returns-in-ForeachActive-clause-ok
returns-in-ForeachActive-clause-ok c =
    arm_ok c.args.self.now c.foreach_active.new.self c.args.statement c.args.set _ _
    (ap stmt_of c.in-ForeachActive.is ∙ active_view c.in-ForeachActive.keyword c.in-ForeachActive.before c.in-ForeachActive.index
    c.in-ForeachActive.body c.in-ForeachActive.span ∙ ap
    (λ (k : TypedStmt). t_foreach_active c.in-ForeachActive.keyword c.in-ForeachActive.before c.in-ForeachActive.index (stmt_of k)
    c.in-ForeachActive.span) (sym c.deref-in-ForeachActive.ensures)) (λ w. refl) c.foreach_active.result c.foreach_active.ensures.ok

pub returns-in-ForeachActive-clause-err : goal.returns-in-ForeachActive-clause-err
returns-in-ForeachActive-clause-err c = memory_err c.args.self.now c.foreach_active.new.self _ c.foreach_active.result c.foreach_active.ensures.err

pub returns-in-ForeachUnique-clause-ok : goal.returns-in-ForeachUnique-clause-ok
returns-in-ForeachUnique-clause-ok c =
    let s = c.in-ForeachUnique in
    arm_ok c.args.self.now c.foreach_unique.new.self c.args.statement c.args.set _ _
    (ap stmt_of s.is
    ∙ unique_view s.keyword s.before s.index s.elem s.value s.body s.span
    ∙ ap (λ (k : TypedStmt). t_foreach_unique s.keyword s.before s.index s.elem (expr_of s.value) (stmt_of k) s.span) (sym c.deref-in-ForeachUnique.ensures))
    (λ w. refl) c.foreach_unique.result c.foreach_unique.ensures.ok

pub returns-in-ForeachUnique-clause-err : goal.returns-in-ForeachUnique-clause-err
returns-in-ForeachUnique-clause-err c = memory_err c.args.self.now c.foreach_unique.new.self _ c.foreach_unique.result c.foreach_unique.ensures.err

pub returns-in-Unmasked-clause-ok : goal.returns-in-Unmasked-clause-ok
returns-in-Unmasked-clause-ok c =
    arm_ok c.args.self.now c.unmask.new.self c.args.statement c.args.set _ _
    (ap stmt_of (c.in-Unmasked.is ∙ sym (variant.rolls-Unmasked c.in-Unmasked.keyword c.in-Unmasked.body c.in-Unmasked.span)) ∙ fold-roll-TypedStmt TStmt TBlock stmt_step block_step _) (λ w. refl) c.unmask.result c.unmask.ensures.ok

pub returns-in-Unmasked-clause-err : goal.returns-in-Unmasked-clause-err
returns-in-Unmasked-clause-err c = memory_err c.args.self.now c.unmask.new.self _ c.unmask.result c.unmask.ensures.err

pub returns-in-Return-clause-ok : goal.returns-in-Return-clause-ok
returns-in-Return-clause-ok c =
    arm_ok c.args.self.now c.give.new.self c.args.statement c.args.set _ _
    (ap stmt_of (c.in-Return.is ∙ sym (variant.rolls-Return c.in-Return.keyword c.in-Return.value c.in-Return.span)) ∙ fold-roll-TypedStmt TStmt TBlock stmt_step block_step _
    ∙ ap (λ (x : Option TExpr). t_return c.in-Return.keyword x c.in-Return.span)
    (part_is expr_of c.in-Return.value c.as_ref-in-Return.result c.as_ref-in-Return.ensures.value))
    (return_is c.args.self.now c.args.set c.in-Return.keyword c.in-Return.span c.as_ref-in-Return.result) c.give.result c.give.ensures.ok

pub returns-in-Return-clause-err : goal.returns-in-Return-clause-err
returns-in-Return-clause-err c = memory_err c.args.self.now c.give.new.self _ c.give.result c.give.ensures.err

pub returns-in-Print-clause-ok : goal.returns-in-Print-clause-ok
returns-in-Print-clause-ok c =
    arm_ok c.args.self.now c.print_all.new.self c.args.statement c.args.set _ _
    (ap stmt_of (c.in-Print.is ∙ sym (variant.rolls-Print c.in-Print.keyword c.in-Print.text c.in-Print.values c.in-Print.span))
    ∙ fold-roll-TypedStmt TStmt TBlock stmt_step block_step _
    ∙ ap₂ (λ (bs : List ℕ) (xs : List TypedExpr). t_print c.in-Print.keyword bs (exprs_of xs) c.in-Print.span) (sym c.as_slice-in-Print.ensures)
    (sym c.as_slice-in-Print-2.ensures.value)) (λ w. refl) c.print_all.result c.print_all.ensures.ok

pub returns-in-Print-clause-err : goal.returns-in-Print-clause-err
returns-in-Print-clause-err c = memory_err c.args.self.now c.print_all.new.self _ c.print_all.result c.print_all.ensures.err

pub returns-in-Assert-clause-ok : goal.returns-in-Assert-clause-ok
returns-in-Assert-clause-ok c =
    arm_ok c.args.self.now c.claim.new.self c.args.statement c.args.set _ _
    (ap stmt_of (c.in-Assert.is ∙ sym (variant.rolls-Assert c.in-Assert.test c.in-Assert.call_span c.in-Assert.span)) ∙ fold-roll-TypedStmt TStmt TBlock stmt_step block_step _) (λ w. refl) c.claim.result c.claim.ensures.ok

pub returns-in-Assert-clause-err : goal.returns-in-Assert-clause-err
returns-in-Assert-clause-err c = memory_err c.args.self.now c.claim.new.self _ c.claim.result c.claim.ensures.err

pub returns-in-Jump-clause-ok : goal.returns-in-Jump-clause-ok
returns-in-Jump-clause-ok c =
    arm c.args.self.now c.jump.new.self c.args.statement c.args.set _ _
    (ap stmt_of (c.in-Jump.is ∙ sym (variant.rolls-Jump c.in-Jump.jump c.in-Jump.keyword c.in-Jump.span)) ∙ fold-roll-TypedStmt TStmt TBlock stmt_step block_step _) (λ w. refl) c.jump.ensures.comes

pub returns-in-Block-clause-fewer : goal.returns-in-Block-clause-fewer
returns-in-Block-clause-fewer c =
    on_ok c.block.result (leaves_as c.args.self.now c.block.new.self c.args.self.now.left (ap (λ (n : TStmt). own c.args.self.now run_due n)
    (ap stmt_of (c.in-Block.is ∙ sym (variant.rolls-Block c.in-Block.block)) ∙ fold-roll-TypedStmt TStmt TBlock stmt_step block_step _))) c.block.ensures.fewer

pub returns-in-Declare-clause-fewer : goal.returns-in-Declare-clause-fewer
returns-in-Declare-clause-fewer c =
    on_ok c.declare.result (leaves_as c.args.self.now c.declare.new.self c.args.self.now.left (ap (λ (n : TStmt). own c.args.self.now run_due n)
    (ap stmt_of (c.in-Declare.is ∙ sym (variant.rolls-Declare c.in-Declare.items c.in-Declare.span))
    ∙ fold-roll-TypedStmt TStmt TBlock stmt_step block_step _
    ∙ ap (λ (ys : List TypedItem). t_declare (items_of ys) c.in-Declare.span) (sym c.as_slice.ensures.value)))) c.declare.ensures.fewer

pub returns-in-Simple-clause-fewer : goal.returns-in-Simple-clause-fewer
returns-in-Simple-clause-fewer c =
    on_ok c.all_do.result (leaves_as c.args.self.now c.all_do.new.self c.args.self.now.left (ap (λ (n : TStmt). own c.args.self.now run_due n)
    (ap stmt_of (c.in-Simple.is ∙ sym (variant.rolls-Simple c.in-Simple.simple c.in-Simple.span)) ∙ fold-roll-TypedStmt TStmt TBlock stmt_step block_step _))) c.all_do.ensures.fewer

pub returns-in-If-clause-fewer : goal.returns-in-If-clause-fewer
returns-in-If-clause-fewer c =
    on_ok c.choice.result (leaves_as c.args.self.now c.choice.new.self c.args.self.now.left (ap (λ (n : TStmt). own c.args.self.now run_due n)
    (ap stmt_of c.in-If.is ∙ if_view c.in-If.form c.in-If.before c.in-If.test c.in-If.then c.in-If.span
    ∙ ap (λ (k : TypedStmt). t_if c.in-If.form c.in-If.before (expr_of c.in-If.test) (stmt_of k) c.in-If.span) (sym c.deref.ensures)))) c.choice.ensures.fewer

pub returns-in-IfElse-clause-fewer : goal.returns-in-IfElse-clause-fewer
returns-in-IfElse-clause-fewer c =
    on_ok c.choice-in-IfElse.result (leaves_as c.args.self.now c.choice-in-IfElse.new.self c.args.self.now.left (ap (λ (n : TStmt). own c.args.self.now run_due n)
    (ap stmt_of c.in-IfElse.is ∙ if_else_view c.in-IfElse.form c.in-IfElse.before c.in-IfElse.test c.in-IfElse.then c.in-IfElse.otherwise
    c.in-IfElse.span ∙ ap₂ (λ (k l : TypedStmt). t_if_else c.in-IfElse.form c.in-IfElse.before (expr_of c.in-IfElse.test) (stmt_of k) (stmt_of l)
    c.in-IfElse.span) (sym c.deref-in-IfElse.ensures) (sym c.deref-in-IfElse-2.ensures)))) c.choice-in-IfElse.ensures.fewer

pub returns-in-While-clause-fewer : goal.returns-in-While-clause-fewer
returns-in-While-clause-fewer c =
    on_ok c.enter_while.result (leaves_as c.args.self.now c.enter_while.new.self c.args.self.now.left (ap (λ (n : TStmt). own c.args.self.now run_due n)
    (ap stmt_of c.in-While.is ∙ while_view c.in-While.form c.in-While.before c.in-While.test c.in-While.body c.in-While.span
    ∙ ap (λ (k : TypedStmt). t_while c.in-While.form c.in-While.before (expr_of c.in-While.test) (stmt_of k) c.in-While.span)
    (sym c.deref-in-While.ensures)))) c.enter_while.ensures.fewer

pub returns-in-Do-clause-fewer : goal.returns-in-Do-clause-fewer
returns-in-Do-clause-fewer c =
    on_ok c.enter_do.result (leaves_as c.args.self.now c.enter_do.new.self c.args.self.now.left (ap (λ (n : TStmt). own c.args.self.now run_due n)
    (ap stmt_of c.in-Do.is ∙ do_view c.in-Do.form c.in-Do.before c.in-Do.body c.in-Do.test c.in-Do.span
    ∙ ap (λ (k : TypedStmt). t_do c.in-Do.form c.in-Do.before (stmt_of k) (expr_of c.in-Do.test) c.in-Do.span) (sym c.deref-in-Do.ensures)))) c.enter_do.ensures.fewer

pub returns-in-For-clause-fewer : goal.returns-in-For-clause-fewer
returns-in-For-clause-fewer c =
    on_ok c.enter_for.result (leaves_as c.args.self.now c.enter_for.new.self c.args.self.now.left (ap (λ (n : TStmt). own c.args.self.now run_due n)
    (ap stmt_of c.in-For.is ∙ for_view c.in-For.form c.in-For.before c.in-For.first c.in-For.test c.in-For.step c.in-For.inside c.in-For.body c.in-For.span
    ∙ ap₂ (λ (i : Option TFirst) (k : TypedStmt). t_for c.in-For.form c.in-For.before i (option_map expr_of c.in-For.test)
    (option_map simple_of c.in-For.step) c.in-For.inside (stmt_of k) c.in-For.span)
    (part_is first_of c.in-For.first c.as_ref.result c.as_ref.ensures.value) (sym c.deref-in-For.ensures)
    ∙ ap₂ (λ (x : Option TExpr) (p : Option TSimple). t_for c.in-For.form c.in-For.before
    (option_map (λ (v : Bor TypedFirst). first_of v.now) c.as_ref.result) x p c.in-For.inside (stmt_of c.deref-in-For.result.now) c.in-For.span)
    (part_is expr_of c.in-For.test c.as_ref-in-For.result c.as_ref-in-For.ensures.value)
    (part_is simple_of c.in-For.step c.as_ref-in-For-2.result c.as_ref-in-For-2.ensures.value)))) c.enter_for.ensures.fewer

pub returns-in-Foreach-clause-fewer : goal.returns-in-Foreach-clause-fewer
returns-in-Foreach-clause-fewer c =
    on_ok c.foreach.result (leaves_as c.args.self.now c.foreach.new.self c.args.self.now.left (ap (λ (n : TStmt). own c.args.self.now run_due n)
    (ap stmt_of c.in-Foreach.is ∙ foreach_view c.in-Foreach.keyword c.in-Foreach.before c.in-Foreach.ranges c.in-Foreach.body c.in-Foreach.span
    ∙ ap₂ (λ (rs : List TypedRange) (k : TypedStmt). t_foreach c.in-Foreach.keyword c.in-Foreach.before (ranges_of rs) (stmt_of k)
    c.in-Foreach.span) (sym c.as_slice-in-Foreach.ensures.value) (sym c.deref-in-Foreach.ensures)))) c.foreach.ensures.fewer

pub returns-in-ForeachActive-clause-fewer : goal.returns-in-ForeachActive-clause-fewer
returns-in-ForeachActive-clause-fewer c =
    on_ok c.foreach_active.result (leaves_as c.args.self.now c.foreach_active.new.self c.args.self.now.left (ap (λ (n : TStmt). own c.args.self.now run_due n)
    (ap stmt_of c.in-ForeachActive.is ∙ active_view c.in-ForeachActive.keyword c.in-ForeachActive.before c.in-ForeachActive.index
    c.in-ForeachActive.body c.in-ForeachActive.span ∙ ap
    (λ (k : TypedStmt). t_foreach_active c.in-ForeachActive.keyword c.in-ForeachActive.before c.in-ForeachActive.index (stmt_of k)
    c.in-ForeachActive.span) (sym c.deref-in-ForeachActive.ensures)))) c.foreach_active.ensures.fewer

pub returns-in-ForeachUnique-clause-fewer : goal.returns-in-ForeachUnique-clause-fewer
returns-in-ForeachUnique-clause-fewer c =
    on_ok c.foreach_unique.result (leaves_as c.args.self.now c.foreach_unique.new.self c.args.self.now.left (ap (λ (n : TStmt). own c.args.self.now run_due n)
    (ap stmt_of c.in-ForeachUnique.is
    ∙ unique_view c.in-ForeachUnique.keyword c.in-ForeachUnique.before c.in-ForeachUnique.index c.in-ForeachUnique.elem c.in-ForeachUnique.value c.in-ForeachUnique.body c.in-ForeachUnique.span
    ∙ ap (λ (k : TypedStmt). t_foreach_unique c.in-ForeachUnique.keyword c.in-ForeachUnique.before c.in-ForeachUnique.index c.in-ForeachUnique.elem (expr_of c.in-ForeachUnique.value) (stmt_of k) c.in-ForeachUnique.span) (sym c.deref-in-ForeachUnique.ensures)))) c.foreach_unique.ensures.fewer

pub returns-in-Unmasked-clause-fewer : goal.returns-in-Unmasked-clause-fewer
returns-in-Unmasked-clause-fewer c =
    on_ok c.unmask.result (leaves_as c.args.self.now c.unmask.new.self c.args.self.now.left (ap (λ (n : TStmt). own c.args.self.now run_due n)
    (ap stmt_of (c.in-Unmasked.is ∙ sym (variant.rolls-Unmasked c.in-Unmasked.keyword c.in-Unmasked.body c.in-Unmasked.span)) ∙ fold-roll-TypedStmt TStmt TBlock stmt_step block_step _))) c.unmask.ensures.fewer

pub returns-in-Return-clause-fewer : goal.returns-in-Return-clause-fewer
returns-in-Return-clause-fewer c =
    on_ok c.give.result (leaves_as c.args.self.now c.give.new.self c.args.self.now.left (ap (λ (n : TStmt). own c.args.self.now run_due n)
    (ap stmt_of (c.in-Return.is ∙ sym (variant.rolls-Return c.in-Return.keyword c.in-Return.value c.in-Return.span)) ∙ fold-roll-TypedStmt TStmt TBlock stmt_step block_step _
    ∙ ap (λ (x : Option TExpr). t_return c.in-Return.keyword x c.in-Return.span)
    (part_is expr_of c.in-Return.value c.as_ref-in-Return.result c.as_ref-in-Return.ensures.value)))) c.give.ensures.fewer

pub returns-in-Print-clause-fewer : goal.returns-in-Print-clause-fewer
returns-in-Print-clause-fewer c =
    on_ok c.print_all.result (leaves_as c.args.self.now c.print_all.new.self c.args.self.now.left (ap (λ (n : TStmt). own c.args.self.now run_due n)
    (ap stmt_of (c.in-Print.is ∙ sym (variant.rolls-Print c.in-Print.keyword c.in-Print.text c.in-Print.values c.in-Print.span))
    ∙ fold-roll-TypedStmt TStmt TBlock stmt_step block_step _
    ∙ ap₂ (λ (bs : List ℕ) (xs : List TypedExpr). t_print c.in-Print.keyword bs (exprs_of xs) c.in-Print.span) (sym c.as_slice-in-Print.ensures)
    (sym c.as_slice-in-Print-2.ensures.value)))) c.print_all.ensures.fewer

pub returns-in-Assert-clause-fewer : goal.returns-in-Assert-clause-fewer
returns-in-Assert-clause-fewer c =
    on_ok c.claim.result (leaves_as c.args.self.now c.claim.new.self c.args.self.now.left (ap (λ (n : TStmt). own c.args.self.now run_due n)
    (ap stmt_of (c.in-Assert.is ∙ sym (variant.rolls-Assert c.in-Assert.test c.in-Assert.call_span c.in-Assert.span)) ∙ fold-roll-TypedStmt TStmt TBlock stmt_step block_step _))) c.claim.ensures.fewer

pub returns-in-Jump-clause-fewer : goal.returns-in-Jump-clause-fewer
returns-in-Jump-clause-fewer c =
    leaves_as c.args.self.now c.jump.new.self c.args.self.now.left (ap (λ (n : TStmt). own c.args.self.now run_due n)
    (ap stmt_of (c.in-Jump.is ∙ sym (variant.rolls-Jump c.in-Jump.jump c.in-Jump.keyword c.in-Jump.span)) ∙ fold-roll-TypedStmt TStmt TBlock stmt_step block_step _)) c.jump.ensures.fewer

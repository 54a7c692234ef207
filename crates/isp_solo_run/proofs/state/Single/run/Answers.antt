use Rattle.std.proofs.Common.{refl, sym, ap, ap₂, subst, ◌∙◌, ℕ, List, Option, None, Some, Bor, map}
use Rattle.std.specs.Prelude.{option_map}
use Rattle.isp_typed.specs.declared.expr.TypedExpr.{TypedExpr}
use Rattle.isp_typed.specs.declared.stmt.TypedFirst.{TypedFirst}
use Rattle.isp_typed.specs.declared.stmt.TypedItem.{TypedItem}
use Rattle.isp_typed.specs.declared.stmt.TypedRange.{TypedRange}
use Rattle.isp_typed.specs.declared.stmt.TypedStmt.{TypedStmt}
use Rattle.isp_typed.specs.Typed.{TExpr, TFirst, TSimple, TStmt, TBlock, t_declare, t_if, t_if_else, t_while, t_do, t_for, t_foreach, t_foreach_active, t_foreach_unique, t_print}
use Rattle.isp_typed.specs.Views.{stmt_of, block_of, ranges_of, stmt_step, block_step, expr_of, exprs_of, first_of, items_of, simple_of}
use Rattle.isp_typed.proofs.StmtViews.{if_view, if_else_view, while_view, do_view, for_view, foreach_view, active_view, unique_view}
use Rattle.isp_typed.specs.declared.stmt.TypedStmt.TheVariants as variant
use Rattle.isp_typed.specs.declared.stmt.TypedStmt.TheFolds.{fold-roll-TypedStmt}
use Rattle.isp_solo_meaning.specs.Steps.{items, simple}
use Rattle.isp_solo_run.specs.Due.{block_due}
use Rattle.isp_solo_run.specs.Tasks.{Bounded, Firsts, Tests, Turns, block_in, blocks, bound_in, calls_in, does_task, gathers, go, store_seen}
use Rattle.isp_gang_values.specs.Left.{range_seen}
use Rattle.isp_solo_run.specs.declared.loops.Turning.{Turning}
use Rattle.isp_gang_values.specs.declared.ranges.Range.{Range}
use Rattle.isp_solo_run.specs.declared.state.Single.{Single}
use Rattle.isp_solo_run.specs.declared.tasks.Gathering.TheVariants as gathering
use Rattle.isp_solo_run.specs.declared.tasks.Task.TheVariants as task
use Rattle.isp_solo_run.proofs.Lists.{part_is}
use Rattle.isp_solo_run.proofs.Runs.{stmt_by, if_is, if_else_is, printed_by, asserted_by}
use Rattle.isp_solo_run.proofs.Steps.{ran_goes, ran_always, then_tells}
use Rattle.isp_solo_run.proofs.state.Single.run.Goals as goal

pub returns-in-Block : goal.returns-in-Block
returns-in-Block c =
    stmt_by c.block.result c.args.self.now c.block.new.self c.args.statement _ _
    (ap stmt_of (c.in-Block.is ∙ sym (variant.rolls-Block c.in-Block.block)) ∙ fold-roll-TypedStmt TStmt TBlock stmt_step block_step _)
    refl
    c.block.ensures

pub returns-in-Declare : goal.returns-in-Declare
returns-in-Declare c =
    stmt_by c.later.result c.args.self.now c.later.new.self c.args.statement _ _
    (ap stmt_of (c.in-Declare.is ∙ sym (variant.rolls-Declare c.in-Declare.items c.in-Declare.span))
    ∙ fold-roll-TypedStmt TStmt TBlock stmt_step block_step _
    ∙ ap (λ (ys : List TypedItem). t_declare (items_of ys) c.in-Declare.span) (sym c.as_slice.ensures.value))
    (ran_goes (store_seen c.args.self.now) (items (bound_in c.args.self.now.setting) c.args.self.now.setting.instance
    (store_seen c.args.self.now).frame (calls_in c.args.self.now.setting (store_seen c.args.self.now).left) (items_of c.as_slice.result.now)
    (store_seen c.args.self.now).state))
    c.later.ensures

pub returns-in-Simple : goal.returns-in-Simple
returns-in-Simple c =
    stmt_by c.later-in-Simple.result c.args.self.now c.later-in-Simple.new.self c.args.statement _ _
    (ap stmt_of (c.in-Simple.is ∙ sym (variant.rolls-Simple c.in-Simple.simple c.in-Simple.span)) ∙ fold-roll-TypedStmt TStmt TBlock stmt_step block_step _)
    (ran_goes (store_seen c.args.self.now) (simple (bound_in c.args.self.now.setting) c.args.self.now.setting.instance
    (store_seen c.args.self.now).frame (calls_in c.args.self.now.setting (store_seen c.args.self.now).left) (simple_of c.in-Simple.simple)
    (store_seen c.args.self.now).state))
    c.later-in-Simple.ensures

pub returns-in-If : goal.returns-in-If
returns-in-If c =
    stmt_by c.choice.result c.args.self.now c.choice.new.self c.args.statement _ _
    (ap stmt_of c.in-If.is ∙ if_view c.in-If.form c.in-If.before c.in-If.test c.in-If.then c.in-If.span ∙ ap (λ (k : TypedStmt). t_if c.in-If.form c.in-If.before (expr_of c.in-If.test) (stmt_of k) c.in-If.span) (sym c.deref.ensures))
    (if_is c.args.self.now (store_seen c.args.self.now) (expr_of c.in-If.test) (record { then = c.deref.result; otherwise = None }) refl)
    c.choice.ensures

pub returns-in-IfElse : goal.returns-in-IfElse
returns-in-IfElse c =
    stmt_by c.choice-in-IfElse.result c.args.self.now c.choice-in-IfElse.new.self c.args.statement _ _
    (ap stmt_of c.in-IfElse.is ∙ if_else_view c.in-IfElse.form c.in-IfElse.before c.in-IfElse.test c.in-IfElse.then c.in-IfElse.otherwise
    c.in-IfElse.span ∙ ap₂ (λ (k l : TypedStmt). t_if_else c.in-IfElse.form c.in-IfElse.before (expr_of c.in-IfElse.test) (stmt_of k) (stmt_of l)
    c.in-IfElse.span) (sym c.deref-in-IfElse.ensures) (sym c.deref-in-IfElse-2.ensures))
    (if_else_is c.args.self.now (store_seen c.args.self.now) (expr_of c.in-IfElse.test) (record { then = c.deref-in-IfElse.result; otherwise = Some c.deref-in-IfElse-2.result }) c.deref-in-IfElse-2.result refl)
    c.choice-in-IfElse.ensures

pub returns-in-While : goal.returns-in-While
returns-in-While c =
    stmt_by c.test.result c.args.self.now c.test.new.self c.args.statement _ _
    (ap stmt_of c.in-While.is ∙ while_view c.in-While.form c.in-While.before c.in-While.test c.in-While.body c.in-While.span
    ∙ ap (λ (k : TypedStmt). t_while c.in-While.form c.in-While.before (expr_of c.in-While.test) (stmt_of k) c.in-While.span)
    (sym c.deref-in-While.ensures))
    refl
    (subst (λ (t : Turning). Tests c.test.result c.args.self.now c.test.new.self t) c.new-turning.ensures c.test.ensures)

pub returns-in-Do : goal.returns-in-Do
returns-in-Do c =
    stmt_by c.turn.result c.args.self.now c.turn.new.self c.args.statement _ _
    (ap stmt_of c.in-Do.is ∙ do_view c.in-Do.form c.in-Do.before c.in-Do.body c.in-Do.test c.in-Do.span ∙ ap (λ (k : TypedStmt). t_do c.in-Do.form c.in-Do.before (stmt_of k) (expr_of c.in-Do.test) c.in-Do.span) (sym c.deref-in-Do.ensures))
    refl
    (subst (λ (t : Turning). Turns c.turn.result c.args.self.now c.turn.new.self t) c.new-turning-in-Do.ensures c.turn.ensures)

pub returns-in-For : goal.returns-in-For
returns-in-For c =
    stmt_by c.first.result c.args.self.now c.first.new.self c.args.statement _ _
    (ap stmt_of c.in-For.is ∙ for_view c.in-For.form c.in-For.before c.in-For.first c.in-For.test c.in-For.step c.in-For.inside c.in-For.body c.in-For.span
    ∙ ap₂ (λ (i : Option TFirst) (k : TypedStmt). t_for c.in-For.form c.in-For.before i (option_map expr_of c.in-For.test)
    (option_map simple_of c.in-For.step) c.in-For.inside (stmt_of k) c.in-For.span)
    (part_is first_of c.in-For.first c.as_ref-in-For-2.result c.as_ref-in-For-2.ensures.value) (sym c.deref-in-For.ensures)
    ∙ ap₂ (λ (x : Option TExpr) (p : Option TSimple). t_for c.in-For.form c.in-For.before
    (option_map (λ (v : Bor TypedFirst). first_of v.now) c.as_ref-in-For-2.result) x p c.in-For.inside (stmt_of c.deref-in-For.result.now)
    c.in-For.span) (part_is expr_of c.in-For.test c.as_ref.result c.as_ref.ensures.value)
    (part_is simple_of c.in-For.step c.as_ref-in-For.result c.as_ref-in-For.ensures.value))
    refl
    (subst (λ (t : Turning). Firsts c.first.result c.args.self.now c.first.new.self (option_map (λ (v : Bor TypedFirst). first_of v.now) c.as_ref-in-For-2.result) t) c.new-turning-in-For.ensures c.first.ensures)

pub returns-in-Foreach : goal.returns-in-Foreach
returns-in-Foreach c =
    stmt_by c.bounds.result c.args.self.now c.bounds.new.self c.args.statement _ _
    (ap stmt_of c.in-Foreach.is ∙ foreach_view c.in-Foreach.keyword c.in-Foreach.before c.in-Foreach.ranges c.in-Foreach.body c.in-Foreach.span
    ∙ ap₂ (λ (rs : List TypedRange) (k : TypedStmt). t_foreach c.in-Foreach.keyword c.in-Foreach.before (ranges_of rs) (stmt_of k) c.in-Foreach.span) (sym c.as_slice-in-Foreach.ensures.value) (sym c.deref-in-Foreach.ensures))
    refl
    (subst (λ (ds : List Range). Bounded c.bounds.result c.args.self.now c.bounds.new.self (ranges_of c.as_slice-in-Foreach.result.now) (map range_seen ds) c.deref-in-Foreach.result) c.new.ensures.items c.bounds.ensures)

pub returns-in-ForeachActive : goal.returns-in-ForeachActive
returns-in-ForeachActive c =
    stmt_by c.alone.result c.args.self.now c.alone.new.self c.args.statement _ _
    (ap stmt_of c.in-ForeachActive.is ∙ active_view c.in-ForeachActive.keyword c.in-ForeachActive.before c.in-ForeachActive.index
    c.in-ForeachActive.body c.in-ForeachActive.span ∙ ap
    (λ (k : TypedStmt). t_foreach_active c.in-ForeachActive.keyword c.in-ForeachActive.before c.in-ForeachActive.index (stmt_of k)
    c.in-ForeachActive.span) (sym c.deref-in-ForeachActive.ensures))
    refl
    c.alone.ensures

pub returns-in-ForeachUnique : goal.returns-in-ForeachUnique
returns-in-ForeachUnique c =
    let s = c.in-ForeachUnique in
    stmt_by c.unique.result c.args.self.now c.unique.new.self c.args.statement _ _
    (ap stmt_of s.is ∙ unique_view s.keyword s.before s.index s.elem s.value s.body s.span ∙ ap (λ (k : TypedStmt). t_foreach_unique s.keyword s.before s.index s.elem (expr_of s.value) (stmt_of k) s.span) (sym c.deref-in-ForeachUnique.ensures))
    refl
    c.unique.ensures

pub returns-in-Ok : goal.returns-in-Ok
returns-in-Ok c =
    let old = c.args.self.now in
    let mid = c.push.new.self in
    let b = block_of c.in-Unmasked.body in
    stmt_by c.block-in-Ok.result old c.block-in-Ok.new.self c.args.statement _ (λ r. go (blocks old b r) (does_task old task.Go))
    (ap stmt_of (c.in-Unmasked.is ∙ sym (variant.rolls-Unmasked c.in-Unmasked.keyword c.in-Unmasked.body c.in-Unmasked.span)) ∙ fold-roll-TypedStmt TStmt TBlock stmt_step block_step _)
    (ran_always (store_seen old) (block_in old.setting (store_seen old).frame (store_seen old).left b (store_seen old).state))
    (then_tells old mid task.Go c.in-Ok.ensures.more c.in-Ok.ensures.rest c.block-in-Ok.result c.block-in-Ok.new.self (λ e. blocks e b) (λ e. block_due e.setting e.left b) (λ e. e.left) c.block-in-Ok.ensures)

pub returns-in-Print : goal.returns-in-Print
returns-in-Print c =
    stmt_by c.values.result c.args.self.now c.values.new.self c.args.statement _ _
    (ap stmt_of (c.in-Print.is ∙ sym (variant.rolls-Print c.in-Print.keyword c.in-Print.text c.in-Print.values c.in-Print.span))
    ∙ fold-roll-TypedStmt TStmt TBlock stmt_step block_step _
    ∙ ap (λ (xs : List TypedExpr). t_print c.in-Print.keyword c.in-Print.text (exprs_of xs) c.in-Print.span)
    (sym c.as_slice-in-Print.ensures.value))
    (printed_by c.args.self.now (store_seen c.args.self.now) (exprs_of c.as_slice-in-Print.result.now)
    ∙ ap (λ (ds : List ℕ). gathers c.args.self.now gathering.Print (exprs_of c.as_slice-in-Print.result.now) ds (store_seen c.args.self.now))
    (sym c.new-in-Print.ensures.items))
    c.values.ensures

pub returns-in-Assert : goal.returns-in-Assert
returns-in-Assert c =
    stmt_by c.both-in-Assert.result c.args.self.now c.both-in-Assert.new.self c.args.statement _ _
    (ap stmt_of (c.in-Assert.is ∙ sym (variant.rolls-Assert c.in-Assert.test c.in-Assert.call_span c.in-Assert.span)) ∙ fold-roll-TypedStmt TStmt TBlock stmt_step block_step _)
    (asserted_by c.args.self.now (store_seen c.args.self.now) (record { ref_ptr = c.args.statement.ref_ptr; now = c.in-Assert.test }) c.in-Assert.call_span)
    c.both-in-Assert.ensures

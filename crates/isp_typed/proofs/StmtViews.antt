-- Statements of the code that hold statements, seen as trees.
use Rattle.std.proofs.Common.{◌≡◌, ℕ, sym, ap, ◌∙◌, Vec, Global, Box, Option}
use Rattle.std.specs.Prelude.{option_map}
use Rattle.isp_base.specs.declared.types.Elem.{Elem}
use Rattle.isp_base.specs.declared.types.Span.{Span}
use Rattle.isp_tree.specs.declared.stmt.Form.{Form}
use Rattle.isp_typed.specs.declared.expr.TypedExpr.{TypedExpr}
use Rattle.isp_typed.specs.declared.stmt.TypedRange.{TypedRange}
use Rattle.isp_typed.specs.declared.stmt.TypedFirst.{TypedFirst}
use Rattle.isp_typed.specs.declared.stmt.TypedSimple.{TypedSimple}
use Rattle.isp_typed.specs.declared.stmt.TypedStmt.{TypedStmt}
use Rattle.isp_typed.specs.declared.stmt.TypedStmt.TheVariants as variant
use Rattle.isp_typed.specs.declared.stmt.TypedStmt.TheFolds.{fold-roll-TypedStmt}
use Rattle.isp_typed.specs.Typed.{TStmt, TBlock, t_if, t_if_else, t_while, t_do, t_for, t_foreach, t_foreach_active, t_foreach_unique}
use Rattle.isp_typed.specs.Views.{expr_of, first_of, simple_of, ranges_of, stmt_step, block_step, stmt_of}

pub if_view : (f : Form) (n : ℕ) (x : TypedExpr) (a : Box TypedStmt Global) (s : Span) → stmt_of (variant.If f n x a s) ≡ t_if f n (expr_of x) (stmt_of a.value) s
if_view f n x a s = ap stmt_of (sym (variant.rolls-If f n x a s)) ∙ fold-roll-TypedStmt TStmt TBlock stmt_step block_step _

pub if_else_view : (f : Form) (n : ℕ) (x : TypedExpr) (a b : Box TypedStmt Global) (s : Span)
    → stmt_of (variant.IfElse f n x a b s) ≡ t_if_else f n (expr_of x) (stmt_of a.value) (stmt_of b.value) s
if_else_view f n x a b s = ap stmt_of (sym (variant.rolls-IfElse f n x a b s)) ∙ fold-roll-TypedStmt TStmt TBlock stmt_step block_step _

pub while_view : (f : Form) (n : ℕ) (x : TypedExpr) (a : Box TypedStmt Global) (s : Span) → stmt_of (variant.While f n x a s) ≡ t_while f n (expr_of x) (stmt_of a.value) s
while_view f n x a s = ap stmt_of (sym (variant.rolls-While f n x a s)) ∙ fold-roll-TypedStmt TStmt TBlock stmt_step block_step _

pub do_view : (f : Form) (n : ℕ) (a : Box TypedStmt Global) (x : TypedExpr) (s : Span) → stmt_of (variant.Do f n a x s) ≡ t_do f n (stmt_of a.value) (expr_of x) s
do_view f n a x s = ap stmt_of (sym (variant.rolls-Do f n a x s)) ∙ fold-roll-TypedStmt TStmt TBlock stmt_step block_step _

pub for_view : (f : Form) (n : ℕ) (i : Option TypedFirst) (x : Option TypedExpr) (p : Option TypedSimple) (m : ℕ) (a : Box TypedStmt Global) (s : Span)
    → stmt_of (variant.For f n i x p m a s) ≡ t_for f n (option_map first_of i) (option_map expr_of x) (option_map simple_of p) m (stmt_of a.value) s
for_view f n i x p m a s = ap stmt_of (sym (variant.rolls-For f n i x p m a s)) ∙ fold-roll-TypedStmt TStmt TBlock stmt_step block_step _

pub foreach_view : (k : Span) (n : ℕ) (rs : Vec TypedRange Global) (a : Box TypedStmt Global) (s : Span)
    → stmt_of (variant.Foreach k n rs a s) ≡ t_foreach k n (ranges_of rs.items) (stmt_of a.value) s
foreach_view k n rs a s = ap stmt_of (sym (variant.rolls-Foreach k n rs a s)) ∙ fold-roll-TypedStmt TStmt TBlock stmt_step block_step _

pub active_view : (k : Span) (n i : ℕ) (a : Box TypedStmt Global) (s : Span) → stmt_of (variant.ForeachActive k n i a s) ≡ t_foreach_active k n i (stmt_of a.value) s
active_view k n i a s = ap stmt_of (sym (variant.rolls-ForeachActive k n i a s)) ∙ fold-roll-TypedStmt TStmt TBlock stmt_step block_step _

pub unique_view : (k : Span) (n i : ℕ) (e : Elem) (x : TypedExpr) (a : Box TypedStmt Global) (s : Span)
    → stmt_of (variant.ForeachUnique k n i e x a s) ≡ t_foreach_unique k n i e (expr_of x) (stmt_of a.value) s
unique_view k n i e x a s = ap stmt_of (sym (variant.rolls-ForeachUnique k n i e x a s)) ∙ fold-roll-TypedStmt TStmt TBlock stmt_step block_step _

-- The views at a node.
use Rattle.std.proofs.Common.{◌≡◌, ℕ, ap, ◌∙◌, sym, Vec, Global}
use Rattle.std.specs.Prelude.{Option, option_map}
use Rattle.std.specs.declared.boxed.Box.{Box}
use Rattle.isp_base.specs.declared.types.Elem.{Elem}
use Rattle.isp_base.specs.declared.types.Span.{Span}
use Rattle.isp_base.specs.declared.types.Ty.{Ty}
use Rattle.isp_typed.specs.declared.library.Library.{Library}
use Rattle.isp_typed.specs.declared.expr.TypedExpr as rust
use Rattle.isp_typed.specs.declared.expr.TypedExpr.TheVariants as variant
use Rattle.isp_typed.specs.declared.expr.TypedCall as rust_call
use Rattle.isp_typed.specs.declared.expr.TypedArgument.TheFolds.{fold-roll-TypedExpr, fold_out-TypedCall}
use Rattle.isp_typed.specs.Typed.{TExpr, TPlace, TBase, TArgument, TCall, t_called, t_arguments, t_library, t_exprs}
use Rattle.isp_tree.specs.declared.stmt.Form.{Form}
use Rattle.isp_typed.specs.declared.stmt.TypedBlock as rust_block
use Rattle.isp_typed.specs.declared.stmt.TypedFirst as rust_first
use Rattle.isp_typed.specs.declared.stmt.TypedSimple as rust_simple
use Rattle.isp_typed.specs.declared.stmt.TypedStmt as rust_stmt
use Rattle.isp_typed.specs.declared.stmt.TypedStmt.TheVariants as statement
use Rattle.isp_typed.specs.declared.stmt.TypedStmt.TheFolds.{fold-roll-TypedStmt, fold_out-TypedBlock}
use Rattle.isp_typed.specs.Typed.{TStmt, t_for, TBlock, t_braces, t_stmts}
use Rattle.isp_typed.specs.Views.{stmt_step, block_step, stmt_of, block_of, stmts_of, first_of, simple_of}
use Rattle.isp_typed.specs.Views.{argument_step, base_step, expr_step, place_step, call_step, expr_of, call_of, exprs_of, arguments_of}

pub library_view : (g : Library) (e : Elem) (xs : Vec rust.TypedExpr Global) (t : Ty) (s : Span) → expr_of (variant.Library g e xs t s) ≡ t_library g e (t_exprs (exprs_of xs.items)) t s
library_view g e xs t s = ap expr_of (sym (variant.rolls-Library g e xs t s)) ∙ fold-roll-TypedExpr TArgument TBase TExpr TPlace TCall argument_step base_step expr_step place_step call_step _

pub call_view : (c : rust_call.TypedCall) → call_of c ≡ t_called c.function (t_arguments (arguments_of c.arguments.items)) c.span
call_view c = fold_out-TypedCall TArgument TBase TExpr TPlace TCall argument_step base_step expr_step place_step call_step c

pub block_view : (b : rust_block.TypedBlock) → block_of b ≡ t_braces (t_stmts (stmts_of b.statements.items)) b.span
block_view b = fold_out-TypedBlock TStmt TBlock stmt_step block_step b

pub for_view : (f : Form) (n : ℕ) (i : Option rust_first.TypedFirst) (x : Option rust.TypedExpr) (p : Option rust_simple.TypedSimple) (m : ℕ) (a : Box rust_stmt.TypedStmt Global) (s : Span)
    → stmt_of (statement.For f n i x p m a s) ≡ t_for f n (option_map first_of i) (option_map expr_of x) (option_map simple_of p) m (stmt_of a.value) s
for_view f n i x p m a s = ap stmt_of (sym (statement.rolls-For f n i x p m a s)) ∙ fold-roll-TypedStmt TStmt TBlock stmt_step block_step _

-- Statements and blocks, as they are read and as they are typed, seen as trees.
use Rattle.std.proofs.Common.{◌≡◌, sym, ap, ◌∙◌, Vec, Global, Box, Option}
use Rattle.std.specs.Prelude.{ℕ, List, map, option_map}
use Rattle.isp_base.specs.declared.types.Span.{Span}
use Rattle.isp_tree.specs.declared.types.Word.{Word}
use Rattle.isp_tree.specs.declared.expr.Expr as rust_expr
use Rattle.isp_tree.specs.declared.stmt.First as rust_first
use Rattle.isp_tree.specs.declared.stmt.Form.{Form}
use Rattle.isp_tree.specs.declared.stmt.Range as rust_range
use Rattle.isp_tree.specs.declared.stmt.Simple as rust_simple
use Rattle.isp_tree.specs.declared.stmt.Tiling.{Tiling}
use Rattle.isp_tree.specs.declared.stmt.Stmt as rust
use Rattle.isp_tree.specs.declared.stmt.Stmt.TheVariants as variant
use Rattle.isp_tree.specs.declared.stmt.Stmt.TheFolds.{fold-roll-Stmt, fold_out-Block}
use Rattle.isp_tree.specs.declared.stmt.Block as rust_block
use Rattle.isp_tree.specs.Tree.{Stmt, block, if_then, if_else, loop_while, loop_do, loop_for, foreach, foreach_active, foreach_unique, unmasked, print, Block, braces, all}
use Rattle.isp_base.specs.declared.types.Elem.{Elem}
use Rattle.isp_typed.specs.declared.expr.TypedExpr as typed_expr
use Rattle.isp_typed.specs.declared.stmt.TypedBlock as typed_block
use Rattle.isp_typed.specs.declared.stmt.TypedStmt as typed_stmt
use Rattle.isp_typed.specs.declared.stmt.TypedStmt.TheVariants as typed
use Rattle.isp_typed.specs.declared.stmt.TypedStmt.TheFolds.{fold-roll-TypedStmt, fold_out-TypedBlock}
use Rattle.isp_typed.specs.Typed.{TStmt, TBlock, t_block, t_foreach_unique, t_braces, t_stmts}
use Rattle.isp_typed.specs.Views.{expr_of as typed_expr_of, stmt_step as typed_stmt_step, block_step as typed_block_step, stmt_of as typed_stmt_of, block_of as typed_block_of, stmts_of as typed_stmts_of}
use Rattle.isp_tree.specs.Views.{expr_of, exprs_of, simple_of, first_of, range_of, stmt_step, block_step, stmt_of, block_of, stmts_of}

pub block_view : (b : rust_block.Block) → block_of b ≡ braces (all (stmts_of b.statements.items)) b.span
block_view b = fold_out-Block Stmt Block stmt_step block_step b

pub inner_view : (b : rust_block.Block) → stmt_of (variant.Block b) ≡ block (block_of b)
inner_view b = ap stmt_of (sym (variant.rolls-Block b)) ∙ fold-roll-Stmt Stmt Block stmt_step block_step _

pub if_view : (f : Form) (x : rust_expr.Expr) (a : Box rust.Stmt Global) (s : Span) → stmt_of (variant.If f x a s) ≡ if_then f (expr_of x) (stmt_of a.value) s
if_view f x a s = ap stmt_of (sym (variant.rolls-If f x a s)) ∙ fold-roll-Stmt Stmt Block stmt_step block_step _

pub if_else_view : (f : Form) (x : rust_expr.Expr) (a b : Box rust.Stmt Global) (s : Span) → stmt_of (variant.IfElse f x a b s) ≡ if_else f (expr_of x) (stmt_of a.value) (stmt_of b.value) s
if_else_view f x a b s = ap stmt_of (sym (variant.rolls-IfElse f x a b s)) ∙ fold-roll-Stmt Stmt Block stmt_step block_step _

pub while_view : (f : Form) (x : rust_expr.Expr) (a : Box rust.Stmt Global) (s : Span) → stmt_of (variant.While f x a s) ≡ loop_while f (expr_of x) (stmt_of a.value) s
while_view f x a s = ap stmt_of (sym (variant.rolls-While f x a s)) ∙ fold-roll-Stmt Stmt Block stmt_step block_step _

pub do_view : (f : Form) (a : Box rust.Stmt Global) (x : rust_expr.Expr) (s : Span) → stmt_of (variant.Do f a x s) ≡ loop_do f (stmt_of a.value) (expr_of x) s
do_view f a x s = ap stmt_of (sym (variant.rolls-Do f a x s)) ∙ fold-roll-Stmt Stmt Block stmt_step block_step _

pub for_view : (f : Form) (i : Option rust_first.First) (x : Option rust_expr.Expr) (p : Option rust_simple.Simple) (a : Box rust.Stmt Global) (s : Span)
    → stmt_of (variant.For f i x p a s) ≡ loop_for f (option_map first_of i) (option_map expr_of x) (option_map simple_of p) (stmt_of a.value) s
for_view f i x p a s = ap stmt_of (sym (variant.rolls-For f i x p a s)) ∙ fold-roll-Stmt Stmt Block stmt_step block_step _

pub foreach_view : (t : Tiling) (k : Span) (rs : Vec rust_range.Range Global) (a : Box rust.Stmt Global) (s : Span)
    → stmt_of (variant.Foreach t k rs a s) ≡ foreach t k (map range_of rs.items) (stmt_of a.value) s
foreach_view t k rs a s = ap stmt_of (sym (variant.rolls-Foreach t k rs a s)) ∙ fold-roll-Stmt Stmt Block stmt_step block_step _

pub active_view : (k : Span) (w : Word) (a : Box rust.Stmt Global) (s : Span) → stmt_of (variant.ForeachActive k w a s) ≡ foreach_active k w (stmt_of a.value) s
active_view k w a s = ap stmt_of (sym (variant.rolls-ForeachActive k w a s)) ∙ fold-roll-Stmt Stmt Block stmt_step block_step _

pub unique_view : (k : Span) (w : Word) (x : rust_expr.Expr) (a : Box rust.Stmt Global) (s : Span) → stmt_of (variant.ForeachUnique k w x a s) ≡ foreach_unique k w (expr_of x) (stmt_of a.value) s
unique_view k w x a s = ap stmt_of (sym (variant.rolls-ForeachUnique k w x a s)) ∙ fold-roll-Stmt Stmt Block stmt_step block_step _

pub unmasked_view : (k : Span) (b : rust_block.Block) (s : Span) → stmt_of (variant.Unmasked k b s) ≡ unmasked k (block_of b) s
unmasked_view k b s = ap stmt_of (sym (variant.rolls-Unmasked k b s)) ∙ fold-roll-Stmt Stmt Block stmt_step block_step _

pub print_view : (k : Span) (t : List ℕ) (p : Span) (xs : Vec rust_expr.Expr Global) (s : Span) → stmt_of (variant.Print k t p xs s) ≡ print k t p (exprs_of xs.items) s
print_view k t p xs s = ap stmt_of (sym (variant.rolls-Print k t p xs s)) ∙ fold-roll-Stmt Stmt Block stmt_step block_step _

-- ---- as they are typed

pub typed_block_view : (b : typed_block.TypedBlock) → typed_block_of b ≡ t_braces (t_stmts (typed_stmts_of b.statements.items)) b.span
typed_block_view b = fold_out-TypedBlock TStmt TBlock typed_stmt_step typed_block_step b

pub typed_inner_view : (b : typed_block.TypedBlock) → typed_stmt_of (typed.Block b) ≡ t_block (typed_block_of b)
typed_inner_view b = ap typed_stmt_of (sym (typed.rolls-Block b)) ∙ fold-roll-TypedStmt TStmt TBlock typed_stmt_step typed_block_step _

pub typed_unique_view : (k : Span) (n i : ℕ) (e : Elem) (x : typed_expr.TypedExpr) (a : Box typed_stmt.TypedStmt Global) (s : Span)
    → typed_stmt_of (typed.ForeachUnique k n i e x a s) ≡ t_foreach_unique k n i e (typed_expr_of x) (typed_stmt_of a.value) s
typed_unique_view k n i e x a s = ap typed_stmt_of (sym (typed.rolls-ForeachUnique k n i e x a s)) ∙ fold-roll-TypedStmt TStmt TBlock typed_stmt_step typed_block_step _

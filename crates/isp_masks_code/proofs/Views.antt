-- The views at a node.
use Rattle.std.proofs.Common.{◌≡◌, ◌<◌, List, [], ◌∷◌, length, ap, arith, ◌∙◌, refl, sym, Option, Some, None, Bor}
use Rattle.std.specs.Prelude.{option_copied, option_map}
use Rattle.isp_base.specs.declared.types.Span.{Span}
use Rattle.isp_typed.specs.declared.expr.TypedExpr.{TypedExpr}
use Rattle.isp_typed.specs.declared.stmt.TypedBlock as rust_block
use Rattle.isp_typed.specs.declared.stmt.TypedStmt.TheVariants as variant
use Rattle.isp_typed.specs.declared.stmt.TypedStmt.TheFolds.{fold_out-TypedBlock, fold-roll-TypedStmt}
use Rattle.isp_typed.specs.Typed.{TStmt, TBlock, t_braces, t_return, t_stmts}
use Rattle.isp_typed.specs.declared.stmt.TypedStmt.{TypedStmt}
use Rattle.isp_typed.specs.Views.{expr_of, stmt_step, block_step, block_of, stmt_of, stmts_of}
use Rattle.isp_masks_code.specs.Exits.{block_jump}

pub block_view : (b : rust_block.TypedBlock) → block_of b ≡ t_braces (t_stmts (stmts_of b.statements.items)) b.span
block_view b = fold_out-TypedBlock TStmt TBlock stmt_step block_step b

pub return_view : (k : Span) (x : Option TypedExpr) (s : Span) → stmt_of (variant.Return k x s) ≡ t_return k (option_map expr_of x) s
return_view k x s = ap stmt_of (sym (variant.rolls-Return k x s)) ∙ fold-roll-TypedStmt TStmt TBlock stmt_step block_step _

-- a part that may be left out, seen through a reference
copied_map : {T U : Type 0} (f : T → U) (o : Option (Bor T)) → option_map f (option_copied o) ≡ option_map (λ (v : Bor T). f v.now) o
copied_map f None = refl
copied_map f (Some x) = refl

pub part_is : {T U : Type 0} (f : T → U) (x : Option T) (o : Option (Bor T)) → option_copied o ≡ x → option_map f x ≡ option_map (λ (v : Bor T). f v.now) o
part_is f x o e = sym (ap (option_map f) e) ∙ copied_map f o

-- a block of more than one statement is no jump
pub no_jump : (all : List TypedStmt) (sp : Span) → 1 < length all → block_jump (t_braces (t_stmts (stmts_of all)) sp) ≡ None
no_jump [] sp many = absurd (omega (arith, many))
no_jump (x ∷ []) sp many = absurd (omega (arith, many))
no_jump (x ∷ y ∷ zs) sp many = refl

-- The nodes of a statement whose code stands once more: those of the body of each `foreach`, which has a code for full runs and one
-- for the last.
use Rattle.std.specs.Prelude.{ℕ, ◌+◌}
use Rattle.isp_typed.specs.Nodes.{stmt_nodes}
use Rattle.isp_typed.specs.Typed.{TStmt, t_block, t_declare, t_simple, t_if, t_if_else, t_while, t_do, t_for, t_foreach, t_foreach_active, t_foreach_unique}
use Rattle.isp_typed.specs.Typed.{t_unmasked, t_jump, t_return, t_print, t_assert, TBlock, t_braces, TStmts, t_no_stmts, t_stmt_then}

abbrev mutual
  pub stmt_again : TStmt → ℕ
  stmt_again (t_block b) = block_again b
  stmt_again (t_declare xs sp) = 0
  stmt_again (t_simple x sp) = 0
  stmt_again (t_if f g e x sp) = stmt_again x
  stmt_again (t_if_else f g e x y sp) = stmt_again x + stmt_again y
  stmt_again (t_while f g e x sp) = stmt_again x
  stmt_again (t_do f g x e sp) = stmt_again x
  stmt_again (t_for f g first e step i x sp) = stmt_again x
  stmt_again (t_foreach w g rs x sp) = stmt_nodes x + (stmt_again x + stmt_again x)
  stmt_again (t_foreach_active w g i x sp) = stmt_again x
  stmt_again (t_foreach_unique w g i t e x sp) = stmt_again x
  stmt_again (t_unmasked w b sp) = block_again b
  stmt_again (t_jump j w sp) = 0
  stmt_again (t_return w x sp) = 0
  stmt_again (t_print w text xs sp) = 0
  stmt_again (t_assert x c sp) = 0

  pub block_again : TBlock → ℕ
  block_again (t_braces xs sp) = stmts_again xs

  pub stmts_again : TStmts → ℕ
  stmts_again t_no_stmts = 0
  stmts_again (t_stmt_then x xs) = stmt_again x + stmts_again xs

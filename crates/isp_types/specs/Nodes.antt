-- Statements made of their parts: p has those that are found, in the order of the text.
--     n   the variables before the statement        s   its span        k   where its first word stands
use Rattle.std.specs.Prelude.{ℕ, List, Option}
use Rattle.isp_base.specs.declared.types.Span.{Span}
use Rattle.isp_base.specs.Ranks.{operand}
use Rattle.isp_tree.specs.declared.stmt.Form.{Form}
use Rattle.isp_typed.specs.Typed.{TExpr, TItem, TSimple, TFirst, t_first_declare, TRange, TStmt, t_declare, t_simple, t_if, t_if_else, t_while, t_do, t_for, t_foreach}
use Rattle.isp_typed.specs.Typed.{t_foreach_active, t_foreach_unique, t_unmasked, t_return, t_print, t_assert, TBlock, t_braces, TStmts, t_stmt_then, elem_of}
use Rattle.isp_exprs.specs.Values.{converted}

abbrev pub declared_first : Span → List TItem → TFirst
declared_first s xs = t_first_declare xs s

abbrev pub declared_stmt : Span → List TItem → TStmt
declared_stmt s xs = t_declare xs s

abbrev pub simple_stmt : Span → TSimple → TStmt
simple_stmt s p = t_simple p s

abbrev pub if_stmt : Form → ℕ → Span → TExpr × TStmt → TStmt
if_stmt f n s p = t_if f n p.0 p.1 s

abbrev pub if_else_stmt : Form → ℕ → Span → TExpr × (TStmt × TStmt) → TStmt
if_else_stmt f n s p = t_if_else f n p.0 p.1.0 p.1.1 s

abbrev pub while_stmt : Form → ℕ → Span → TExpr × TStmt → TStmt
while_stmt f n s p = t_while f n p.0 p.1 s

abbrev pub do_stmt : Form → ℕ → Span → TStmt × TExpr → TStmt
do_stmt f n s p = t_do f n p.0 p.1 s

abbrev pub for_stmt : Form → ℕ → ℕ → Span → Option TFirst × (Option TExpr × (Option TSimple × TStmt)) → TStmt
for_stmt f n m s p = t_for f n p.0 p.1.0 p.1.1.0 m p.1.1.1 s

abbrev pub foreach_stmt : Span → ℕ → Span → List TRange × TStmt → TStmt
foreach_stmt k n s p = t_foreach k n p.0 p.1 s

abbrev pub active_stmt : Span → ℕ → Span → TStmt → TStmt
active_stmt k n s a = t_foreach_active k n n a s

-- the value in the type in which operators work, the index in its own
abbrev pub unique_stmt : Span → ℕ → Span → TExpr × TStmt → TStmt
unique_stmt k n s p = t_foreach_unique k n n (elem_of p.0) (converted (operand (elem_of p.0)) p.0) p.1 s

abbrev pub unmasked_stmt : Span → Span → TBlock → TStmt
unmasked_stmt k s b = t_unmasked k b s

abbrev pub return_stmt : Span → Span → Option TExpr → TStmt
return_stmt k s x = t_return k x s

abbrev pub print_stmt : Span → List ℕ → Span → List TExpr → TStmt
print_stmt k t s xs = t_print k t xs s

abbrev pub assert_stmt : Span → Span → TExpr → TStmt
assert_stmt c s x = t_assert x c s

abbrev pub braces_made : Span → TStmts → TBlock
braces_made s ss = t_braces ss s

abbrev pub stmts_made : TStmt × TStmts → TStmts
stmts_made p = t_stmt_then p.0 p.1

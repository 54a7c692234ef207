-- Statements where a walk over a function stands. No part of the promise.
use Rattle.std.specs.Prelude.{List, Result}
use Rattle.isp_lex.specs.declared.fault.Fault.{Fault}
use Rattle.isp_tree.specs.Tree.{Stmt}
use Rattle.isp_typed.specs.declared.variable.Variable.{Variable}
use Rattle.isp_typed.specs.Typed.{TStmt}
use Rattle.isp_types.specs.declared.walk.Context.{Context}
use Rattle.isp_types.specs.declared.walk.Walk.{Walk}
use Rattle.isp_types.specs.Numbering.{variables_after}
use Rattle.isp_types.specs.Statements.{stmt_typing}

-- the verdict on a statement that is no declaration: it is the same wherever the scope around it starts
abbrev pub verdict_at : Context → Walk → Stmt → Result TStmt Fault
verdict_at c w s = (stmt_typing c.setting.gang c.setting.headers.now c.answer w.scope 0 w.variables.items s).verdict

-- the variables after a statement
abbrev pub variables_at : Context → Walk → Stmt → List Variable
variables_at c w s = variables_after c.setting.gang c.setting.headers.now w.scope w.variables.items s

-- Typed trees in boxes and lists, without where they lie in memory.
use Rattle.std.specs.Prelude.{List, Option, option_map}
use Rattle.std.specs.Global.{Box, Vec}
use Rattle.isp_typed.specs.declared.expr.TypedExpr.{TypedExpr}
use Rattle.isp_typed.specs.declared.stmt.TypedFirst.{TypedFirst}
use Rattle.isp_typed.specs.declared.stmt.TypedItem.{TypedItem}
use Rattle.isp_typed.specs.declared.stmt.TypedRange.{TypedRange}
use Rattle.isp_typed.specs.declared.stmt.TypedSimple.{TypedSimple}
use Rattle.isp_typed.specs.declared.stmt.TypedStmt.{TypedStmt}
use Rattle.isp_typed.specs.declared.function.TypedFunction.{TypedFunction}
use Rattle.isp_typed.specs.Typed.{TExpr, TFirst, TFunction, TItem, TRange, TSimple, TStmt}
use Rattle.isp_typed.specs.Views.{exprs_of, first_of, functions_of, item_of, items_of, range_of, ranges_of, simple_of, stmt_of, stmts_of}
use Rattle.isp_exprs.specs.reader.Parts.{boxed_of}

abbrev pub boxed_first : Box TypedFirst → TFirst
boxed_first b = first_of b.value

abbrev pub boxed_item : Box TypedItem → TItem
boxed_item b = item_of b.value

abbrev pub boxed_range : Box TypedRange → TRange
boxed_range b = range_of b.value

abbrev pub boxed_simple : Box TypedSimple → TSimple
boxed_simple b = simple_of b.value

-- the bounds of a range
abbrev pub boxed_pair : Box TypedExpr × Box TypedExpr → TExpr × TExpr
boxed_pair p = (boxed_of p.0, boxed_of p.1)

abbrev pub boxed_stmt : Box TypedStmt → TStmt
boxed_stmt b = stmt_of b.value

-- the two bodies of an `if`
abbrev pub boxed_bodies : Box TypedStmt × Box TypedStmt → TStmt × TStmt
boxed_bodies p = (boxed_stmt p.0, boxed_stmt p.1)

-- the step of a `for`, which may be left out, and its body
abbrev pub boxed_step_and_body : Option (Box TypedSimple) × Box TypedStmt → Option TSimple × TStmt
boxed_step_and_body p = (option_map boxed_simple p.0, boxed_stmt p.1)

-- what stands after the first part of a `for`: its test, its step and its body
abbrev pub boxed_behind_first : Option (Box TypedExpr) × (Option (Box TypedSimple) × Box TypedStmt) → Option TExpr × (Option TSimple × TStmt)
boxed_behind_first p = (option_map boxed_of p.0, boxed_step_and_body p.1)

-- ---- lists

abbrev pub listed_exprs : Vec TypedExpr → List TExpr
listed_exprs l = exprs_of l.items

abbrev pub listed_items : Vec TypedItem → List TItem
listed_items l = items_of l.items

abbrev pub listed_ranges : Vec TypedRange → List TRange
listed_ranges l = ranges_of l.items

abbrev pub listed_stmts : Vec TypedStmt → List TStmt
listed_stmts l = stmts_of l.items

abbrev pub listed_functions : Vec TypedFunction → List TFunction
listed_functions l = functions_of l.items

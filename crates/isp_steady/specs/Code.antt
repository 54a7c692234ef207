-- What code of a program does: an expression, an item, a statement, a list of statements, over a set in a state, where each loop may make
-- so many turns, and so many levels of calls are left.
use Rattle.std.specs.Prelude.{ℕ, List}
use Rattle.isp_base.specs.Sets.{Mask}
use Rattle.isp_base.specs.Types.{gang_width}
use Rattle.isp_typed.specs.Typed.{Program, TExpr, TItem, TRange, TStmt, TStmts}
use Rattle.isp_meaning.specs.Calls.{calls_at}
use Rattle.isp_meaning.specs.Expressions.{value}
use Rattle.isp_meaning.specs.Outcomes.{Val, Res, Done}
use Rattle.isp_meaning.specs.Payloads.{Payload}
use Rattle.isp_meaning.specs.Simple.{item}
use Rattle.isp_meaning.specs.State.{State, Frame}
use Rattle.isp_meaning.specs.Statements.{ranges, run, run_all}
use Rattle.isp_meaning.specs.Rounds.{Range}

-- where code stands: its program, the turns and the levels of calls, and its frame
pub record Where : Type 0 where
  pub program : Program
  pub most : ℕ
  pub left : ℕ
  pub frame : Frame

abbrev pub gang_of : Where → ℕ
gang_of w = gang_width w.program.gang

abbrev pub value_of : Where → TExpr → Mask → State → Val Payload
value_of w x a s = value (gang_of w) w.frame (calls_at w.program w.most w.left) x a s

abbrev pub item_of : Where → TItem → Mask → State → Val Done
item_of w x a s = item (gang_of w) w.frame (calls_at w.program w.most w.left) x a s

abbrev pub run_of : Where → TStmt → Mask → State → Res
run_of w x a s = run (gang_of w) w.frame (calls_at w.program w.most w.left) w.most x a s

abbrev pub run_list : Where → TStmts → Mask → State → Res
run_list w xs a s = run_all (gang_of w) w.frame (calls_at w.program w.most w.left) w.most xs a s

-- the bounds of a `foreach`, as ranges of whole numbers
abbrev pub ranges_of : Where → List TRange → Mask → State → Val (List Range)
ranges_of w rs a s = ranges (gang_of w) w.frame (calls_at w.program w.most w.left) rs a s

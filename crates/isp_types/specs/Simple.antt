-- What stands before a semicolon: which typed tree it is, and beside it what its breaches are.
use Rattle.std.specs.Prelude.{List, Option, Some, None, Result}
use Rattle.isp_base.specs.declared.types.Elem.TheVariants.{I32}
use Rattle.isp_base.specs.declared.types.Gang.{Gang}
use Rattle.isp_base.specs.declared.types.Span.{Span}
use Rattle.isp_base.specs.Ranks.{common}
use Rattle.isp_base.specs.declared.operators.BinOp.{BinOp}
use Rattle.isp_base.specs.declared.operators.BinOp.TheVariants as bin
use Rattle.isp_lex.specs.declared.fault.Fault.{Fault}
use Rattle.isp_tree.specs.declared.stmt.Assignment.{Assignment}
use Rattle.isp_tree.specs.declared.stmt.Assignment.TheVariants as with
use Rattle.isp_tree.specs.declared.stmt.Change.{Change}
use Rattle.isp_tree.specs.declared.stmt.Change.TheVariants.{Increment, Decrement}
use Rattle.isp_tree.specs.Tree.{Expr, place, call, variable, element, Simple, value, assign, change, span_of}
use Rattle.isp_typed.specs.Typed.{TExpr, TPlace, place_type, TSimple, t_value, t_run, t_assign, t_update, t_step, elem_of}
use Rattle.isp_exprs.specs.declared.scope.Binding.{Binding}
use Rattle.isp_exprs.specs.Typing.{Typing, given, both, made, found}
use Rattle.isp_exprs.specs.Scopes.{named}
use Rattle.isp_exprs.specs.Values.{converted}
use Rattle.isp_exprs.specs.Places.{mismatch, variable_target, element_target}
use Rattle.isp_exprs.specs.Passing.{Called, gives, runs}
use Rattle.isp_exprs.specs.Callees.{Heading}
use Rattle.isp_exprs.specs.Rules.{call_of_typing, expr_typing}

-- a call as a statement
abbrev pub stated : Called → TSimple
stated (gives x) = t_value x
stated (runs c) = t_run c

-- `x op= e` works in the common type
abbrev pub updated : BinOp → Span → TPlace × TExpr → TSimple
updated op s p = let e = common (place_type p.0).elem (elem_of p.1) in t_update op e p.0 (converted e p.1) s

abbrev pub assignment_operator : Assignment → Option BinOp
assignment_operator with.Replace = None
assignment_operator with.Add = Some bin.Add
assignment_operator with.Subtract = Some bin.Sub
assignment_operator with.Multiply = Some bin.Mul
assignment_operator with.Divide = Some bin.Div
assignment_operator with.Remainder = Some bin.Rem
assignment_operator with.And = Some bin.And
assignment_operator with.Or = Some bin.Or
assignment_operator with.Xor = Some bin.Xor
assignment_operator with.ShiftLeft = Some bin.Shl
assignment_operator with.ShiftRight = Some bin.Shr

abbrev pub assigned_by : Option BinOp → Span → TPlace × TExpr → TSimple
assigned_by None s p = t_assign p.0 (converted (place_type p.0).elem p.1) s
assigned_by (Some op) s p = updated op s p

abbrev pub assigned : Assignment → Span → TPlace × TExpr → TSimple
assigned a = assigned_by (assignment_operator a)

-- `x++` is `x += 1`, where 1 is an int32
abbrev pub change_operator : Change → BinOp
change_operator Increment = bin.Add
change_operator Decrement = bin.Sub

abbrev pub stepped : Change → Span → TPlace → TSimple
stepped c s p = t_step (change_operator c) (common (place_type p).elem I32) p s

abbrev pub no_place : Span → TExpr → Result TPlace Fault
no_place s x = mismatch s

module _ (gang : Gang) (hs : List Heading) where
  -- A target is a variable or an element, and not constant: 22 at another, 24 at a constant one.
  abbrev pub target_typing : List Binding → Expr → Typing TPlace
  target_typing ns (place (variable w)) = found (variable_target w.span) (given (named ns w))
  target_typing ns (place (element w x s)) = found (element_target s) (both (given (named ns w)) (expr_typing gang hs ns x))
  target_typing ns x = found (no_place (span_of x)) (expr_typing gang hs ns x)

  -- An assigned value is converted to the target's type. A call without a result may stand as a statement.
  abbrev pub simple_typing : List Binding → Simple → Typing TSimple
  simple_typing ns (value (call w xs s)) = made stated (call_of_typing gang hs ns w xs s)
  simple_typing ns (value x) = made t_value (expr_typing gang hs ns x)
  simple_typing ns (assign a t x s) = made (assigned a s) (both (target_typing ns t) (expr_typing gang hs ns x))
  simple_typing ns (change c t s) = made (stepped c s) (target_typing ns t)

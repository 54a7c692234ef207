-- Typed expressions of typed parts: conversions, and the type of each operator.
use Rattle.std.specs.Prelude.{Bool, cond, if◌then◌else◌, Option, Some, None}
use Rattle.isp_base.specs.declared.types.Elem.{Elem}
use Rattle.isp_base.specs.declared.types.Elem.TheVariants.{Bool as Truth, I32}
use Rattle.isp_base.specs.declared.types.Rate.{Rate}
use Rattle.isp_base.specs.declared.types.Span.{Span}
use Rattle.isp_base.specs.declared.types.Value.{Value}
use Rattle.isp_base.specs.declared.types.Gang.{Gang}
use Rattle.isp_base.specs.Types.{gang_width}
use Rattle.isp_base.specs.Ranks.{same_elem, operand, common, chosen}
use Rattle.isp_base.specs.declared.operators.BinOp.{BinOp}
use Rattle.isp_base.specs.declared.operators.BinOp.TheVariants as bin
use Rattle.isp_base.specs.declared.operators.Compare.{Compare}
use Rattle.isp_base.specs.declared.operators.Compare.TheVariants as compare
use Rattle.isp_base.specs.declared.operators.UnaryOp.{UnaryOp}
use Rattle.isp_base.specs.declared.operators.UnaryOp.TheVariants as unary
use Rattle.isp_tree.specs.declared.expr.Operator.{Operator}
use Rattle.isp_tree.specs.declared.expr.Operator.TheVariants as op
use Rattle.isp_tree.specs.declared.expr.Prefix.{Prefix}
use Rattle.isp_tree.specs.declared.expr.Prefix.TheVariants as sign
use Rattle.isp_typed.specs.declared.variable.Logic.{Logic}
use Rattle.isp_typed.specs.declared.variable.Logic.TheVariants as logic
use Rattle.isp_typed.specs.Typed.{TExpr, t_convert, t_cast, t_unary, t_binary, t_compare, t_logic, t_choose, type_of, ty_of, elem_of, rate_of, rate_or}
use Rattle.isp_exprs.specs.declared.values.Joining.{Joining}
use Rattle.isp_exprs.specs.declared.values.Joining.TheVariants as joined_as
use Rattle.isp_exprs.specs.declared.words.ValueWords.{ValueWords}

-- a value as one of an element type: a conversion where it has another
abbrev pub converted : Elem → TExpr → TExpr
converted e x = if same_elem (elem_of x) e then x else t_convert e x

-- `true` is 1, `false` is 0, and `programCount` the number of instances, an int32
abbrev pub truth_value : Bool → Value
truth_value b = record { elem = Truth; bits = cond b 1 0 }

abbrev pub count_value : Gang → Value
count_value gang = record { elem = I32; bits = gang_width gang }

-- brackets are a cast to the value's own type; a cast without a rate keeps that of its operand
abbrev pub in_brackets : Span → TExpr → TExpr
in_brackets s x = t_cast x (type_of x) s

abbrev pub rate_cast : Option Rate → Rate → Rate
rate_cast None r = r
rate_cast (Some q) r = q

abbrev pub cast_to : Span → ValueWords × TExpr → TExpr
cast_to s p = t_cast (converted p.0.elem p.1) (ty_of (rate_cast p.0.rate (rate_of p.1)) p.0.elem) s

-- `-` and `~` keep the type, but a bool becomes an int32; `!` is of a bool
abbrev pub unary_as : UnaryOp → Elem → Span → TExpr → TExpr
unary_as u e s x = t_unary u (converted e x) (ty_of (rate_of x) e) s

abbrev pub with_sign : Prefix → Span → TExpr → TExpr
with_sign sign.Negative s x = unary_as unary.Negate (operand (elem_of x)) s x
with_sign sign.Inverse s x = unary_as unary.Invert (operand (elem_of x)) s x
with_sign sign.Not s x = unary_as unary.Not Truth s x

-- what an operator of two operands does
module _ (s : Span) (x y : TExpr) where
  abbrev pub rate_both : Rate
  rate_both = rate_or (rate_of x) (rate_of y)

  abbrev pub common_both : Elem
  common_both = common (elem_of x) (elem_of y)

  -- an operator works in the common type
  abbrev pub computes : BinOp → TExpr
  computes b = t_binary b (converted common_both x) (converted common_both y) (ty_of rate_both common_both) s

  -- a comparison too, and gives a bool
  abbrev pub compares : Compare → TExpr
  compares c = t_compare c (converted common_both x) (converted common_both y) rate_both s

  -- `&&` and `||` are of bools
  abbrev pub decides : Logic → TExpr
  decides l = t_logic l (converted Truth x) (converted Truth y) rate_both s

  abbrev pub joins : Joining → TExpr
  joins (joined_as.Computes b) = computes b
  joins (joined_as.Compares c) = compares c
  joins (joined_as.Decides l) = decides l

abbrev pub joining : Operator → Joining
joining op.Multiply = joined_as.Computes bin.Mul
joining op.Divide = joined_as.Computes bin.Div
joining op.Remainder = joined_as.Computes bin.Rem
joining op.Add = joined_as.Computes bin.Add
joining op.Subtract = joined_as.Computes bin.Sub
joining op.ShiftLeft = joined_as.Computes bin.Shl
joining op.ShiftRight = joined_as.Computes bin.Shr
joining op.Less = joined_as.Compares compare.Less
joining op.LessEqual = joined_as.Compares compare.LessOrEqual
joining op.Greater = joined_as.Compares compare.Greater
joining op.GreaterEqual = joined_as.Compares compare.GreaterOrEqual
joining op.Equal = joined_as.Compares compare.Equal
joining op.NotEqual = joined_as.Compares compare.NotEqual
joining op.And = joined_as.Computes bin.And
joining op.Xor = joined_as.Computes bin.Xor
joining op.Or = joined_as.Computes bin.Or
joining op.AndAlso = joined_as.Decides logic.And
joining op.OrElse = joined_as.Decides logic.Or

abbrev pub joined : Operator → Span → TExpr × TExpr → TExpr
joined o s p = joins s p.0 p.1 (joining o)

-- `?:` is of a bool and of two values of one type; varying where one of the three is
abbrev pub choice : Span → TExpr × (TExpr × TExpr) → TExpr
choice s p =
    let e = chosen (elem_of p.1.0) (elem_of p.1.1) in
    t_choose (converted Truth p.0) (converted e p.1.0) (converted e p.1.1) (ty_of (rate_or (rate_of p.0) (rate_or (rate_of p.1.0) (rate_of p.1.1))) e) s

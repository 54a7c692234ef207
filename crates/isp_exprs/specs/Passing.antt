-- What goes into a call and what comes out of it.
use Rattle.std.specs.Prelude.{Result, Ok}
use Rattle.isp_base.specs.declared.types.Rate.TheVariants.{Uniform}
use Rattle.isp_base.specs.declared.types.Span.{Span}
use Rattle.isp_base.specs.declared.types.Ty.{Ty}
use Rattle.isp_lex.specs.declared.fault.Fault.{Fault}
use Rattle.isp_typed.specs.declared.variable.ArrayVariable.{ArrayVariable}
use Rattle.isp_typed.specs.declared.variable.Holds.{Holds}
use Rattle.isp_typed.specs.declared.variable.Holds.TheVariants as holds
use Rattle.isp_typed.specs.Typed.{TExpr, t_place, t_variable, TBase, TCall, ty_of}
use Rattle.isp_exprs.specs.declared.scope.Known.{Known}
use Rattle.isp_exprs.specs.Places.{mismatch, as_array}

-- What a call is: it gives a value, or it is of a function without a result.
pub data Called : Type 0 where
  gives : TExpr → Called
  runs : TCall → Called

-- What an argument is by itself: a value, a call without a result, an array's name; `&x` or `&a`; `&a[e]`. The span is
-- that of the name.
pub data Handed : Type 0 where
  h_value : TExpr → Handed
  h_run : TCall → Handed
  h_array : ArrayVariable → Span → Handed
  h_name : Known → Span → Handed
  h_element : Known → Span → TExpr → Handed

-- What it is where it fits what is asked: a value, an array by its name, the base of a packed call, the variable that a
-- packed call loads, with its type and where the argument stands, or anything where nothing is asked.
pub data Passed : Type 0 where
  p_value : TExpr → Passed
  p_array : ArrayVariable → Span → Passed
  p_base : TBase → Passed
  p_destination : Known → Ty → Span → Passed
  p_unasked : Passed

-- 22 at a call without a result where a value is wanted
abbrev pub value_called : Span → Called → Result TExpr Fault
value_called s (gives x) = Ok x
value_called s (runs c) = mismatch s

-- a call, a name, `&x` and `&a[e]` as arguments
abbrev pub handed_call : Called → Handed
handed_call (gives x) = h_value x
handed_call (runs c) = h_run c

abbrev pub handed_name : Span → Known → Handed
handed_name s k = held k.variable.holds
  where
    held : Holds → Handed
    held (holds.Value t) = h_value (t_place (t_variable k.number t s))
    held (holds.Given e) = h_array (as_array k (ty_of Uniform e)) s
    held (holds.Local t n) = h_array (as_array k t) s

abbrev pub handed_reference : Span → Known → Handed
handed_reference s k = h_name k s

abbrev pub handed_element : Span → Known × TExpr → Handed
handed_element s p = h_element p.0 s p.1

-- What a name is where it stands: a value, an array, a place that is stored to.
use Rattle.std.specs.Prelude.{Bool, true, false, Option, Some, None, Result, Ok, Err}
use Rattle.isp_base.specs.declared.types.Rate.TheVariants.{Uniform}
use Rattle.isp_base.specs.declared.types.Span.{Span}
use Rattle.isp_base.specs.declared.types.Ty.{Ty}
use Rattle.isp_lex.specs.declared.fault.Fault.{Fault}
use Rattle.isp_lex.specs.declared.fault.Rule.TheVariants.{Mismatch, ConstAssigned}
use Rattle.isp_lex.specs.Faults.{fault}
use Rattle.isp_typed.specs.declared.variable.ArrayVariable.{ArrayVariable}
use Rattle.isp_typed.specs.declared.variable.Holds.{Holds}
use Rattle.isp_typed.specs.declared.variable.Holds.TheVariants as holds
use Rattle.isp_typed.specs.Typed.{TExpr, TPlace, t_variable, t_element, ty_of, rate_or, rate_of}
use Rattle.isp_exprs.specs.declared.scope.Known.{Known}

abbrev pub mismatch : {A : Type 0} → Span → Result A Fault
mismatch s = Err (fault Mismatch s)

-- the array that a variable is
abbrev pub as_array : Known → Ty → ArrayVariable
as_array k t = record { number = k.number; ty = t; constant = k.variable.constant }

abbrev pub array_of : Known → Option ArrayVariable
array_of k = array_held k.variable.holds
  where
    array_held : Holds → Option ArrayVariable
    array_held (holds.Value t) = None
    array_held (holds.Given e) = Some (as_array k (ty_of Uniform e))
    array_held (holds.Local t n) = Some (as_array k t)

-- the variable as a place: it holds a value
abbrev pub variable_at : Span → Known → Result TPlace Fault
variable_at s k = variable_held k.variable.holds
  where
    variable_held : Holds → Result TPlace Fault
    variable_held (holds.Value t) = Ok (t_variable k.number t s)
    variable_held (holds.Given e) = mismatch s
    variable_held (holds.Local t n) = mismatch s

-- the element at an index: the variable is an array; the place is uniform where array and index are
abbrev pub element_at : Span → Known × TExpr → Result TPlace Fault
element_at s p = element_held (array_of p.0)
  where
    element_held : Option ArrayVariable → Result TPlace Fault
    element_held None = mismatch s
    element_held (Some a) = Ok (t_element a p.1 (ty_of (rate_or a.ty.rate (rate_of p.1)) a.ty.elem) s)

-- a place of a constant variable is not assigned
abbrev pub unless_constant : {A : Type 0} → Bool → Span → Result A Fault → Result A Fault
unless_constant constant s (Err f) = Err f
unless_constant true s (Ok a) = Err (fault ConstAssigned s)
unless_constant false s (Ok a) = Ok a

abbrev pub variable_target : Span → Known → Result TPlace Fault
variable_target s k = unless_constant k.variable.constant s (variable_at s k)

abbrev pub element_target : Span → Known × TExpr → Result TPlace Fault
element_target s p = unless_constant p.0.variable.constant s (element_at s p)

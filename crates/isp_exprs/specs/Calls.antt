-- Calls: what suits where something is asked, and what a call is of what is passed. Packed calls and calls of the library on
-- values have their own files.
use Rattle.std.specs.Prelude.{ℕ, List, [], ◌∷◌, Bool, if◌then◌else◌, ◌&&◌, not, Option, Some, None, Result, Ok, Err}
use Rattle.isp_base.specs.declared.types.Elem.{Elem}
use Rattle.isp_base.specs.declared.types.Span.{Span}
use Rattle.isp_base.specs.declared.types.Ty.{Ty}
use Rattle.isp_base.specs.Ranks.{same_elem}
use Rattle.isp_lex.specs.declared.fault.Fault.{Fault}
use Rattle.isp_lex.specs.declared.fault.Rule.TheVariants.{Arguments, ConstAssigned}
use Rattle.isp_lex.specs.Faults.{fault}
use Rattle.isp_typed.specs.declared.variable.ArrayVariable.{ArrayVariable}
use Rattle.isp_typed.specs.Typed.{t_call, t_by_value, t_by_name, TArguments, t_no_arguments, t_argument_then, t_called}
use Rattle.isp_exprs.specs.declared.callee.Callee.{Callee}
use Rattle.isp_exprs.specs.declared.callee.Callee.TheVariants.{Unknown, Miscounted, Function, Library as OfLibrary, PackedStore, PackedLoad}
use Rattle.isp_exprs.specs.declared.callee.Want.{Want}
use Rattle.isp_exprs.specs.declared.callee.Want.TheVariants.{AnyValue, ValueOf, ArrayOf, Base, Destination, NoReference, Anything}
use Rattle.isp_exprs.specs.Values.{converted}
use Rattle.isp_exprs.specs.Places.{mismatch}
use Rattle.isp_exprs.specs.Passing.{Called, gives, runs, Handed, h_value, h_array, h_name, h_element, Passed, p_value, p_array, p_unasked}
use Rattle.isp_exprs.specs.PackedCalls.{as_base, as_destination, packed_store, packed_load}
use Rattle.isp_exprs.specs.LibraryCalls.{values_among, library_call}

-- ---- arguments

-- An array goes to a parameter of its element type, and a constant one to a constant parameter alone: 22 and 24 at the
-- argument.
abbrev pub array_fits : Elem → Bool → Span → ArrayVariable → Result Passed Fault
array_fits e constant s a =
    if not (same_elem a.ty.elem e) then mismatch s
    else (if a.constant && not constant then Err (fault ConstAssigned s) else Ok (p_array a s))

-- 22 at an argument that is something else than what is asked
abbrev pub suits : Want → Span → Handed → Result Passed Fault
suits AnyValue s (h_value x) = Ok (p_value x)
suits AnyValue s h = mismatch s
suits (ValueOf e) s (h_value x) = Ok (p_value (converted e x))
suits (ValueOf e) s h = mismatch s
suits (ArrayOf e c) s (h_array a n) = array_fits e c s a
suits (ArrayOf e c) s h = mismatch s
suits (Base stored) s h = as_base stored s h
suits Destination s h = as_destination s h
suits NoReference s (h_name k n) = mismatch s
suits NoReference s (h_element k n x) = mismatch s
suits NoReference s h = Ok p_unasked
suits Anything s h = Ok p_unasked

-- what is asked of the first of further arguments, where `past` is asked past the last
abbrev pub first_want : Want → List Want → Want
first_want past [] = past
first_want past (w ∷ ws) = w

abbrev pub rest_of : List Want → List Want
rest_of [] = []
rest_of (w ∷ ws) = ws

-- ---- a function of the program

abbrev pub arguments_among : List Passed → TArguments
arguments_among [] = t_no_arguments
arguments_among (p_value x ∷ ps) = t_argument_then (t_by_value x) (arguments_among ps)
arguments_among (p_array a s ∷ ps) = t_argument_then (t_by_name a s) (arguments_among ps)
arguments_among (p ∷ ps) = arguments_among ps

abbrev pub function_call : ℕ → Span → List Passed → Option Ty → Called
function_call k s ps None = runs (t_called k (arguments_among ps) s)
function_call k s ps (Some t) = gives (t_call (t_called k (arguments_among ps) s) t)

-- where the words of its result contradict each other, their fault
abbrev pub answered : ℕ → Span → List Passed → Result (Option Ty) Fault → Result Called Fault
answered k s ps (Err f) = Err f
answered k s ps (Ok t) = Ok (function_call k s ps t)

-- ---- a call of what is passed: 23 at one with another number of arguments

abbrev pub call_of : Span → Callee × List Passed → Result Called Fault
call_of s p = by_callee p.0 p.1
  where
    by_callee : Callee → List Passed → Result Called Fault
    by_callee (Miscounted packed) ps = Err (fault Arguments s)
    by_callee (Function k r) ps = answered k s ps r
    by_callee (OfLibrary f) ps = Ok (gives (library_call f s (values_among ps)))
    by_callee PackedStore ps = packed_store s ps
    by_callee PackedLoad ps = packed_load s ps
    -- an unknown name has its own fault, and is never called
    by_callee Unknown ps = mismatch s

-- Arguments and calls, without where they lie in memory.
use Rattle.std.specs.Prelude.{List, [], ◌∷◌, map, Option, Some, None}
use Rattle.std.specs.Global.{Box}
use Rattle.isp_base.specs.declared.types.Span.{Span}
use Rattle.isp_base.specs.declared.types.Ty.{Ty}
use Rattle.isp_typed.specs.declared.expr.TypedExpr.{TypedExpr}
use Rattle.isp_typed.specs.Typed.{TExpr, TBase, TArgument, t_by_value, t_by_name}
use Rattle.isp_typed.specs.Views.{expr_of, base_of, call_of}
use Rattle.isp_exprs.specs.declared.scope.Known.{Known}
use Rattle.isp_exprs.specs.declared.calls.Handed as rust_handed
use Rattle.isp_exprs.specs.declared.calls.Handed.TheVariants as handed
use Rattle.isp_exprs.specs.declared.calls.Passed as rust_passed
use Rattle.isp_exprs.specs.declared.calls.Passed.TheVariants as passed
use Rattle.isp_exprs.specs.declared.calls.Called as rust_called
use Rattle.isp_exprs.specs.declared.calls.Called.TheVariants as called
use Rattle.isp_exprs.specs.Passing.{Handed, h_value, h_run, h_array, h_name, h_element, Passed, p_value, p_array, p_base, p_destination, p_unasked, Called, gives, runs}

abbrev pub boxed_of : Box TypedExpr → TExpr
boxed_of b = expr_of b.value

abbrev pub boxes_of : List (Box TypedExpr) → List TExpr
boxes_of = map boxed_of

abbrev pub handed_of : rust_handed.Handed → Handed
handed_of (handed.Value x) = h_value (boxed_of x)
handed_of (handed.Run c) = h_run (call_of c)
handed_of (handed.Array a s) = h_array a s
handed_of (handed.Name k s) = h_name k s
handed_of (handed.Element k s x) = h_element k s (boxed_of x)

abbrev pub passed_of : rust_passed.Passed → Passed
passed_of (passed.Value x) = p_value (boxed_of x)
passed_of (passed.Array a s) = p_array a s
passed_of (passed.Base b) = p_base (base_of b)
passed_of (passed.Destination k t s) = p_destination k t s
passed_of passed.Unasked = p_unasked

abbrev pub list_passed : List rust_passed.Passed → List Passed
list_passed = map passed_of

abbrev pub called_of : rust_called.Called → Called
called_of (called.Value x) = gives (boxed_of x)
called_of (called.Run c) = runs (call_of c)

-- what a packed call takes of one of its arguments
abbrev pub base_passed : Option Passed → Option TBase
base_passed None = None
base_passed (Some (p_value x)) = None
base_passed (Some (p_array a s)) = None
base_passed (Some (p_base b)) = Some b
base_passed (Some (p_destination k t s)) = None
base_passed (Some p_unasked) = None

abbrev pub value_passed : Option Passed → Option TExpr
value_passed None = None
value_passed (Some (p_value x)) = Some x
value_passed (Some (p_array a s)) = None
value_passed (Some (p_base b)) = None
value_passed (Some (p_destination k t s)) = None
value_passed (Some p_unasked) = None

abbrev pub destination_passed : Option Passed → Option (Known × Ty × Span)
destination_passed None = None
destination_passed (Some (p_value x)) = None
destination_passed (Some (p_array a s)) = None
destination_passed (Some (p_base b)) = None
destination_passed (Some (p_destination k t s)) = Some (k, t, s)
destination_passed (Some p_unasked) = None

-- what one of them adds to the values, and to the arguments of a function
abbrev pub value_in : Passed → List TExpr
value_in (p_value x) = x ∷ []
value_in (p_array a s) = []
value_in (p_base b) = []
value_in (p_destination k t s) = []
value_in p_unasked = []

abbrev pub argument_in : Passed → List TArgument
argument_in (p_value x) = t_by_value x ∷ []
argument_in (p_array a s) = t_by_name a s ∷ []
argument_in (p_base b) = []
argument_in (p_destination k t s) = []
argument_in p_unasked = []

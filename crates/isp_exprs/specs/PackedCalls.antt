-- The two packed calls of the library, each from what it asks to what it is, beside each rule its breach.
--     packed_store_active(base, x)    base   an array of int32 or uint32 that is not constant       x   a value
--     packed_load_active(base, &x)    base   such an array, which may be constant                   x   a varying variable of its type, not constant
-- A base is an array by its name, `&a` or `&a[e]`. That it is uniform, with its index, is a matter of rates.
use Rattle.std.specs.Prelude.{List, [], ◌∷◌, Bool, true, false, if◌then◌else◌, ◌&&◌, ◌||◌, not, Option, Some, None, Result, Ok, Err}
use Rattle.isp_base.specs.declared.types.Elem.TheVariants.{I32, U32}
use Rattle.isp_base.specs.declared.types.Rate.{Rate}
use Rattle.isp_base.specs.declared.types.Rate.TheVariants.{Uniform, Varying}
use Rattle.isp_base.specs.declared.types.Span.{Span}
use Rattle.isp_base.specs.declared.types.Ty.{Ty}
use Rattle.isp_base.specs.Ranks.{same_elem}
use Rattle.isp_lex.specs.declared.fault.Fault.{Fault}
use Rattle.isp_lex.specs.declared.fault.Rule.TheVariants.{ConstAssigned}
use Rattle.isp_lex.specs.Faults.{fault}
use Rattle.isp_typed.specs.declared.variable.ArrayVariable.{ArrayVariable}
use Rattle.isp_typed.specs.declared.variable.Holds.{Holds}
use Rattle.isp_typed.specs.declared.variable.Holds.TheVariants as holds
use Rattle.isp_typed.specs.Typed.{t_packed_store, t_packed_load, TBase, t_whole, t_from, base_array}
use Rattle.isp_exprs.specs.declared.scope.Known.{Known}
use Rattle.isp_exprs.specs.declared.callee.Want.{Want}
use Rattle.isp_exprs.specs.declared.callee.Want.TheVariants.{AnyValue, Base, Destination}
use Rattle.isp_exprs.specs.Values.{converted}
use Rattle.isp_exprs.specs.Places.{mismatch, array_of}
use Rattle.isp_exprs.specs.Passing.{Called, gives, Handed, h_array, h_name, h_element, Passed, p_value, p_base, p_destination}

-- ---- what each asks

abbrev pub store_wants : List Want
store_wants = Base true ∷ AnyValue ∷ []

abbrev pub load_wants : List Want
load_wants = Base false ∷ Destination ∷ []

-- ---- the base

-- 22 at the argument where the elements are of another type; 24 where it is stored in, and constant
abbrev pub base_fits : Bool → Span → ArrayVariable → TBase → Result Passed Fault
base_fits stored s a b =
    if not (same_elem a.ty.elem I32 || same_elem a.ty.elem U32) then mismatch s
    else (if a.constant && stored then Err (fault ConstAssigned s) else Ok (p_base b))

-- 22 at the argument where a name is no array's
abbrev pub base_named : Bool → Span → Option ArrayVariable → (ArrayVariable → TBase) → Result Passed Fault
base_named stored s None b = mismatch s
base_named stored s (Some a) b = base_fits stored s a (b a)

-- 22 at an argument that is no array by its name, `&a` or `&a[e]`
abbrev pub as_base : Bool → Span → Handed → Result Passed Fault
as_base stored s (h_array a n) = base_fits stored s a (t_whole a n)
as_base stored s (h_name k n) = base_named stored s (array_of k) (λ a. t_whole a n)
as_base stored s (h_element k n x) = base_named stored s (array_of k) (λ a. t_from a x n)
as_base stored s h = mismatch s

-- ---- what is stored

-- it is converted to the array's element type; no call is passed anything else
abbrev pub packed_store : Span → List Passed → Result Called Fault
packed_store s (p_base b ∷ p_value x ∷ ps) = Ok (gives (t_packed_store b (converted (base_array b).ty.elem x) s))
packed_store s ps = mismatch s

-- ---- what is loaded

-- 22 at the argument where it is uniform, and at an array
abbrev pub destination : Span → Known → Result Passed Fault
destination s k = held k.variable.holds
  where
    of_rate : Ty → Rate → Result Passed Fault
    of_rate t Uniform = mismatch s
    of_rate t Varying = Ok (p_destination k t s)

    held : Holds → Result Passed Fault
    held (holds.Value t) = of_rate t t.rate
    held (holds.Given e) = mismatch s
    held (holds.Local t n) = mismatch s

-- 22 at an argument that is not `&x`
abbrev pub as_destination : Span → Handed → Result Passed Fault
as_destination s (h_name k n) = destination s k
as_destination s h = mismatch s

-- 22 at the argument where it has another type than the array's elements, 24 where it is constant
abbrev pub loaded : Span → TBase → Known → Ty → Span → Result Called Fault
loaded s b k t p =
    if not (same_elem t.elem (base_array b).ty.elem) then mismatch p
    else (if k.variable.constant then Err (fault ConstAssigned p) else Ok (gives (t_packed_load b k.number s)))

-- no call is passed anything else
abbrev pub packed_load : Span → List Passed → Result Called Fault
packed_load s (p_base b ∷ p_destination k t p ∷ ps) = loaded s b k t p
packed_load s ps = mismatch s

-- What a routine has besides its registers, its masks and its code: its heading, which a function gives.
use Rattle.std.specs.Prelude.{◌≤◌, ◌<◌, ℕ, List, [], ◌∷◌, drop, length, map, Bool, Option, Some, None}
use Rattle.isp_base.specs.declared.signature.Parameter.{Parameter}
use Rattle.isp_base.specs.declared.types.Elem.{Elem}
use Rattle.isp_base.specs.declared.types.Rate.{Rate}
use Rattle.isp_base.specs.declared.types.Rate.TheVariants.{Uniform, Varying}
use Rattle.isp_base.specs.declared.types.Ty.{Ty}
use Rattle.isp_code.specs.Listing.{Routine}
use Rattle.isp_code.specs.Registers.{param_elems}
use Rattle.isp_code.specs.declared.function.Local.{Local}
use Rattle.isp_code.specs.declared.function.Param.{Param}
use Rattle.isp_code.specs.declared.function.ParamKind.{ParamKind}
use Rattle.isp_code.specs.declared.function.ParamKind.TheVariants as kind
use Rattle.isp_code.specs.declared.function.Returns.{Returns}
use Rattle.isp_code.specs.declared.function.Returns.TheVariants as returns
use Rattle.isp_code.specs.declared.function.Sharing.{Sharing}
use Rattle.isp_code.specs.declared.function.Sharing.TheVariants.{Shared, PerInstance}
use Rattle.isp_code.specs.declared.instr.Instr.{Instr}
use Rattle.isp_code.specs.declared.register.Class.TheVariants as class
use Rattle.isp_typed.specs.Typed.{TFunction}
use Rattle.isp_typed.specs.declared.variable.Holds.{Holds}
use Rattle.isp_typed.specs.declared.variable.Holds.TheVariants as holds
use Rattle.isp_typed.specs.declared.variable.Variable.{Variable}
use Rattle.isp_lower_code.specs.Rows.{Row, Rows}

-- ---- parameters

-- a parameter is what its variable holds
abbrev pub value_kind : Rate → ParamKind
value_kind Uniform = kind.Scalar
value_kind Varying = kind.Vector

abbrev pub kind_of : Holds → ParamKind
kind_of (holds.Value t) = value_kind t.rate
kind_of (holds.Given t) = kind.Array
kind_of (holds.Local t n) = kind.Array

abbrev pub elem_held : Holds → Elem
elem_held (holds.Value t) = t.elem
elem_held (holds.Given t) = t
elem_held (holds.Local t n) = t.elem

abbrev pub param_of : Parameter → Holds → Param
param_of p h = record { name = p.name; kind = kind_of h; elem = elem_held h }

-- the variables begin with the parameters
abbrev pub params_of : List Parameter → List Variable → List Param
params_of [] vs = []
params_of (p ∷ ps) [] = []
params_of (p ∷ ps) (v ∷ vs) = param_of p v.holds ∷ params_of ps vs

-- ---- what is given back

abbrev pub value_returned : Rate → Elem → Returns
value_returned Uniform t = returns.Scalar t
value_returned Varying t = returns.Vector t

abbrev pub returns_of : Option Ty → Returns
returns_of None = returns.Nothing
returns_of (Some t) = value_returned t.rate t.elem

-- ---- the local arrays among variables

abbrev pub sharing_of : Rate → Sharing
sharing_of Uniform = Shared
sharing_of Varying = PerInstance

abbrev pub local_of : Ty → ℕ → Local
local_of t n = record { sharing = sharing_of t.rate; elem = t.elem; size = n }

abbrev pub local_then : Holds → List Local → List Local
local_then (holds.Value t) ls = ls
local_then (holds.Given t) ls = ls
local_then (holds.Local t n) ls = local_of t n ∷ ls

abbrev pub locals_of : List Variable → List Local
locals_of [] = []
locals_of (v ∷ vs) = local_then v.holds (locals_of vs)

-- their sizes are numbers of 32 bits
abbrev pub IsSmall : Holds → Type 0
IsSmall (holds.Value t) = Unit {0}
IsSmall (holds.Given t) = Unit {0}
IsSmall (holds.Local t n) = n < 4294967296

abbrev pub AreSmall : List Variable → Type 0
AreSmall [] = Unit {0}
AreSmall (v ∷ vs) = IsSmall v.holds × AreSmall vs

-- a function has a heading: its parameters are among its variables
pub record HeadingFits (h : TFunction) : Type 0 where
  pub params : length h.parameters ≤ length h.variables
  pub small : AreSmall h.variables

-- ---- a routine

-- the types of the registers of a class
abbrev pub types_of : List Row → List Elem
types_of rows = map (λ r. r.elem) rows

pub record Heading : Type 0 where
  pub name : List ℕ
  pub exported : Bool
  pub returns : Returns
  pub params : List Param
  pub locals : List Local

-- that of a function
abbrev pub heading_of : TFunction → Heading
heading_of h =
    record { name = h.name; exported = h.exported; returns = returns_of h.answer; params = params_of h.parameters h.variables; locals = locals_of h.variables }

-- the types of the registers after the parameters
abbrev pub scalars_behind : List Param → Rows → List Elem
scalars_behind ps rows = drop (length (param_elems class.Scalar ps)) (types_of rows.scalars)

abbrev pub vectors_behind : List Param → Rows → List Elem
vectors_behind ps rows = drop (length (param_elems class.Vector ps)) (types_of rows.vectors)

-- the routine of a heading, of registers, of which the parameters are the first of their classes, of masks and of code
abbrev pub routine_with : Heading → Rows → ℕ → List Instr → Routine
routine_with h rows masks code =
    record { name = h.name; exported = h.exported; returns = h.returns; params = h.params; locals = h.locals; scalars = scalars_behind h.params rows; vectors = vectors_behind h.params rows; masks = masks; code = code }

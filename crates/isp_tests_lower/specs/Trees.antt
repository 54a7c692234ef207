-- What is written: two functions, and in the second, of `uniform int a[8]; uniform int x, y, z, w;`, first `x + 1`, then
-- `a[programIndex] = a[programIndex] * 2 + 1`.
use Rattle.std.specs.Prelude.{◌≡◌, ℕ, List, [], ◌∷◌, None, true, false}
use Rattle.isp_base.specs.declared.operators.BinOp.TheVariants.{Add, Mul}
use Rattle.isp_base.specs.declared.types.Elem.TheVariants.{I32}
use Rattle.isp_base.specs.declared.types.Rate.{Rate}
use Rattle.isp_base.specs.declared.types.Rate.TheVariants.{Uniform, Varying}
use Rattle.isp_base.specs.declared.types.Span.{Span}
use Rattle.isp_base.specs.declared.types.Ty.{Ty}
use Rattle.isp_code.specs.Writable.{name_fits}
use Rattle.isp_typed.specs.declared.variable.Holds.TheVariants.{Value, Local}
use Rattle.isp_typed.specs.declared.variable.Variable.{Variable}
use Rattle.isp_typed.specs.Typed.{TExpr, t_constant, t_program_index, t_place, t_binary, TFunction, TPlace, t_variable, t_element, TSimple, t_assign, ty_of}
use Rattle.isp_lower.specs.declared.sites.Site.{Site}

abbrev pub int : Rate → Ty
int r = ty_of r I32

abbrev pub array : Variable
array = record { holds = Local (int Uniform) 8; constant = false }

abbrev pub value : Variable
value = record { holds = Value (int Uniform); constant = false }

abbrev pub variables : List Variable
variables = array ∷ value ∷ value ∷ value ∷ value ∷ []

-- where it is read, and where it is written
abbrev pub read : Span
read = record { start = 51; end = 66 }

abbrev pub written : Span
written = record { start = 33; end = 48 }

abbrev pub number : ℕ → TExpr
number n = t_constant (record { elem = I32; bits = n }) read

-- `a[programIndex]`
abbrev pub element : Span → TPlace
element s =
    t_element (record { number = 0; ty = int Uniform; constant = false }) (t_program_index s) (int Varying) s

abbrev pub doubled : TExpr
doubled = t_binary Mul (t_place (element read)) (number 2) (int Varying) read

abbrev pub one_more : TExpr → Rate → TExpr
one_more x r = t_binary Add x (number 1) (int r) read

abbrev pub sum : TExpr
sum = one_more (t_place (t_variable 1 (int Uniform) read)) Uniform

abbrev pub assignment : TSimple
assignment = t_assign (element written) (one_more doubled Varying) written

-- text can have the function's name; it has these variables and no parameters, and gives nothing back
pub record IsFunction (vs : List Variable) (h : TFunction) : Type 0 where
  pub named : name_fits h.name ≡ true
  pub params : h.parameters ≡ []
  pub variables : h.variables ≡ vs
  pub answer : h.answer ≡ None

pub record AreTrees (f g : TFunction) (x : TExpr) (s : TSimple) : Type 0 where
  pub first : IsFunction (value ∷ []) f
  pub second : IsFunction variables g
  pub sum : x ≡ sum
  pub assignment : s ≡ assignment

-- both work for the lanes of mask 0, in slots after the function's three masks
abbrev pub site : Site
site = record { mask = record { number = 0 }; slot = record { number = 3 } }

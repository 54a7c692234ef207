-- Two small programs, as typed trees, of which a law says what their work is. Their places in the text are left out.
use Rattle.std.specs.Prelude.{ℕ, List, [], ◌∷◌, None, true, false, codes}
use Rattle.isp_base.specs.declared.types.Elem.TheVariants.{I32}
use Rattle.isp_base.specs.declared.types.Gang.{Gang}
use Rattle.isp_base.specs.declared.types.Rate.TheVariants.{Uniform, Varying}
use Rattle.isp_base.specs.declared.types.Span.{Span}
use Rattle.isp_base.specs.declared.signature.Argument.{Argument}
use Rattle.isp_base.specs.declared.signature.Argument.TheVariants.{Array as AnArray}
use Rattle.isp_base.specs.declared.operators.BinOp.TheVariants.{Add, Mul}
use Rattle.isp_typed.specs.declared.variable.Holds.TheVariants.{Given}
use Rattle.isp_typed.specs.Typed.{TExpr, t_constant, t_program_index, t_place, t_binary, TPlace, t_element, ty_of, t_assign, TStmt, t_simple, t_braces, t_stmts, Program}

abbrev pub somewhere : Span
somewhere = record { start = 0; end = 0 }

-- export void f(uniform int a[]) { .. }
abbrev pub with_body : Gang → List TStmt → Program
with_body gang xs =
    record {
      gang = gang;
      functions = record {
        name = codes "f";
        span = somewhere;
        exported = true;
        parameters = record { name = codes "a"; elem = I32; is_array = true } ∷ [];
        gives = None;
        params = somewhere ∷ [];
        answer = None;
        variables = record { holds = Given I32; constant = false } ∷ [];
        body = t_braces (t_stmts xs) somewhere;
      } ∷ [];
    }

-- a[programIndex]
abbrev pub own_element : TPlace
own_element = t_element (record { number = 0; ty = ty_of Uniform I32; constant = false }) (t_program_index somewhere) (ty_of Varying I32) somewhere

abbrev pub number : ℕ → TExpr
number n = t_constant (record { elem = I32; bits = n }) somewhere

-- a[programIndex] = a[programIndex] * 2 + 1;
abbrev pub doubles : Gang → Program
doubles gang =
    with_body gang (t_simple (t_assign own_element (t_binary Add (t_binary Mul (t_place own_element) (number 2) (ty_of Varying I32) somewhere) (number 1) (ty_of Varying I32) somewhere) somewhere) somewhere ∷ [])

abbrev pub does_nothing : Gang → Program
does_nothing gang = with_body gang []

-- an array of int32
abbrev pub row : List ℕ → Argument
row bits = AnArray (record { elem = I32; bits = bits })

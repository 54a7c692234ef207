-- Two small programs, as typed trees: one in which each variable stands in its scope, and one that no text has.
use Rattle.std.specs.Prelude.{ℕ, List, [], ◌∷◌, Some, None, true, false, codes}
use Rattle.isp_base.specs.declared.types.Elem.TheVariants.{I32}
use Rattle.isp_base.specs.declared.types.Gang.TheVariants.{W4}
use Rattle.isp_base.specs.declared.types.Rate.{Rate}
use Rattle.isp_base.specs.declared.types.Rate.TheVariants.{Uniform, Varying}
use Rattle.isp_base.specs.declared.types.Span.{Span}
use Rattle.isp_base.specs.declared.types.Ty.{Ty}
use Rattle.isp_base.specs.declared.operators.BinOp.TheVariants.{Add}
use Rattle.isp_base.specs.declared.operators.Compare.TheVariants.{Less, Equal}
use Rattle.isp_tree.specs.declared.stmt.Form.TheVariants.{Plain}
use Rattle.isp_typed.specs.declared.variable.Holds.{Holds}
use Rattle.isp_typed.specs.declared.variable.Holds.TheVariants as holds
use Rattle.isp_typed.specs.declared.variable.Variable.{Variable}
use Rattle.isp_typed.specs.Typed.{TExpr, t_constant, t_program_index, t_place, t_compare, t_variable, t_element, ty_of, t_plain, t_with_value, t_assign, t_step}
use Rattle.isp_typed.specs.Typed.{t_first_declare, TStmt, t_block, t_declare, t_simple, t_if, t_if_else, t_for, t_foreach, t_braces, t_stmts, Program}
use Rattle.isp_typed.specs.Scoped.{IsScoped}

abbrev at : Span
at = record { start = 0; end = 0 }

abbrev int : Rate → Ty
int r = ty_of r I32

abbrev number : ℕ → TExpr
number n = t_constant (record { elem = I32; bits = n }) at

abbrev read : Rate → ℕ → TExpr
read r k = t_place (t_variable k (int r) at)

abbrev is : ℕ → TExpr
is n = t_compare Equal (t_program_index at) (number n) Varying at

-- a[programIndex] = x;
abbrev give : TExpr → TStmt
give x = t_simple (t_assign (t_element (record { number = 0; ty = int Uniform; constant = false }) (t_program_index at) (int Varying) at) x at) at

abbrev block : List TStmt → TStmt
block ss = t_block (t_braces (t_stmts ss) at)

abbrev variable : Holds → Variable
variable h = record { holds = h; constant = false }

abbrev value : Rate → Variable
value r = variable (holds.Value (int r))

-- export void f(uniform int a[]) { .. }, where the body declares these
abbrev program : List Variable → List TStmt → Program
program vs ss = record {
  gang = W4;
  functions = record {
    name = codes "f";
    span = at;
    exported = true;
    parameters = record { name = codes "a"; elem = I32; is_array = true } ∷ [];
    gives = None;
    params = at ∷ [];
    answer = None;
    variables = variable (holds.Given I32) ∷ vs;
    body = t_braces (t_stmts ss) at;
  } ∷ [];
}

-- if (programIndex == 1) { int x; } else { int y = 3; a[programIndex] = y; }
-- for (uniform int k = 0; k < 2; k++) { int x = k; a[programIndex] = x; }
-- foreach (i = 0 ... 4) a[programIndex] = i;
abbrev pub scoped : Program
scoped =
    program (value Varying ∷ value Varying ∷ value Uniform ∷ value Varying ∷ value Varying ∷ [])
    (t_if_else Plain 1 (is 1) (block (t_declare (t_plain 1 (int Varying) at ∷ []) at ∷ [])) (block (t_declare (t_with_value 2 (int Varying) (number 3) at ∷ []) at ∷ give (read Varying 2) ∷ [])) at
    ∷ t_for Plain 3 (Some (t_first_declare (t_with_value 3 (int Uniform) (number 0) at ∷ []) at))
    (Some (t_compare Less (read Uniform 3) (number 2) Uniform at)) (Some (t_step Add I32 (t_variable 3 (int Uniform) at) at)) 4
    (block (t_declare (t_with_value 4 (int Varying) (read Uniform 3) at ∷ []) at ∷ give (read Varying 4) ∷ [])) at
    ∷ t_foreach at 5 (record { index = 5; start = number 0; end = number 4; span = at } ∷ []) (give (read Varying 5)) at
    ∷ [])

-- if (programIndex == 0) { uniform int u = 1; } a[programIndex] = u;
abbrev pub out_of_scope : Program
out_of_scope =
    program (value Uniform ∷ [])
    (t_if Plain 1 (is 0) (block (t_declare (t_with_value 1 (int Uniform) (number 1) at ∷ []) at ∷ [])) at ∷ give (read Uniform 1) ∷ [])

pub record ScopesOfSamples : Type 0 where
  pub holds : IsScoped scoped
  pub fails : IsScoped out_of_scope → ⊥

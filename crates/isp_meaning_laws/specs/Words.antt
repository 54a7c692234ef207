-- Short words for small programs as typed trees. Variables hold int32, the gang has four instances, and places in the text are
-- left out: each node stands at the first byte.
use Rattle.std.specs.Prelude.{ℕ, suc, List, [], ◌∷◌, map, Option, Some, Bool, false, option_map}
use Rattle.isp_base.specs.Rows.{Row}
use Rattle.isp_base.specs.declared.types.Elem.TheVariants.{I32}
use Rattle.isp_base.specs.declared.types.Gang.TheVariants.{W4}
use Rattle.isp_base.specs.declared.types.Rate.{Rate}
use Rattle.isp_base.specs.declared.types.Rate.TheVariants.{Uniform}
use Rattle.isp_base.specs.declared.types.Span.{Span}
use Rattle.isp_base.specs.declared.types.Ty.{Ty}
use Rattle.isp_base.specs.declared.signature.Argument.{Argument}
use Rattle.isp_base.specs.declared.signature.Argument.TheVariants.{Array as AnArray}
use Rattle.isp_base.specs.declared.signature.Parameter.{Parameter}
use Rattle.isp_base.specs.declared.operators.BinOp.{BinOp}
use Rattle.isp_base.specs.declared.operators.Compare.{Compare}
use Rattle.isp_base.specs.declared.operators.BinOp.TheVariants.{Add}
use Rattle.isp_base.specs.declared.operators.Compare.TheVariants.{Less}
use Rattle.isp_tree.specs.declared.stmt.Form.TheVariants.{Plain}
use Rattle.isp_typed.specs.declared.variable.ArrayVariable.{ArrayVariable}
use Rattle.isp_typed.specs.declared.variable.Holds.{Holds}
use Rattle.isp_typed.specs.declared.variable.Holds.TheVariants.{Value as AVariable, Given}
use Rattle.isp_typed.specs.declared.variable.Variable.{Variable}
use Rattle.isp_typed.specs.Typed.{TExpr, t_constant, t_program_index, t_place, t_binary, t_compare, t_call, TPlace, t_variable, t_element}
use Rattle.isp_typed.specs.Typed.{t_called, t_arguments, t_by_value, ty_of, rate_of, rate_or, t_with_value, t_assign, t_step, t_first_declare}
use Rattle.isp_typed.specs.Typed.{TStmt, t_block, t_declare, t_simple, t_if, t_for, t_foreach, t_return, t_braces, t_stmts, TFunction, Program}

abbrev pub at : Span
at = record { start = 0; end = 1 }

-- ---- expressions

abbrev pub int : Rate → Ty
int r = ty_of r I32

abbrev pub number : ℕ → TExpr
number n = t_constant (record { elem = I32; bits = n }) at

abbrev pub index : TExpr
index = t_program_index at

abbrev pub variable : Rate → ℕ → TPlace
variable r v = t_variable v (int r) at

abbrev pub read : Rate → ℕ → TExpr
read r v = t_place (variable r v)

-- an array that all instances share, and its element at an index
abbrev pub array : ℕ → ArrayVariable
array v = record { number = v; ty = int Uniform; constant = false }

abbrev pub element : ℕ → TExpr → TPlace
element v i = t_element (array v) i (int (rate_of i)) at

abbrev pub item : ℕ → TExpr → TExpr
item v i = t_place (element v i)

abbrev pub join : BinOp → TExpr → TExpr → TExpr
join o x y = t_binary o x y (int (rate_or (rate_of x) (rate_of y))) at

abbrev pub test : Compare → TExpr → TExpr → TExpr
test c x y = t_compare c x y (rate_or (rate_of x) (rate_of y)) at

-- f(x), of a rate
abbrev pub call : Rate → ℕ → TExpr → TExpr
call r f x = t_call (t_called f (t_arguments (t_by_value x ∷ [])) at) (int r)

-- ---- statements

abbrev pub assign : TPlace → TExpr → TStmt
assign p x = t_simple (t_assign p x at) at

-- int v = x; of a rate
abbrev pub declare : Rate → ℕ → TExpr → TStmt
declare r v x = t_declare (t_with_value v (int r) x at ∷ []) at

abbrev pub block : List TStmt → TStmt
block ss = t_block (t_braces (t_stmts ss) at)

-- if (c) s, before which there are n variables
abbrev pub if_then : ℕ → TExpr → TStmt → TStmt
if_then n c s = t_if Plain n c s at

-- for (uniform int k = 0; k < n; k++) { .. }, before which there are k variables
abbrev pub count : ℕ → ℕ → List TStmt → TStmt
count k n ss =
    t_for Plain k (Some (t_first_declare (t_with_value k (int Uniform) (number 0) at ∷ []) at))
    (Some (test Less (read Uniform k) (number n))) (Some (t_step Add I32 (variable Uniform k) at)) (suc k) (block ss) at

-- foreach (i = 0 ... n) s, before which there are i variables
abbrev pub foreach : ℕ → TExpr → TStmt → TStmt
foreach i n s = t_foreach at i (record { index = i; start = number 0; end = n; span = at } ∷ []) s at

abbrev pub give : TExpr → TStmt
give x = t_return at (Some x) at

-- ---- functions

abbrev pub holding : Holds → Variable
holding h = record { holds = h; constant = false }

abbrev pub value : Rate → Variable
value r = holding (AVariable (int r))

abbrev pub given : Variable
given = holding (Given I32)

abbrev pub function : List ℕ → Bool → List Parameter → Option Ty → List Variable → List TStmt → TFunction
function name exported parameters answer variables ss = record {
  name = name;
  span = at;
  exported = exported;
  parameters = parameters;
  gives = option_map (λ t. t.elem) answer;
  params = map (λ p. at) parameters;
  answer = answer;
  variables = variables;
  body = t_braces (t_stmts ss) at;
}

abbrev pub parameter : List ℕ → Bool → Parameter
parameter name is_array = record { name = name; elem = I32; is_array = is_array }

abbrev pub program : List TFunction → Program
program fs = record { gang = W4; functions = fs }

-- ---- arguments

abbrev pub row : List ℕ → Row
row bits = record { elem = I32; bits = bits }

abbrev pub array_of : List ℕ → Argument
array_of bits = AnArray (row bits)

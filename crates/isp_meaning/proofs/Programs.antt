-- Small programs, written as typed trees, on which the meaning is tried.
use Rattle.std.specs.Prelude.{ℕ, List, [], ◌∷◌, Option, Some, None, true, false, codes}
use Rattle.isp_base.specs.Rows.{Row}
use Rattle.isp_base.specs.declared.types.Elem.TheVariants.{Bool as Truth, I32}
use Rattle.isp_base.specs.declared.types.Gang.TheVariants.{W4}
use Rattle.isp_base.specs.declared.types.Rate.{Rate}
use Rattle.isp_base.specs.declared.types.Rate.TheVariants.{Uniform, Varying}
use Rattle.isp_base.specs.declared.types.Span.{Span}
use Rattle.isp_base.specs.declared.types.Ty.{Ty}
use Rattle.isp_base.specs.declared.signature.Argument.{Argument}
use Rattle.isp_base.specs.declared.signature.Argument.TheVariants.{Array as AnArray}
use Rattle.isp_base.specs.declared.operators.BinOp.{BinOp}
use Rattle.isp_base.specs.declared.operators.BinOp.TheVariants as op
use Rattle.isp_base.specs.declared.operators.Compare.{Compare}
use Rattle.isp_tree.specs.declared.stmt.Form.TheVariants.{Plain}
use Rattle.isp_tree.specs.declared.stmt.Jump.TheVariants.{Break, Continue}
use Rattle.isp_typed.specs.declared.variable.ArrayVariable.{ArrayVariable}
use Rattle.isp_typed.specs.declared.variable.Holds.{Holds}
use Rattle.isp_typed.specs.declared.variable.Holds.TheVariants.{Value as AVariable, Given}
use Rattle.isp_typed.specs.declared.variable.Variable.{Variable}
use Rattle.isp_typed.specs.Typed.{TExpr, t_constant, t_program_index, t_place, t_binary, t_compare, t_call, t_variable, t_element, t_called, t_arguments, TArgument, ty_of, t_with_value, t_assign, t_step, t_first_declare}
use Rattle.isp_typed.specs.Typed.{TRange, TStmt, t_block, t_simple, t_if, t_if_else, t_while, t_for, t_foreach, t_jump, t_return, t_print, TBlock, t_braces, t_stmts, TFunction, Program}

abbrev pub at : Span
at = record { start = 0; end = 0 }

abbrev pub number : ℕ → TExpr
number n = t_constant (record { elem = I32; bits = n }) at

abbrev pub truth : TExpr
truth = t_constant (record { elem = Truth; bits = 1 }) at

abbrev pub index : TExpr
index = t_program_index at

-- variables hold int32
abbrev pub varying : ℕ → TExpr
varying v = t_place (t_variable v (ty_of Varying I32) at)

abbrev pub uniform : ℕ → TExpr
uniform v = t_place (t_variable v (ty_of Uniform I32) at)

abbrev pub array : Rate → ℕ → ArrayVariable
array r v = record { number = v; ty = ty_of r I32; constant = false }

abbrev pub item : ℕ → TExpr → TExpr
item v i = t_place (t_element (array Uniform v) i (ty_of Varying I32) at)

abbrev pub own_item : ℕ → TExpr → TExpr
own_item v i = t_place (t_element (array Varying v) i (ty_of Varying I32) at)

abbrev pub join : BinOp → TExpr → TExpr → TExpr
join o x y = t_binary o x y (ty_of Varying I32) at

abbrev pub plus : TExpr → TExpr → TExpr
plus = join op.Add

abbrev pub test : Compare → TExpr → TExpr → TExpr
test c x y = t_compare c x y Varying at

abbrev pub uniform_test : Compare → TExpr → TExpr → TExpr
uniform_test c x y = t_compare c x y Uniform at

abbrev pub call : ℕ → List TArgument → TExpr
call f xs = t_call (t_called f (t_arguments xs) at) (ty_of Varying I32)

-- ---- statements

abbrev pub set : ℕ → TExpr → TStmt
set v x = t_simple (t_assign (t_variable v (ty_of Varying I32) at) x at) at

abbrev pub set_item : ℕ → TExpr → TExpr → TStmt
set_item v i x = t_simple (t_assign (t_element (array Uniform v) i (ty_of Varying I32) at) x at) at

abbrev pub set_own : ℕ → TExpr → TExpr → TStmt
set_own v i x = t_simple (t_assign (t_element (array Varying v) i (ty_of Varying I32) at) x at) at

abbrev pub body : List TStmt → TBlock
body xs = t_braces (t_stmts xs) at

abbrev pub block : List TStmt → TStmt
block xs = t_block (body xs)

abbrev pub if_then : TExpr → List TStmt → TStmt
if_then c xs = t_if Plain 0 c (block xs) at

abbrev pub if_else : TExpr → List TStmt → List TStmt → TStmt
if_else c xs ys = t_if_else Plain 0 c (block xs) (block ys) at

abbrev pub while : TExpr → List TStmt → TStmt
while c xs = t_while Plain 0 c (block xs) at

-- for (uniform int v = 0; v < n; v++)
abbrev pub count : Compare → ℕ → ℕ → List TStmt → TStmt
count less v n xs =
    t_for Plain 0 (Some (t_first_declare (t_with_value v (ty_of Uniform I32) (number 0) at ∷ []) at)) (Some (uniform_test less (uniform v) (number n))) (Some (t_step op.Add I32 (t_variable v (ty_of Uniform I32) at) at)) 0 (block xs) at

abbrev pub range : ℕ → ℕ → ℕ → TRange
range v m n = record { index = v; start = number m; end = number n; span = at }

abbrev pub foreach : List TRange → List TStmt → TStmt
foreach rs xs = t_foreach at 0 rs (block xs) at

abbrev pub break : TStmt
break = t_jump Break at at

abbrev pub continue : TStmt
continue = t_jump Continue at at

abbrev pub return : TExpr → TStmt
return x = t_return at (Some x) at

abbrev pub print : List ℕ → List TExpr → TStmt
print text xs = t_print at text xs at

-- ---- functions: variables are an array of the caller, then values and local arrays of int32

abbrev pub holding : Holds → Variable
holding h = record { holds = h; constant = false }

abbrev pub each : Variable
each = holding (AVariable (ty_of Varying I32))

abbrev pub one : Variable
one = holding (AVariable (ty_of Uniform I32))

abbrev pub given : Variable
given = holding (Given I32)

abbrev pub function : Option Ty → List Variable → List TStmt → TFunction
function t vs xs =
    record { name = codes "f"; span = at; exported = true; parameters = []; gives = None; params = []; answer = t; variables = vs; body = body xs }

abbrev pub program : List TFunction → Program
program fs = record { gang = W4; functions = fs }

-- one array of int32
abbrev pub row : List ℕ → Row
row bits = record { elem = I32; bits = bits }

abbrev pub with_row : List ℕ → List Argument
with_row bits = AnArray (row bits) ∷ []

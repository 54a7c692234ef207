-- Functions that break no rule of independent entries, whose instances are apart: the gang leaves what they leave one by one, in any order.
use Rattle.std.specs.Prelude.{◌≡◌, ℕ, List, [], ◌∷◌, Some, None}
use Rattle.std.proofs.Common.{refl}
use Rattle.std.specs.Fmt.{digits}
use Rattle.isp_base.specs.Values.{number_to, wrap_to}
use Rattle.isp_base.specs.declared.types.Elem.TheVariants.{I32}
use Rattle.isp_base.specs.declared.types.Rate.TheVariants.{Uniform, Varying}
use Rattle.isp_base.specs.declared.operators.BinOp.TheVariants as op
use Rattle.isp_base.specs.declared.operators.Compare.TheVariants.{Equal, Less, Greater}
use Rattle.isp_base.specs.declared.signature.Argument.TheVariants.{Value as AValue}
use Rattle.isp_base.specs.Outcomes.{Ends}
use Rattle.isp_typed.specs.Typed.{TExpr, t_binary, t_called, t_arguments, t_variable, t_simple, t_step, t_call, t_by_value, t_by_name, TArgument, t_run, t_return, t_declare, t_with_value, ty_of, TStmt, TFunction}
use Rattle.isp_meaning.specs.Runs.{run_of}
use Rattle.isp_meaning.proofs.Programs.{at, number, truth, index, varying, uniform, array, item, join, plus, test, uniform_test, call, set_item, if_then, while, count, range, foreach, break, continue, return, each, one, given, function}
use Rattle.isp_tests_solo_meaning.specs.Words.{gang_of_four, row_of, array_of, together, zeros, Agree}

-- variables: a, u and t (uniform), x (varying)
abbrev entry : List TStmt → TFunction
entry ss = function None (given ∷ one ∷ one ∷ each ∷ []) ss

-- a[programIndex] = x;
abbrev give : TExpr → TStmt
give = set_item 0 index

-- u++;
abbrev step_u : TStmt
step_u = t_simple (t_step op.Add I32 (t_variable 1 (ty_of Uniform I32) at) at) at

-- f(xs);
abbrev run : ℕ → List TArgument → TStmt
run f xs = t_simple (t_run (t_called f (t_arguments xs) at)) at

abbrev uniform_call : ℕ → List TArgument → TExpr
uniform_call f xs = t_call (t_called f (t_arguments xs) at) (ty_of Uniform I32)

-- while (true) { u++; if (u == 2) continue; if (u > 3) break; a[programIndex] = a[programIndex] + u; } a[programIndex] = a[programIndex] + u * 10;
same_turns : Agree (entry (while truth (step_u ∷ if_then (uniform_test Equal (uniform 1) (number 2)) (continue ∷ []) ∷ if_then
    (uniform_test Greater (uniform 1) (number 3)) (break ∷ []) ∷ give (plus (item 0 index) (uniform 1)) ∷ []) ∷ give
    (plus (item 0 index) (join op.Mul (uniform 1) (number 10))) ∷ []) ∷ []) zeros (44 ∷ 44 ∷ 44 ∷ 44 ∷ [])
unfolding digits number_to wrap_to
same_turns = (refl, refl, refl, refl)

-- for (t = 0; t < 3; t++) { uniform int u = t + 1; if (programIndex == t) continue; a[programIndex] = a[programIndex] + u; }
in_the_body : Agree (entry (count Less 2 3 (t_declare
    (t_with_value 1 (ty_of Uniform I32) (t_binary op.Add (uniform 2) (number 1) (ty_of Uniform I32) at) at ∷ []) at ∷ if_then
    (test Equal index (uniform 2)) (continue ∷ []) ∷ give (plus (item 0 index) (uniform 1)) ∷ []) ∷ []) ∷ []) zeros (5 ∷ 4 ∷ 3 ∷ 6 ∷ [])
unfolding digits number_to wrap_to
in_the_body = (refl, refl, refl, refl)

-- int g(int x) { for (uniform int k = 0; k < 4; k++) { if (x == k) return k * 10; } return 0; } and a[programIndex] = g(programIndex);
varying_result : Agree (entry (give (call 1 (t_by_value index ∷ [])) ∷ []) ∷ function (Some (ty_of Varying I32)) (each ∷ one ∷ [])
    (count Less 1 4 (if_then (test Equal (varying 0) (uniform 1)) (return (join op.Mul (uniform 1) (number 10)) ∷ []) ∷ []) ∷ return (number 0) ∷ [])
    ∷ []) zeros (0 ∷ 10 ∷ 20 ∷ 30 ∷ [])
unfolding digits number_to wrap_to
varying_result = (refl, refl, refl, refl)

-- uniform int g(uniform int n) { return n + 1; } and if (programIndex < 2) a[programIndex] = g(4);
some_call : Agree (entry (if_then (test Less index (number 2)) (give (uniform_call 1 (t_by_value (number 4) ∷ [])) ∷ []) ∷ []) ∷ function
    (Some (ty_of Uniform I32)) (one ∷ []) (return (t_binary op.Add (uniform 0) (number 1) (ty_of Uniform I32) at) ∷ []) ∷ []) zeros
    (5 ∷ 5 ∷ 0 ∷ 0 ∷ [])
unfolding digits number_to wrap_to
some_call = (refl, refl, refl, refl)

-- for (t = 0; t < 2; t++) { if (t == 5) return; foreach (x = 0 ... 4) a[x] = a[x] + 1; }
rounds_in_turns : Agree (entry (count Less 2 2 (if_then (uniform_test Equal (uniform 2) (number 5)) (t_return at None at ∷ []) ∷ foreach
    (range 3 0 4 ∷ []) (set_item 0 (varying 3) (plus (item 0 (varying 3)) (number 1)) ∷ []) ∷ []) ∷ []) ∷ []) zeros (2 ∷ 2 ∷ 2 ∷ 2 ∷ [])
unfolding digits number_to wrap_to
rounds_in_turns = (refl, refl, refl, refl)

-- foreach (x = 0 ... 6) a[x] = x + 1; of an array of seven
dealt_out : Agree (entry (foreach (range 3 0 6 ∷ []) (set_item 0 (varying 3) (plus (varying 3) (number 1)) ∷ []) ∷ []) ∷ []) (0 ∷ 0 ∷ 0 ∷ 0 ∷ 0 ∷ 0 ∷ 0 ∷ []) (1 ∷ 2 ∷ 3 ∷ 4 ∷ 5 ∷ 6 ∷ 0 ∷ [])
unfolding digits number_to wrap_to
dealt_out = (refl, refl, refl, refl)

-- void g(uniform int a[], uniform int b[]) { b[programIndex] = a[programIndex] + 1; } and g(a, a);
two_names : Agree (entry (run 1 (t_by_name (array Uniform 0) at ∷ t_by_name (array Uniform 0) at ∷ []) ∷ []) ∷ function None (given ∷ given ∷ []) (set_item 1 index (plus (item 0 index) (number 1)) ∷ []) ∷ []) zeros (1 ∷ 1 ∷ 1 ∷ 1 ∷ [])
unfolding digits number_to wrap_to
two_names = (refl, refl, refl, refl)

-- a[programIndex] = a[4]; of an array of five
read_by_all : Agree (entry (give (item 0 (number 4)) ∷ []) ∷ []) (0 ∷ 0 ∷ 0 ∷ 0 ∷ 7 ∷ []) (7 ∷ 7 ∷ 7 ∷ 7 ∷ 7 ∷ [])
unfolding digits number_to wrap_to
read_by_all = (refl, refl, refl, refl)

-- void f(uniform int a[], uniform int n) { a[programIndex] = a[programIndex] + 1; if (programIndex < 2) if (n > 0) f(a, n - 1); } from n = 1
abbrev calls_itself : List TFunction
calls_itself =
    function None (given ∷ one ∷ []) (set_item 0 index (plus (item 0 index) (number 1))
    ∷ if_then (test Less index (number 2)) (if_then (uniform_test Greater (uniform 1) (number 0))
    (run 0 (t_by_name (array Uniform 0) at ∷ t_by_value (t_binary op.Sub (uniform 1) (number 1) (ty_of Uniform I32) at) ∷ []) ∷ []) ∷ []) ∷ [])
    ∷ []

again :
    (run_of (gang_of_four calls_itself) 0 9 (array_of zeros ∷ AValue (record { elem = I32; bits = 1 }) ∷ []) ≡ Ends (row_of (2 ∷ 2 ∷ 1 ∷ 1 ∷ []) ∷ []) None [])
    × (together calls_itself (array_of zeros ∷ AValue (record { elem = I32; bits = 1 }) ∷ []) (0 ∷ 1 ∷ 2 ∷ 3 ∷ []) ≡ row_of (2 ∷ 2 ∷ 1 ∷ 1 ∷ []) ∷ [])
unfolding digits number_to wrap_to
again = (refl, refl)

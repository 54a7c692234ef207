-- Why each rule of independent entries is there (docs/INDEPENDENCE.md): functions that break one, of which the gang leaves other
-- arrays than its instances one by one. `a` has four zeros.
use Rattle.std.specs.Prelude.{◌≡◌, ℕ, List, [], ◌∷◌, Some, None, codes}
use Rattle.std.proofs.Common.{refl}
use Rattle.std.specs.Fmt.{digits}
use Rattle.isp_base.specs.Values.{number_to, wrap_to}
use Rattle.isp_base.specs.declared.types.Elem.TheVariants.{I32}
use Rattle.isp_base.specs.declared.types.Rate.TheVariants.{Uniform, Varying}
use Rattle.isp_base.specs.declared.operators.BinOp.TheVariants as op
use Rattle.isp_base.specs.declared.operators.Compare.TheVariants.{Equal, Less, Greater}
use Rattle.isp_base.specs.declared.signature.Argument.TheVariants.{Value as AValue}
use Rattle.isp_base.specs.Outcomes.{Ends}
use Rattle.isp_tree.specs.declared.stmt.Form.TheVariants.{Plain}
use Rattle.isp_typed.specs.declared.library.Library.TheVariants as library
use Rattle.isp_typed.specs.declared.variable.Holds.TheVariants.{Local}
use Rattle.isp_typed.specs.Typed.{TExpr, t_binary, t_called, t_arguments, t_exprs, t_library, t_variable, t_for, t_first_declare, t_simple, t_step, t_update, t_unmasked, t_call}
use Rattle.isp_typed.specs.Typed.{t_by_value, t_by_name, t_run, t_return, t_declare, t_with_size, t_with_value, ty_of, TStmt, TFunction}
use Rattle.isp_meaning.specs.Runs.{run_of}
use Rattle.isp_meaning.proofs.Programs.{at, number, truth, index, varying, uniform, array, item, join, plus, test, uniform_test, set_item, body, block, if_then, while}
use Rattle.isp_meaning.proofs.Programs.{count, range, foreach, break, continue, return, print, holding, each, one, given, function}
use Rattle.isp_tests_solo_meaning.specs.Words.{gang_of_four, row_of, array_of, together, zeros, LeavesFrom, Leaves}

-- variables: a, u and t (uniform), x (varying), a shared array of four
abbrev entry : List TStmt → TFunction
entry ss = function None (given ∷ one ∷ one ∷ each ∷ holding (Local (ty_of Uniform I32) 4) ∷ []) ss

abbrev Both : List TStmt → List ℕ → List ℕ → Type 0
Both ss = Leaves (entry ss ∷ [])

-- u += n; and u++;
abbrev set_u : ℕ → TStmt
set_u n = t_simple (t_update op.Add I32 (t_variable 1 (ty_of Uniform I32) at) (number n) at) at

abbrev step_u : TStmt
step_u = t_simple (t_step op.Add I32 (t_variable 1 (ty_of Uniform I32) at) at) at

-- a[programIndex] = x;
abbrev give : TExpr → TStmt
give = set_item 0 index

-- 1: a[programIndex] = reduce_add(programIndex + 1);
crossing : Both (give (t_library library.ReduceAdd I32 (t_exprs (plus index (number 1) ∷ [])) (ty_of Uniform I32) at) ∷ []) (10 ∷ 10 ∷ 10 ∷ 10 ∷ []) zeros
unfolding digits number_to wrap_to
crossing = (refl, refl)

-- 1: if (programIndex == 0) unmasked { a[programIndex] = 7; }
unmasked : Both (if_then (test Equal index (number 0)) (t_unmasked at (body (give (number 7) ∷ [])) at ∷ []) ∷ []) (7 ∷ 7 ∷ 7 ∷ 7 ∷ []) (7 ∷ 0 ∷ 0 ∷ 0 ∷ [])
unfolding digits number_to wrap_to
unmasked = (refl, refl)

-- 2: print("x");
printing : LeavesFrom (entry (print (codes "x") [] ∷ []) ∷ []) zeros zeros (codes "x") zeros
unfolding digits number_to wrap_to
printing = (refl, refl)

-- 3: uniform int s[4]; s[programIndex] = programIndex + 1; a[programIndex] = s[(programIndex + 1) & 3];
shared : Both (t_declare (t_with_size (array Uniform 4) at ∷ []) at ∷ set_item 4 index (plus index (number 1)) ∷ give (item 4 (join op.And (plus index (number 1)) (number 3))) ∷ []) (2 ∷ 3 ∷ 4 ∷ 1 ∷ []) zeros
unfolding digits number_to wrap_to
shared = (refl, refl)

-- 4: if (programIndex == 0) u += 1; a[programIndex] = u;
outside : Both (if_then (test Equal index (number 0)) (set_u 1 ∷ []) ∷ give (uniform 1) ∷ []) (1 ∷ 1 ∷ 1 ∷ 1 ∷ []) (1 ∷ 0 ∷ 0 ∷ 0 ∷ [])
unfolding digits number_to wrap_to
outside = (refl, refl)

-- 4: while (true) { u++; if (u > programIndex) break; } a[programIndex] = u;
breaking : Both (while truth (step_u ∷ if_then (test Greater (uniform 1) index) (break ∷ []) ∷ []) ∷ give (uniform 1) ∷ []) (4 ∷ 4 ∷ 4 ∷ 4 ∷ []) (1 ∷ 2 ∷ 3 ∷ 4 ∷ [])
unfolding digits number_to wrap_to
breaking = (refl, refl)

-- 4: for (int x = programIndex; x < 3; u++) x++; a[programIndex] = u;
tested : Both (t_for Plain 0 (Some (t_first_declare (t_with_value 3 (ty_of Varying I32) index at ∷ []) at)) (Some (test Less (varying 3) (number 3)))
    (Some (t_step op.Add I32 (t_variable 1 (ty_of Uniform I32) at) at)) 0 (t_simple (t_step op.Add I32 (t_variable 3 (ty_of Varying I32) at) at) at)
    at ∷ give (uniform 1) ∷ []) (3 ∷ 3 ∷ 3 ∷ 3 ∷ []) (3 ∷ 2 ∷ 1 ∷ 0 ∷ [])
unfolding digits number_to wrap_to
tested = (refl, refl)

-- 4: for (; u < 3; u++) { if (programIndex == 0) continue; break; } a[programIndex] = u;
third : Both (t_for Plain 0 None (Some (uniform_test Less (uniform 1) (number 3))) (Some (t_step op.Add I32 (t_variable 1 (ty_of Uniform I32) at) at))
    0 (block (if_then (test Equal index (number 0)) (continue ∷ []) ∷ break ∷ [])) at ∷ give (uniform 1) ∷ []) (3 ∷ 3 ∷ 3 ∷ 3 ∷ [])
    (3 ∷ 0 ∷ 0 ∷ 0 ∷ [])
unfolding digits number_to wrap_to
third = (refl, refl)

-- 4: foreach (x = 0 ... 5) u++; a[programIndex] = u;
in_rounds : Both (foreach (range 3 0 5 ∷ []) (step_u ∷ []) ∷ give (uniform 1) ∷ []) (2 ∷ 2 ∷ 2 ∷ 2 ∷ []) (2 ∷ 1 ∷ 1 ∷ 1 ∷ [])
unfolding digits number_to wrap_to
in_rounds = (refl, refl)

-- 5: for (t = 0; t < 3; t++) { if (programIndex == t) continue; u += 1; } a[programIndex] = u;
turned : Both (count Less 2 3 (if_then (test Equal index (uniform 2)) (continue ∷ []) ∷ set_u 1 ∷ []) ∷ give (uniform 1) ∷ []) (3 ∷ 3 ∷ 3 ∷ 3 ∷ []) (2 ∷ 2 ∷ 2 ∷ 3 ∷ [])
unfolding digits number_to wrap_to
turned = (refl, refl)

-- 6: if (programIndex < 2) foreach (x = 0 ... 4) a[x] = 1;
controlled : Both (if_then (test Less index (number 2)) (foreach (range 3 0 4 ∷ []) (set_item 0 (varying 3) (number 1) ∷ []) ∷ []) ∷ []) (1 ∷ 1 ∷ 1 ∷ 1 ∷ []) (1 ∷ 1 ∷ 0 ∷ 0 ∷ [])
unfolding digits number_to wrap_to
controlled = (refl, refl)

-- 6: if (programIndex > 1) return; foreach (x = 0 ... 4) a[x] = 1;
early : Both (if_then (test Greater index (number 1)) (t_return at None at ∷ []) ∷ foreach (range 3 0 4 ∷ []) (set_item 0 (varying 3) (number 1) ∷ []) ∷ []) (1 ∷ 1 ∷ 1 ∷ 1 ∷ []) (1 ∷ 1 ∷ 0 ∷ 0 ∷ [])
unfolding digits number_to wrap_to
early = (refl, refl)

-- 6: void g(uniform int a[]) { foreach (i = 0 ... 4) a[i] = 1; } and if (programIndex < 2) g(a);
in_call : Leaves (entry (if_then (test Less index (number 2))
    (t_simple (t_run (t_called 1 (t_arguments (t_by_name (array Uniform 0) at ∷ [])) at)) at ∷ []) ∷ []) ∷ function None (given ∷ each ∷ [])
    (foreach (range 1 0 4 ∷ []) (set_item 0 (varying 1) (number 1) ∷ []) ∷ []) ∷ []) (1 ∷ 1 ∷ 1 ∷ 1 ∷ []) (1 ∷ 1 ∷ 0 ∷ 0 ∷ [])
unfolding digits number_to wrap_to
in_call = (refl, refl)

-- 6: void f(uniform int a[], uniform int n) { foreach (i = 0 ... 4) a[i] = a[i] + 1; if (programIndex < 2) if (n > 0) f(a, n - 1); } from n = 1
abbrev calls_itself : List TFunction
calls_itself =
    function None (given ∷ one ∷ each ∷ []) (foreach (range 2 0 4 ∷ []) (set_item 0 (varying 2) (plus (item 0 (varying 2)) (number 1)) ∷ [])
    ∷ if_then (test Less index (number 2)) (if_then (uniform_test Greater (uniform 1) (number 0))
    (t_simple (t_run (t_called 0 (t_arguments (t_by_name (array Uniform 0) at ∷ t_by_value (t_binary op.Sub (uniform 1) (number 1) (ty_of Uniform I32) at) ∷ [])) at)) at ∷ []) ∷ []) ∷ [])
    ∷ []

again :
    (run_of (gang_of_four calls_itself) 0 9 (array_of zeros ∷ AValue (record { elem = I32; bits = 1 }) ∷ []) ≡ Ends (row_of (2 ∷ 2 ∷ 2 ∷ 2 ∷ []) ∷ []) None [])
    × (together calls_itself (array_of zeros ∷ AValue (record { elem = I32; bits = 1 }) ∷ []) (0 ∷ 1 ∷ 2 ∷ 3 ∷ []) ≡ row_of (2 ∷ 2 ∷ 1 ∷ 1 ∷ []) ∷ [])
unfolding digits number_to wrap_to
again = (refl, refl)

-- 7: uniform int g(int x) { if (x < 2) return 1; return 2; } and a[programIndex] = g(programIndex);
result : Leaves (entry (give (t_call (t_called 1 (t_arguments (t_by_value index ∷ [])) at) (ty_of Uniform I32)) ∷ []) ∷ function
    (Some (ty_of Uniform I32)) (each ∷ []) (if_then (test Less (varying 0) (number 2)) (return (number 1) ∷ []) ∷ return (number 2) ∷ []) ∷ [])
    (2 ∷ 2 ∷ 2 ∷ 2 ∷ []) (1 ∷ 1 ∷ 2 ∷ 2 ∷ [])
unfolding digits number_to wrap_to
result = (refl, refl)

-- Scopes: if (programIndex == 0) { uniform int u = 1; } a[programIndex] = u; where u is read after its block. No
-- restriction is broken, since a declaration is no assignment; no text has this tree.
out_of_scope : Both (if_then (test Equal index (number 0)) (t_declare (t_with_value 1 (ty_of Uniform I32) (number 1) at ∷ []) at ∷ []) ∷ give (uniform 1) ∷ []) (1 ∷ 1 ∷ 1 ∷ 1 ∷ []) (1 ∷ 0 ∷ 0 ∷ 0 ∷ [])
unfolding digits number_to wrap_to
out_of_scope = (refl, refl)

-- Why each rule of independent entries is there: for each rule a program that breaks it alone, where the gang leaves something
-- else than its instances one by one. All else that `solo_runs_agree` asks for holds. The array `a` begins with four zeros.
use Rattle.std.specs.Prelude.{◌≡◌, ℕ, ◌<◌, List, [], ◌∷◌, Some, None, Bool, true, false, nat_lt, codes}
use Rattle.isp_base.specs.Arguments.{rows, rows_now}
use Rattle.isp_base.specs.Outcomes.{Ends}
use Rattle.isp_base.specs.declared.types.Elem.TheVariants.{I32, I64}
use Rattle.isp_base.specs.declared.types.Rate.TheVariants.{Uniform, Varying}
use Rattle.isp_base.specs.declared.operators.BinOp.TheVariants.{Add, And}
use Rattle.isp_base.specs.declared.operators.Compare.TheVariants.{Less, Equal}
use Rattle.isp_base.specs.declared.signature.Argument.{Argument}
use Rattle.isp_tree.specs.declared.stmt.Jump.TheVariants.{Continue}
use Rattle.isp_typed.specs.declared.library.Library.TheVariants.{ReduceAdd}
use Rattle.isp_typed.specs.declared.variable.Holds.TheVariants.{Local}
use Rattle.isp_typed.specs.declared.variable.Variable.{Variable}
use Rattle.isp_typed.specs.Indices.{foreach_index}
use Rattle.isp_typed.specs.Typed.{TExpr, t_convert, t_library, t_exprs, ty_of, t_with_size, t_update, TStmt, t_declare, t_simple, t_jump, t_print, TFunction}
use Rattle.isp_rates.specs.Accepted.{IsAccepted}
use Rattle.isp_independence.specs.declared.dependence.Dependence.{Dependence}
use Rattle.isp_independence.specs.declared.dependence.Restriction.{Restriction}
use Rattle.isp_independence.specs.declared.dependence.Restriction.TheVariants.{Crossing, Printing, SharedArray, Outside, Turned, Foreach, Return}
use Rattle.isp_independence.specs.Independent.{Depends}
use Rattle.isp_meaning.specs.Entries.{IsEntry}
use Rattle.isp_meaning.specs.Runs.{run_of}
use Rattle.isp_solo_meaning.specs.OneByOne.{one_by_one}
use Rattle.isp_solo_meaning.specs.Runs.{solo_run, bound, IsEnded}
use Rattle.isp_solo_meaning.specs.Touched.{Clash}
use Rattle.isp_meaning_laws.specs.Words.{at, int, number, index, variable, read, array, element, item, join, test, call, assign, declare, if_then}
use Rattle.isp_meaning_laws.specs.Words.{count, foreach, give, holding, value, given, function, parameter, program, row, array_of}

abbrev pub zeros : List Argument
zeros = array_of (0 ∷ 0 ∷ 0 ∷ 0 ∷ []) ∷ []

-- the arrays in which no two instances may clash: all, but for rule 3, which is of local arrays, the one that is handed over
abbrev pub counted : Restriction → ℕ → Bool
counted SharedArray b = nat_lt b 1
counted r b = true

-- Entry f of these functions breaks the rule and no other. Each instance alone ends, and no two clash. The gang leaves ys and prints
-- text; one by one the instances leave zs.
pub record Breaks (rule : Restriction) (fs : List TFunction) (f : ℕ) (ys text zs : List ℕ) : Type 0 where
  pub accepted : IsAccepted (program fs)
  pub function : TFunction
  pub entry : IsEntry (program fs) (codes "f") zeros f function
  pub breaks : (d : Dependence) × Depends (program fs) f d × (d.rule ≡ rule)
  pub alone : (d : Dependence) → Depends (program fs) f d → d.rule ≡ rule
  pub ended : (p : ℕ) → p < 4 → IsEnded (solo_run (program fs) f 9 zeros (bound zeros) p)
  pub apart : (b e : ℕ) → counted rule b ≡ true → Clash 4 (solo_run (program fs) f 9 zeros (bound zeros)) b e → ⊥
  pub together : run_of (program fs) f 9 zeros ≡ Ends (row ys ∷ []) None text
  pub one_by_one : rows_now (rows zeros) (one_by_one (program fs) f 9 zeros (0 ∷ 1 ∷ 2 ∷ 3 ∷ []) (bound zeros)) ≡ row zs ∷ []
  pub differ : ys ≡ zs → text ≡ [] → ⊥

-- ---- the programs

-- export void f(uniform int a[]) { .. }, where a is variable 0 and these are the others
abbrev entry : List Variable → List TStmt → TFunction
entry vs ss = function (codes "f") true (parameter (codes "a") true ∷ []) None (given ∷ vs) ss

-- a[programIndex] = x;
abbrev store : TExpr → TStmt
store x = assign (element 0 index) x

-- 1: a[programIndex] = reduce_add(programIndex + 1);
-- The sum of 1, 2, 3 and 4 is 10; alone a call that looks across the gang gives 0.
abbrev sum_of : TExpr → TExpr
sum_of x = t_convert I32 (t_library ReduceAdd I32 (t_exprs (x ∷ [])) (ty_of Uniform I64) at)

abbrev pub sums : List TFunction
sums = entry [] (store (sum_of (join Add index (number 1))) ∷ []) ∷ []

-- 2: print("x");
-- The gang prints once; alone nothing is printed.
abbrev pub prints : List TFunction
prints = entry [] (t_print at (codes "x") [] at ∷ []) ∷ []

-- 3: uniform int s[4]; s[programIndex] = programIndex + 1; a[programIndex] = s[programIndex + 1 & 3];
-- Each reads what the next one stored in s; alone nobody else stores there.
abbrev next : TExpr
next = join Add index (number 1)

abbrev pub shares : List TFunction
shares =
    entry (holding (Local (int Uniform) 4) ∷ []) (t_declare (t_with_size (array 1) at ∷ []) at
    ∷ assign (element 1 index) next ∷ store (item 1 (join And next (number 3))) ∷ []) ∷ []

-- u += 1; of a uniform u, which is variable 1
abbrev add_one : TStmt
add_one = t_simple (t_update Add I32 (variable Uniform 1) (number 1) at) at

-- 4: uniform int u = 0; if (programIndex == 0) u += 1; a[programIndex] = u;
-- There is one u, so all have the 1; alone only instance 0 adds it.
abbrev pub counts : List TFunction
counts =
    entry (value Uniform ∷ []) (declare Uniform 1 (number 0) ∷ if_then 2 (test Equal index (number 0)) add_one
    ∷ store (read Uniform 1) ∷ []) ∷ []

-- 5: uniform int u = 0; for (uniform int k = 0; k < 3; k++) { if (programIndex == k) continue; u += 1; } a[programIndex] = u;
-- In each of 3 turns some add 1 to the one u; alone 0, 1 and 2 leave one turn out.
abbrev pub skips : List TFunction
skips =
    entry (value Uniform ∷ value Uniform ∷ []) (declare Uniform 1 (number 0)
    ∷ count 2 3 (if_then 3 (test Equal index (read Uniform 2)) (t_jump Continue at at) ∷ add_one ∷ [])
    ∷ store (read Uniform 1) ∷ []) ∷ []

-- 6: if (programIndex < 2) foreach (i = 0 ... 4) a[i] = 1;
-- A `foreach` is made by the whole gang, whoever comes to it; alone 2 and 3 do not come to it.
abbrev pub parts : List TFunction
parts =
    entry (foreach_index ∷ []) (if_then 1 (test Less index (number 2))
    (foreach 1 (number 4) (assign (element 0 (read Varying 1)) (number 1))) ∷ []) ∷ []

-- 7: uniform int g(int x) { if (x < 2) return 1; return 2; } and a[programIndex] = g(programIndex);
-- There is one result, that of the last `return`; alone 0 and 1 have the first.
abbrev pub returns : List TFunction
returns =
    function (codes "g") false (parameter (codes "x") false ∷ []) (Some (int Uniform)) (value Varying ∷ [])
    (if_then 1 (test Less (read Varying 0) (number 2)) (give (number 1)) ∷ give (number 2) ∷ [])
    ∷ entry [] (store (call Uniform 0 index) ∷ []) ∷ []

-- ---- each rule

abbrev pub CrossingIsNeeded : Type 0
CrossingIsNeeded = Breaks Crossing sums 0 (10 ∷ 10 ∷ 10 ∷ 10 ∷ []) [] (0 ∷ 0 ∷ 0 ∷ 0 ∷ [])

abbrev pub PrintingIsNeeded : Type 0
PrintingIsNeeded = Breaks Printing prints 0 (0 ∷ 0 ∷ 0 ∷ 0 ∷ []) (codes "x") (0 ∷ 0 ∷ 0 ∷ 0 ∷ [])

abbrev pub SharedArrayIsNeeded : Type 0
SharedArrayIsNeeded = Breaks SharedArray shares 0 (2 ∷ 3 ∷ 4 ∷ 1 ∷ []) [] (0 ∷ 0 ∷ 0 ∷ 0 ∷ [])

abbrev pub OutsideIsNeeded : Type 0
OutsideIsNeeded = Breaks Outside counts 0 (1 ∷ 1 ∷ 1 ∷ 1 ∷ []) [] (1 ∷ 0 ∷ 0 ∷ 0 ∷ [])

abbrev pub TurnedIsNeeded : Type 0
TurnedIsNeeded = Breaks Turned skips 0 (3 ∷ 3 ∷ 3 ∷ 3 ∷ []) [] (2 ∷ 2 ∷ 2 ∷ 3 ∷ [])

abbrev pub ForeachIsNeeded : Type 0
ForeachIsNeeded = Breaks Foreach parts 0 (1 ∷ 1 ∷ 1 ∷ 1 ∷ []) [] (1 ∷ 1 ∷ 0 ∷ 0 ∷ [])

abbrev pub ReturnIsNeeded : Type 0
ReturnIsNeeded = Breaks Return returns 1 (2 ∷ 2 ∷ 2 ∷ 2 ∷ []) [] (1 ∷ 1 ∷ 2 ∷ 2 ∷ [])

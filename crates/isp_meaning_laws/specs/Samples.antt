-- Two programs that meet all that `solo_runs_agree` asks for, and what the gang and its instances leave. What they leave was worked
-- out by hand from what the source says.
use Rattle.std.specs.Prelude.{◌≡◌, ℕ, ◌<◌, List, [], ◌∷◌, Some, None, true, false, codes}
use Rattle.isp_base.specs.Arguments.{rows, rows_now}
use Rattle.isp_base.specs.Outcomes.{Ends}
use Rattle.isp_base.specs.Rows.{Row}
use Rattle.isp_base.specs.declared.types.Elem.TheVariants.{Bool as Truth, I32}
use Rattle.isp_base.specs.declared.types.Rate.TheVariants.{Uniform, Varying}
use Rattle.isp_base.specs.declared.operators.BinOp.TheVariants.{Add, Mul, Div}
use Rattle.isp_base.specs.declared.operators.Compare.TheVariants.{Less}
use Rattle.isp_base.specs.declared.signature.Argument.{Argument}
use Rattle.isp_base.specs.declared.signature.Argument.TheVariants.{Value as AValue}
use Rattle.isp_tree.specs.declared.stmt.Form.TheVariants.{Plain}
use Rattle.isp_tree.specs.declared.stmt.Jump.TheVariants.{Break}
use Rattle.isp_typed.specs.Indices.{foreach_index}
use Rattle.isp_typed.specs.Typed.{t_constant, t_step, TStmt, t_simple, t_while, t_jump, TFunction}
use Rattle.isp_rates.specs.Accepted.{IsAccepted}
use Rattle.isp_independence.specs.Independent.{IsIndependent}
use Rattle.isp_meaning.specs.Entries.{IsEntry}
use Rattle.isp_meaning.specs.Runs.{run_of}
use Rattle.isp_solo_meaning.specs.OneByOne.{one_by_one, IsOrder}
use Rattle.isp_solo_meaning.specs.Runs.{solo_run, bound, IsEnded}
use Rattle.isp_solo_meaning.specs.Touched.{AreApart}
use Rattle.isp_meaning_laws.specs.Words.{at, int, number, index, variable, read, element, item, join, test, call, assign, declare, block, if_then}
use Rattle.isp_meaning_laws.specs.Words.{foreach, give, value, given, function, parameter, program, row, array_of}

-- all premises, of entry f of these functions with these arguments and n turns
pub record MeetsAll (fs : List TFunction) (f : ℕ) (xs : List Argument) (n : ℕ) : Type 0 where
  pub accepted : IsAccepted (program fs)
  pub function : TFunction
  pub entry : IsEntry (program fs) (codes "f") xs f function
  pub independent : IsIndependent (program fs) f
  pub ended : (p : ℕ) → p < 4 → IsEnded (solo_run (program fs) f n xs (bound xs) p)
  pub apart : AreApart 4 (solo_run (program fs) f n xs (bound xs))

-- the arrays that the instances leave one by one
abbrev pub behind : List TFunction → ℕ → List Argument → ℕ → List ℕ → List Row
behind fs f xs n ps = rows_now (rows xs) (one_by_one (program fs) f n xs ps (bound xs))

-- The premises hold, so by the law the gang leaves what its instances leave in any order. By computation the gang leaves ys, and so do
-- the instances upward.
pub record Agrees (fs : List TFunction) (f : ℕ) (xs : List Argument) (n : ℕ) (ys : List Row) : Type 0 where
  pub meets : MeetsAll fs f xs n
  pub by_law : (ps : List ℕ) → IsOrder 4 ps → run_of (program fs) f n xs ≡ Ends (behind fs f xs n ps) None []
  pub together : run_of (program fs) f n xs ≡ Ends ys None []
  pub upward : behind fs f xs n (0 ∷ 1 ∷ 2 ∷ 3 ∷ []) ≡ ys
  pub in_any_order : (ps : List ℕ) → IsOrder 4 ps → behind fs f xs n ps ≡ ys

-- export void f(uniform int a[]) { a[programIndex] = a[programIndex] * 2 + 1; }
abbrev pub doubles : List TFunction
doubles =
    function (codes "f") true (parameter (codes "a") true ∷ []) None (given ∷ [])
    (assign (element 0 index) (join Add (join Mul (item 0 index) (number 2)) (number 1)) ∷ []) ∷ []

-- while (true) { if (x < 2) break; x = x / 2; k++; } where x and k are variables 0 and 1
abbrev halving : TStmt
halving =
    t_while Plain 2 (t_constant (record { elem = Truth; bits = 1 }) at)
    (block (if_then 2 (test Less (read Varying 0) (number 2)) (t_jump Break at at)
    ∷ assign (variable Varying 0) (join Div (read Varying 0) (number 2)) ∷ t_simple (t_step Add I32 (variable Varying 1) at) at ∷ [])) at

-- int halvings(int x) { int k = 0; while .. return k; }
-- export void f(uniform int a[], uniform int b[], uniform int n) { foreach (i = 0 ... n) b[i] = halvings(a[i]); }
abbrev pub halves : List TFunction
halves =
    function (codes "halvings") false (parameter (codes "x") false ∷ []) (Some (int Varying)) (value Varying ∷ value Varying ∷ [])
    (declare Varying 1 (number 0) ∷ halving ∷ give (read Varying 1) ∷ [])
    ∷ function (codes "f") true (parameter (codes "a") true ∷ parameter (codes "b") true ∷ parameter (codes "n") false ∷ []) None
    (given ∷ given ∷ value Uniform ∷ foreach_index ∷ [])
    (foreach 3 (read Uniform 2) (assign (element 1 (read Varying 3)) (call Varying 0 (item 0 (read Varying 3)))) ∷ []) ∷ []

-- a has six numbers, b has seven nines, and n is 6
abbrev pub six : Argument
six = array_of (1 ∷ 2 ∷ 5 ∷ 8 ∷ 3 ∷ 16 ∷ [])

abbrev pub given_six : List Argument
given_six = six ∷ array_of (9 ∷ 9 ∷ 9 ∷ 9 ∷ 9 ∷ 9 ∷ 9 ∷ []) ∷ AValue (record { elem = I32; bits = 6 }) ∷ []

pub record PremisesOfSamples : Type 0 where
  -- 1 * 2 + 1 = 3, and so on; there is no loop, so no turns are asked for
  pub doubling : Agrees doubles 0 (array_of (1 ∷ 2 ∷ 3 ∷ 4 ∷ []) ∷ []) 0 (row (3 ∷ 5 ∷ 7 ∷ 9 ∷ []) ∷ [])
  -- 1; 2, 1; 5, 2, 1; 8, 4, 2, 1; 3, 1; and 16, 8, 4, 2, 1 are 0, 1, 2, 3, 1 and 4 halvings; the seventh nine stays. 16 is left in the
  -- fifth turn.
  pub halving : Agrees halves 1 given_six 5 (row (1 ∷ 2 ∷ 5 ∷ 8 ∷ 3 ∷ 16 ∷ []) ∷ row (0 ∷ 1 ∷ 2 ∷ 3 ∷ 1 ∷ 4 ∷ 9 ∷ []) ∷ [])

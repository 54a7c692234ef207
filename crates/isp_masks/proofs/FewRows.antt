-- A function that is small has few registers: those of its variables and of its result, those that its body asks for, and those of the
-- constants that it keeps.
use Rattle.std.proofs.Common.{◌≡◌, ℕ, suc, ◌+◌, ◌≤◌, List, [], ◌∷◌, ◌++◌, length, Bool, true, false, Option, Some, None, ap, ◌∙◌, arith, length-append}
use Rattle.std.proofs.lemmas.List.{length-map}
use Rattle.isp_base.specs.declared.types.Rate.{Rate}
use Rattle.isp_base.specs.declared.types.Rate.TheVariants.{Uniform, Varying}
use Rattle.isp_base.specs.declared.types.Ty.{Ty}
use Rattle.isp_meaning.specs.Calls.{same_rate}
use Rattle.isp_typed.specs.Typed.{TFunction}
use Rattle.isp_typed.specs.declared.variable.Holds.{Holds}
use Rattle.isp_typed.specs.declared.variable.Holds.TheVariants as holds
use Rattle.isp_typed.specs.declared.variable.Variable.{Variable as Declared}
use Rattle.isp_lower_code.specs.Asks.{Both}
use Rattle.isp_lower_code.specs.FirstRows.{array_row, array_rows, first_rows, result_rows, row_at, row_where, value_row, value_rows}
use Rattle.isp_registers.specs.Growth.{row_of, rows_of}
use Rattle.isp_lower_code.specs.Room.{GrowsBy, registers_asked}
use Rattle.isp_lower_code.specs.Rows.{Result, Row, Rows}
use Rattle.isp_lower_code.specs.declared.constant.Constant.{Constant}
use Rattle.isp_registers.specs.declared.registers.Registers.{Registers}
use Rattle.isp_masks_code.specs.Asks.{block_asks}
use Rattle.isp_masks_code.specs.Keeping.{constants_asks, keep_steps, steps_at}
use Rattle.isp_masks_code.specs.Lowered.{IsSmall}
use Rattle.isp_masks_code.proofs.Lemmas.{constants_registers}

-- ---- rows with which a function begins

where_few : (b : Bool) (x : Row) (rows : List Row) → length (row_where b x rows) ≤ length rows + 1
where_few true x rows = omega arith
where_few false x rows = omega arith

value_few : (r : Rate) (h : Holds) (v : ℕ) (rows : List Row) → length (value_row r h v rows) ≤ length rows + 1
value_few r (holds.Value t) v rows = where_few (same_rate r t.rate) (row_at v t.elem) rows
value_few r (holds.Given t) v rows = omega arith
value_few r (holds.Local t n) v rows = omega arith

values_few : (r : Rate) (v : ℕ) (xs : List Declared) → length (value_rows r v xs) ≤ length xs
values_few r v [] = omega arith
values_few r v (x ∷ xs) = omega (arith, value_few r x.holds v (value_rows r (suc v) xs), values_few r (suc v) xs)

array_few : (h : Holds) (v : ℕ) (rows : List Row) → length (array_row h v rows) ≤ length rows + 1
array_few (holds.Value t) v rows = omega arith
array_few (holds.Given t) v rows = omega arith
array_few (holds.Local t n) v rows = omega arith

arrays_few : (v : ℕ) (xs : List Declared) → length (array_rows v xs) ≤ length xs
arrays_few v [] = omega arith
arrays_few v (x ∷ xs) = omega (arith, array_few x.holds v (array_rows (suc v) xs), arrays_few (suc v) xs)

result_few : (r : Rate) (answer : Option Ty) → length (result_rows r answer) ≤ 1
result_few r None = omega arith
result_few r (Some t) = where_few (same_rate r t.rate) (record { name = Result; elem = t.elem }) []

firsts_few : (r : Rate) (vars : List Declared) (answer : Option Ty) (rows : List Row) → rows ≡ value_rows r 0 vars ++ result_rows r answer → length rows ≤ length vars + 1
firsts_few r vars answer rows is =
    let same = ap length is in
    omega (arith, same, length-append (value_rows r 0 vars) (result_rows r answer), values_few r 0 vars, result_few r answer)

-- ---- constants

step_some : (r : Rate) → 1 ≤ steps_at r
step_some Uniform = omega arith
step_some Varying = omega arith

constants_few : (ks : List Constant) → length ks ≤ keep_steps ks
constants_few [] = omega arith
constants_few (x ∷ xs) = omega (arith, step_some x.rate, constants_few xs)

-- ---- all of them

-- each can be named
pub record AreNamed (r : Registers) : Type 0 where
  pub scalars : length r.scalars ≤ 4294967295
  pub vectors : length r.vectors ≤ 4294967295
  pub arrays : length r.arrays ≤ 4294967295

-- what is asked for, and then the constants, come after those with which the function begins
pub few_registers : (h : TFunction) (ks : List Constant) (z m r : Registers) → IsSmall h → keep_steps ks ≤ 24 → rows_of z ≡ first_rows h.variables h.answer
    → GrowsBy (registers_asked (Both (constants_asks 3 ks) (block_asks h.answer h.body 3))) (rows_of z) (rows_of m) → GrowsBy (length ks) (rows_of m) (rows_of r) → AreNamed r
few_registers h ks z m r small short first more kept =
    let few = constants_few ks in
    let asked = constants_registers 3 ks in
    let scalars = firsts_few Uniform h.variables h.answer (rows_of z).scalars (ap (λ (x : Rows). x.scalars) first) in
    let vectors = firsts_few Varying h.variables h.answer (rows_of z).vectors (ap (λ (x : Rows). x.vectors) first) in
    let arrays = ap length (kept.arrays ∙ more.arrays ∙ ap (λ (x : Rows). x.arrays) first) in
    record {
      scalars = omega (arith, length-map r.scalars row_of, kept.scalars, more.scalars, scalars, asked, few, short, small.registers);
      vectors = omega (arith, length-map r.vectors row_of, kept.vectors, more.vectors, vectors, asked, few, short, small.registers);
      arrays = omega (arith, length-map r.arrays row_of, arrays, arrays_few 0 h.variables, small.registers);
    }

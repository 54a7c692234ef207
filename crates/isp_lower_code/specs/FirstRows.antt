-- Rows that begin with others, and the registers with which a function begins: those of its variables, in their order, and of
-- what it gives back.
use Rattle.std.specs.Prelude.{◌≡◌, ℕ, suc, List, [], ◌∷◌, ◌++◌, Option, Some, None, Bool, true, false}
use Rattle.isp_base.specs.declared.types.Elem.{Elem}
use Rattle.isp_base.specs.declared.types.Rate.{Rate}
use Rattle.isp_base.specs.declared.types.Rate.TheVariants.{Uniform, Varying}
use Rattle.isp_base.specs.declared.types.Ty.{Ty}
use Rattle.isp_typed.specs.declared.variable.Holds.{Holds}
use Rattle.isp_typed.specs.declared.variable.Holds.TheVariants as holds
use Rattle.isp_typed.specs.declared.variable.Variable as declared
use Rattle.isp_meaning.specs.Calls.{same_rate}
use Rattle.isp_lower_code.specs.Rows.{Variable, Result, Row, Rows}

-- the second list begins with the first
pub record Begins (xs ys : List Row) : Type 0 where
  pub more : List Row
  pub is : ys ≡ xs ++ more

-- ---- the registers with which a function begins, in the order of its variables

abbrev pub row_at : ℕ → Elem → Row
row_at v t = record { name = Variable v; elem = t }

-- a row that is there, or is not
abbrev pub row_where : Bool → Row → List Row → List Row
row_where true x rows = x ∷ rows
row_where false x rows = rows

abbrev pub value_row : Rate → Holds → ℕ → List Row → List Row
value_row r (holds.Value t) v rows = row_where (same_rate r t.rate) (row_at v t.elem) rows
value_row r (holds.Given t) v rows = rows
value_row r (holds.Local t n) v rows = rows

abbrev pub array_row : Holds → ℕ → List Row → List Row
array_row (holds.Value t) v rows = rows
array_row (holds.Given t) v rows = row_at v t ∷ rows
array_row (holds.Local t n) v rows = row_at v t.elem ∷ rows

-- of variables whose numbers begin at v
abbrev pub value_rows : Rate → ℕ → List declared.Variable → List Row
value_rows r v [] = []
value_rows r v (x ∷ xs) = value_row r x.holds v (value_rows r (suc v) xs)

abbrev pub array_rows : ℕ → List declared.Variable → List Row
array_rows v [] = []
array_rows v (x ∷ xs) = array_row x.holds v (array_rows (suc v) xs)

abbrev pub result_rows : Rate → Option Ty → List Row
result_rows r None = []
result_rows r (Some t) = row_where (same_rate r t.rate) (record { name = Result; elem = t.elem }) []

abbrev pub first_rows : List declared.Variable → Option Ty → Rows
first_rows xs answer =
    record { scalars = value_rows Uniform 0 xs ++ result_rows Uniform answer; vectors = value_rows Varying 0 xs ++ result_rows Varying answer; arrays = array_rows 0 xs; loaded = [] }

-- A layout from lists of rows: a register has the number of the first row of its class that has its name. So rows are
-- added at the end, as names come up, and no number changes. A name that no row has gets a number past the last row. The variables
-- that packed loads write are rows too, which are no registers.
use Rattle.std.specs.Prelude.{◌≡◌, ℕ, zero, suc, ◌+◌, ◌-◌, ◌*◌, ◌==◌, List, [], ◌∷◌, ◌++◌, length, Option, Some, None, Bool, is_some, true, false, if◌then◌else◌}
use Rattle.isp_base.specs.Ranks.{rank, same_elem}
use Rattle.isp_base.specs.declared.types.Elem.{Elem}
use Rattle.isp_base.specs.declared.types.Rate.{Rate}
use Rattle.isp_base.specs.declared.types.Rate.TheVariants.{Uniform, Varying}
use Rattle.isp_lower_code.specs.Layout.{Layout, no_rows, nothing_known, sets_none}

pub data Name : Type 0 where
  Variable : ℕ → Name
  Result : Name
  Spare : Elem → ℕ → Name
  Place : Name
  Fresh : ℕ → Name
  Kept : Elem → ℕ → Name

-- each name has another number
abbrev pub name_number : Name → ℕ
name_number Result = 0
name_number (Variable v) = 1 + 3 * v
name_number (Spare t j) = 2 + 3 * (9 * j + rank t)
name_number Place = 3
name_number (Fresh j) = 6 + 6 * j
name_number (Kept t b) = 9 + 6 * (9 * b + rank t)

pub record Row : Type 0 where
  pub name : Name
  pub elem : Elem

abbrev pub number_in : List Row → Name → ℕ
number_in [] x = name_number x
number_in (y ∷ ys) x = if name_number y.name == name_number x then 0 else 1 + number_in ys x

-- the type of the register of a name, where there is one
abbrev pub elem_in : List Row → Name → Option Elem
elem_in [] x = None
elem_in (y ∷ ys) x = if name_number y.name == name_number x then Some y.elem else elem_in ys x

pub record Rows : Type 0 where
  pub scalars : List Row
  pub vectors : List Row
  pub arrays : List Row
  pub loaded : List Row

abbrev pub rows_at : Rows → Rate → List Row
rows_at rows Uniform = rows.scalars
rows_at rows Varying = rows.vectors

-- a constant has a register of its type
abbrev pub has_type : Elem → Option Elem → Bool
has_type t None = false
has_type t (Some u) = same_elem u t

abbrev pub keeps : List Row → Elem → ℕ → Bool
keeps rows t b = has_type t (elem_in rows (Kept t b))

-- the register of a fresh name
abbrev pub fresh_at : Rows → Rate → ℕ → ℕ
fresh_at rows r j = number_in (rows_at rows r) (Fresh j)

-- with the rates of the parameters of functions
abbrev pub layout_of : (ℕ → List Rate) → Rows → Layout
layout_of rates rows =
    record {
      rates = rates;
      variable = λ r v. number_in (rows_at rows r) (Variable v);
      result = λ r. number_in (rows_at rows r) Result;
      spare = λ r t
          j. number_in (rows_at rows r) (Spare t j);
      place = λ r. number_in (rows_at rows r) Place;
      run = None;
      in_run = false;
      known = nothing_known;
      fresh = fresh_at rows;
      array = λ v. number_in rows.arrays (Variable v);
      loaded = λ v. is_some (elem_in rows.loaded (Variable v));
      kept = λ r t b. keeps
          (rows_at rows r) t b;
      constant = λ r t b. number_in (rows_at rows r) (Kept t b);
      is_row = no_rows;
      row = λ i pc p k n. [];
      row_at = λ i n. 0;
      sets = sets_none;
      there = no_rows;
    }

-- the number of the register that a layout has for a name
abbrev pub numbered : Layout → Rate → Name → ℕ
numbered l r (Variable v) = l.variable r v
numbered l r Result = l.result r
numbered l r (Spare t j) = l.spare r t j
numbered l r Place = l.place r
numbered l r (Fresh j) = l.fresh r j
numbered l r (Kept t b) = l.constant r t b

-- a name has a row of this rate and this type
abbrev pub HasRow : Rows → Rate → Name → Elem → Type 0
HasRow rows r x t = elem_in (rows_at rows r) x ≡ Some t

-- a packed load writes the variable
abbrev pub IsLoaded : Rows → ℕ → Type 0
IsLoaded rows v = is_some (elem_in rows.loaded (Variable v)) ≡ true

-- one more row, of a fresh register
abbrev pub with_fresh : Elem → List Row → List Row
with_fresh t rows = rows ++ record { name = Fresh (length rows); elem = t } ∷ []

abbrev pub with_fresh_at : Rate → Elem → Rows → Rows
with_fresh_at Uniform t rows = record rows { scalars = with_fresh t rows.scalars }
with_fresh_at Varying t rows = record rows { vectors = with_fresh t rows.vectors }

-- so many more
abbrev pub with_many_fresh : ℕ → Elem → List Row → List Row
with_many_fresh zero t rows = rows
with_many_fresh (suc k) t rows = with_many_fresh k t (with_fresh t rows)

-- one more that has number n or a greater one: the numbers before it that no row has are given to fresh registers too
abbrev pub with_fresh_from : ℕ → Elem → List Row → List Row
with_fresh_from n t rows = with_fresh t (with_many_fresh (n - length rows) t rows)

abbrev pub with_fresh_from_at : ℕ → Rate → Elem → Rows → Rows
with_fresh_from_at n Uniform t rows = record rows { scalars = with_fresh_from n t rows.scalars }
with_fresh_from_at n Varying t rows = record rows { vectors = with_fresh_from n t rows.vectors }

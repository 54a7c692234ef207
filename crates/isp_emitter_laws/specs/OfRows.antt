-- A call whose routine has the registers of some rows, as an emitter has them.
use Rattle.std.specs.Prelude.{◌≡◌, List, ◌++◌}
use Rattle.isp_code.specs.Registers.{scalars_of, vectors_of}
use Rattle.isp_lower_code.specs.Header.{types_of}
use Rattle.isp_lower_code.specs.Rows.{Rows, layout_of}
use Rattle.isp_lower_code.specs.Setting.{Setting}

-- a list begins with another
pub record StartsWith {A : Type 0} (xs ys : List A) : Type 0 where
  pub rest : List A
  pub is : ys ≡ xs ++ rest

-- The routine's registers begin with those of the rows, and each name lies where the rows have it. A routine may have more: of rows
-- that were added later.
pub record IsOfRows (w : Setting) (rows : Rows) : Type 0 where
  pub scalars : StartsWith (types_of rows.scalars) (scalars_of w.routine)
  pub vectors : StartsWith (types_of rows.vectors) (vectors_of w.routine)
  pub layout : w.layout ≡ layout_of w.layout.rates rows

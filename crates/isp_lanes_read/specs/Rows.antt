-- Tables of some code as lists: for each function a row for each instruction.
use Rattle.std.specs.Prelude.{ℕ, List, [], map, slice_index_or}
use Rattle.isp_lanes_read.specs.declared.table.Inclusion.{Inclusion}
use Rattle.isp_lanes_read.specs.declared.table.Line.{Line}
use Rattle.isp_lanes_read.specs.declared.table.Reading.{Reading}
use Rattle.isp_lanes_read.specs.declared.table.Row.{Row as Looked}
use Rattle.isp_lanes_read.specs.declared.table.Table.{Table}
use Rattle.isp_lanes_read.specs.declared.table.Tables.{Tables}

-- what is said before an instruction
pub record Row : Type 0 where
  pub within : List Inclusion
  pub read : List Reading

-- a table is a list of rows, and there is one for each function
abbrev pub Rows : Type 0
Rows = List (List Row)

abbrev pub row_of : Line → Row
row_of l = record { within = l.within.items; read = l.read.items }

abbrev pub table_rows : Table → List Row
table_rows t = map row_of t.lines.items

abbrev pub rows_of : Tables → Rows
rows_of t = map table_rows t.functions.items

-- where there is no row nothing is known, and no lane is read
abbrev pub no_row : Row
no_row = record { within = []; read = [] }

-- before an instruction, in the table of its function
abbrev pub row_in : List Row → ℕ → Row
row_in table pc = slice_index_or table pc no_row

abbrev pub table_at : Rows → ℕ → List Row
table_at rows f = slice_index_or rows f []

-- before instruction pc of function f
abbrev pub row_at : Rows → ℕ → ℕ → Row
row_at rows f pc = row_in (table_at rows f) pc

-- a line that is looked at
abbrev pub seen_row : Looked → Row
seen_row r = record { within = r.within.now; read = r.read.now }

-- The words of an array of which each lane has its own: a row for each element, with a word for each lane.
use Rattle.std.specs.Prelude.{◌≡◌, ℕ, ◌<◌, ◌^◌, List, [], length, map, get_or}
use Rattle.isp_base.specs.Cells.{cell_width}
use Rattle.isp_base.specs.Rows.{Row}
use Rattle.isp_base.specs.Values.{width}
use Rattle.isp_base.specs.declared.types.Elem.{Elem}
use Rattle.isp_cells.specs.Cells.{found, row_word}
use Rattle.isp_store.specs.declared.lane_rows.LaneRows.{LaneRows}
use Rattle.isp_store.specs.declared.lane_rows.LaneRows.TheVariants.{Bits8, Bits16, Bits32, Bits64}

abbrev pub lists : {n : ℕ} → LaneRows n → List (List ℕ)
lists (Bits8 rows) = rows.items
lists (Bits16 rows) = rows.items
lists (Bits32 rows) = rows.items
lists (Bits64 rows) = rows.items

abbrev pub rows_width : {n : ℕ} → LaneRows n → ℕ
rows_width (Bits8 rows) = 8
rows_width (Bits16 rows) = 16
rows_width (Bits32 rows) = 32
rows_width (Bits64 rows) = 64

-- the rows with their element type
abbrev pub rows_as : Elem → List (List ℕ) → List Row
rows_as t xss = map (λ (xs : List ℕ). record { elem = t; bits = xs }) xss

-- rows of n lanes of an element type, in words of w bits
pub record AreRows (n w : ℕ) (t : Elem) (xss : List (List ℕ)) : Type 0 where
  pub wide : w ≡ cell_width t
  pub long : (e : ℕ) → e < length xss → length (get_or xss e []) ≡ n
  pub fits : (e p : ℕ) → found row_word xss e p < 2 ^ width t

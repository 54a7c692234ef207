-- The words in which a vector holds its lanes.
use Rattle.std.specs.Prelude.{◌≡◌, ℕ, List, Bool, true, false, length}
use Rattle.isp_base.specs.declared.types.Elem.{Elem}
use Rattle.isp_base.specs.declared.types.Elem.TheVariants.{Bool as Truth, I8, U8, I16, U16, I32, U32, I64, U64}
use Rattle.isp_base.specs.Rows.{Fit}
use Rattle.isp_base.specs.Cells.{cell_width}
use Rattle.isp_lanes.specs.declared.row.Row.{Row}
use Rattle.isp_lanes.specs.declared.row.Row.TheVariants.{Bits8, Bits16, Bits32, Bits64}

-- the lanes
abbrev pub held : {n : ℕ} → Row n → List ℕ
held (Bits8 words) = words
held (Bits16 words) = words
held (Bits32 words) = words
held (Bits64 words) = words

abbrev pub held_width : {n : ℕ} → Row n → ℕ
held_width (Bits8 words) = 8
held_width (Bits16 words) = 16
held_width (Bits32 words) = 32
held_width (Bits64 words) = 64

-- whether the type is bool
abbrev pub is_truth : Elem → Bool
is_truth Truth = true
is_truth I8 = false
is_truth U8 = false
is_truth I16 = false
is_truth U16 = false
is_truth I32 = false
is_truth U32 = false
is_truth I64 = false
is_truth U64 = false

-- n lanes of an element type, in words of w bits
pub record IsRow (n w : ℕ) (t : Elem) (xs : List ℕ) : Type 0 where
  pub wide : w ≡ cell_width t
  pub long : length xs ≡ n
  pub fits : Fit t xs

-- the lanes of an element type, in words of its width
abbrev pub row_of : {n : ℕ} → Elem → List ℕ → Row n
row_of Truth xs = Bits8 xs
row_of I8 xs = Bits8 xs
row_of U8 xs = Bits8 xs
row_of I16 xs = Bits16 xs
row_of U16 xs = Bits16 xs
row_of I32 xs = Bits32 xs
row_of U32 xs = Bits32 xs
row_of I64 xs = Bits64 xs
row_of U64 xs = Bits64 xs

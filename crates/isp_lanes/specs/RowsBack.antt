-- A vector's words, made again from its lanes: a vector may be copied because nothing is lost.
use Rattle.std.specs.Prelude.{◌≡◌, ℕ, refl}
use Rattle.std.proofs.Common.{arith}
use Rattle.isp_base.specs.declared.types.Elem.{Elem}
use Rattle.isp_base.specs.declared.types.Elem.TheVariants.{Bool as Truth, I8, U8, I16, U16, I32, U32, I64, U64}
use Rattle.isp_base.specs.Cells.{cell_width}
use Rattle.isp_lanes.specs.declared.row.Row.{Row}
use Rattle.isp_lanes.specs.declared.row.Row.TheVariants.{Bits8, Bits16, Bits32, Bits64}
use Rattle.isp_lanes.specs.Held.{held, held_width, row_of}

pub row_back : {n : ℕ} (t : Elem) (r : Row n) → held_width r ≡ cell_width t → row_of t (held r) ≡ r
row_back Truth (Bits8 xs) e = refl
row_back Truth (Bits16 xs) e = absurd (omega arith)
row_back Truth (Bits32 xs) e = absurd (omega arith)
row_back Truth (Bits64 xs) e = absurd (omega arith)
row_back I8 (Bits8 xs) e = refl
row_back I8 (Bits16 xs) e = absurd (omega arith)
row_back I8 (Bits32 xs) e = absurd (omega arith)
row_back I8 (Bits64 xs) e = absurd (omega arith)
row_back U8 (Bits8 xs) e = refl
row_back U8 (Bits16 xs) e = absurd (omega arith)
row_back U8 (Bits32 xs) e = absurd (omega arith)
row_back U8 (Bits64 xs) e = absurd (omega arith)
row_back I16 (Bits8 xs) e = absurd (omega arith)
row_back I16 (Bits16 xs) e = refl
row_back I16 (Bits32 xs) e = absurd (omega arith)
row_back I16 (Bits64 xs) e = absurd (omega arith)
row_back U16 (Bits8 xs) e = absurd (omega arith)
row_back U16 (Bits16 xs) e = refl
row_back U16 (Bits32 xs) e = absurd (omega arith)
row_back U16 (Bits64 xs) e = absurd (omega arith)
row_back I32 (Bits8 xs) e = absurd (omega arith)
row_back I32 (Bits16 xs) e = absurd (omega arith)
row_back I32 (Bits32 xs) e = refl
row_back I32 (Bits64 xs) e = absurd (omega arith)
row_back U32 (Bits8 xs) e = absurd (omega arith)
row_back U32 (Bits16 xs) e = absurd (omega arith)
row_back U32 (Bits32 xs) e = refl
row_back U32 (Bits64 xs) e = absurd (omega arith)
row_back I64 (Bits8 xs) e = absurd (omega arith)
row_back I64 (Bits16 xs) e = absurd (omega arith)
row_back I64 (Bits32 xs) e = absurd (omega arith)
row_back I64 (Bits64 xs) e = refl
row_back U64 (Bits8 xs) e = absurd (omega arith)
row_back U64 (Bits16 xs) e = absurd (omega arith)
row_back U64 (Bits32 xs) e = absurd (omega arith)
row_back U64 (Bits64 xs) e = refl

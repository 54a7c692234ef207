-- The words in which an array holds its elements.
use Rattle.std.specs.Prelude.{ℕ, List}
use Rattle.isp_base.specs.declared.array.Cells.{Cells}
use Rattle.isp_base.specs.declared.array.Cells.TheVariants.{Bits8, Bits16, Bits32, Bits64}

abbrev pub held : Cells → List ℕ
held (Bits8 words) = words.items
held (Bits16 words) = words.items
held (Bits32 words) = words.items
held (Bits64 words) = words.items

abbrev pub held_width : Cells → ℕ
held_width (Bits8 words) = 8
held_width (Bits16 words) = 16
held_width (Bits32 words) = 32
held_width (Bits64 words) = 64

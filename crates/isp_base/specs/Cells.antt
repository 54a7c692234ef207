-- How much room a value takes in an array and in a lane.
use Rattle.std.specs.Prelude.{ℕ}
use Rattle.isp_base.specs.declared.types.Elem.{Elem}
use Rattle.isp_base.specs.declared.types.Elem.TheVariants.{Bool as Truth, I8, U8, I16, U16, I32, U32, I64, U64}

-- as many bits as the type has; bool takes 8
abbrev pub cell_width : Elem → ℕ
cell_width Truth = 8
cell_width I8 = 8
cell_width U8 = 8
cell_width I16 = 16
cell_width U16 = 16
cell_width I32 = 32
cell_width U32 = 32
cell_width I64 = 64
cell_width U64 = 64

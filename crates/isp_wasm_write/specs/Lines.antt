-- Groups of instructions.
use Rattle.std.specs.Prelude.{Bool, true, false}
use Rattle.isp_code.specs.declared.instr.ScalarInstr.{ScalarInstr}
use Rattle.isp_code.specs.declared.instr.ScalarInstr.TheVariants as scalar

-- what makes a scalar of scalars, or of a mask
abbrev pub is_plain : ScalarInstr → Bool
is_plain (scalar.Load a i k p) = false
is_plain (scalar.Reduce o x k) = false
is_plain (scalar.Extract x i k) = false
is_plain i = true

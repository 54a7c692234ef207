-- Groups of instructions.
use Rattle.std.specs.Prelude.{Bool, true, false}
use Rattle.isp_code.specs.declared.instr.Instr.{Instr}
use Rattle.isp_code.specs.declared.instr.Instr.TheVariants as instr
use Rattle.isp_code.specs.declared.instr.ScalarInstr.{ScalarInstr}
use Rattle.isp_code.specs.declared.instr.ScalarInstr.TheVariants as scalar

-- what makes a scalar of the lanes of a vector
abbrev pub is_across : ScalarInstr → Bool
is_across (scalar.Reduce o x k) = true
is_across (scalar.Extract x i k) = true
is_across i = false

-- what goes lane by lane, and a division of scalars
abbrev pub is_laned : Instr → Bool
is_laned (instr.Divide o d x y k q) = true
is_laned (instr.Scatter a i y k q) = true
is_laned (instr.StoreRun a i y k q) = true
is_laned (instr.PackedStore d a i y k q) = true
is_laned (instr.PackedLoad d a i y k q) = true
is_laned i = false

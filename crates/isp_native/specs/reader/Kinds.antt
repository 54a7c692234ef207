-- Groups of instructions, as the code takes them apart. No part of a promise.
use Rattle.std.specs.Prelude.{Bool, true, false}
use Rattle.isp_code.specs.declared.instr.Instr.{Instr}
use Rattle.isp_code.specs.declared.instr.Instr.TheVariants as instr
use Rattle.isp_code.specs.declared.instr.VectorInstr.{VectorInstr}
use Rattle.isp_code.specs.declared.instr.VectorInstr.TheVariants as vector

-- stores, and what stores or loads lanes one after the other
abbrev pub is_access : Instr → Bool
is_access (instr.Store a i y k p) = true
is_access (instr.Scatter a i y k p) = true
is_access (instr.StoreRun a i y k p) = true
is_access (instr.PackedStore d a i y k p) = true
is_access (instr.PackedLoad d a i y k p) = true
is_access i = false

-- what comes from an array or from other lanes
abbrev pub is_across : VectorInstr → Bool
is_across (vector.Gather a i k p) = true
is_across (vector.LoadRun a i k p) = true
is_across (vector.Scan o x k) = true
is_across (vector.Exchange o x i k) = true
is_across (vector.Shuffle x i k) = true
is_across (vector.ShuffleTwo x y i k) = true
is_across (vector.Insert x i y k) = true
is_across i = false

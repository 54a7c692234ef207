-- Groups of instructions, as the code takes them apart. No part of a promise.
use Rattle.std.specs.Prelude.{Bool, true, false}
use Rattle.isp_code.specs.declared.instr.Instr.{Instr}
use Rattle.isp_code.specs.declared.instr.Instr.TheVariants as instr
use Rattle.isp_code.specs.declared.instr.ScalarInstr.{ScalarInstr}
use Rattle.isp_code.specs.declared.instr.ScalarInstr.TheVariants as scalar
use Rattle.isp_code.specs.declared.instr.VectorInstr.{VectorInstr}
use Rattle.isp_code.specs.declared.instr.VectorInstr.TheVariants as vector

-- ---- what writes a scalar register: from many values, as those of lanes

abbrev pub is_of_many : ScalarInstr → Bool
is_of_many (scalar.First x) = true
is_of_many (scalar.Load a i k p) = true
is_of_many (scalar.Reduce r x k) = true
is_of_many (scalar.Extract x i k) = true
is_of_many i = false

-- ---- what writes a vector register: by an operator, from memory, across lanes

abbrev pub is_operator : VectorInstr → Bool
is_operator (vector.Unary op x k) = true
is_operator (vector.Binary op x y k) = true
is_operator (vector.Compare op x y k) = true
is_operator (vector.Select c x y k) = true
is_operator i = false

abbrev pub is_load : VectorInstr → Bool
is_load (vector.Gather a i k p) = true
is_load (vector.LoadRun a i k p) = true
is_load i = false

abbrev pub is_across : VectorInstr → Bool
is_across (vector.Scan op x k) = true
is_across (vector.Exchange e x i k) = true
is_across (vector.Shuffle x i k) = true
is_across (vector.ShuffleTwo x y i k) = true
is_across (vector.Insert x i y k) = true
is_across i = false

-- ---- what stores, and packed calls

abbrev pub is_store : Instr → Bool
is_store (instr.Store a i y k p) = true
is_store (instr.Scatter a i y k p) = true
is_store (instr.StoreRun a i y k p) = true
is_store i = false

abbrev pub is_packed : Instr → Bool
is_packed (instr.PackedStore d a i y k p) = true
is_packed (instr.PackedLoad d a i y k p) = true
is_packed i = false

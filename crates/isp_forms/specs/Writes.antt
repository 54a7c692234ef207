-- In which lanes an instruction on vectors writes, and whether it may trap.
use Rattle.std.specs.Prelude.{Bool, true, false}
use Rattle.isp_code.specs.declared.instr.VectorInstr.{VectorInstr}
use Rattle.isp_code.specs.declared.instr.VectorInstr.TheVariants as vector
use Rattle.isp_code.specs.declared.register.Register.{Register}

-- the mask under which a vector is written
abbrev pub mask_under : VectorInstr → Register
mask_under (vector.Copy x k) = k
mask_under (vector.Convert x k) = k
mask_under (vector.Unary o x k) = k
mask_under (vector.Binary o x y k) = k
mask_under (vector.Compare o x y k) = k
mask_under (vector.Select t x y k) = k
mask_under (vector.Splat x k) = k
mask_under (vector.Index k) = k
mask_under (vector.Gather a i k q) = k
mask_under (vector.LoadRun a i k q) = k
mask_under (vector.Scan o x k) = k
mask_under (vector.Exchange e x i k) = k
mask_under (vector.Shuffle x i k) = k
mask_under (vector.ShuffleTwo x y i k) = k
mask_under (vector.Insert x i y k) = k

-- it never traps
abbrev pub is_pure : VectorInstr → Bool
is_pure (vector.Gather a i k q) = false
is_pure (vector.LoadRun a i k q) = false
is_pure i = true

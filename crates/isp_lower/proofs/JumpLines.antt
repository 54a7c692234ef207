-- A jump is an instruction that names a number.
use Rattle.std.proofs.Common.{ℕ, Option, Some, None, refl}
use Rattle.isp_code.specs.declared.instr.Instr.{Instr}
use Rattle.isp_code.specs.declared.instr.Instr.TheVariants as instr
use Rattle.isp_lower_code.specs.Lines.{CanName, naming_if}
use Rattle.isp_lower_code.specs.Patched.{IsJump}

pub jump_names : (o : Option ℕ) (i : Instr) (n : ℕ) → IsJump (naming_if o i) → CanName (Some n) i
jump_names o (instr.Jump to) n j = refl
jump_names o (instr.JumpIf t x to) n j = refl
jump_names None (instr.Scalar d i) n j = absurd j
jump_names (Some m) (instr.Scalar d i) n j = absurd j
jump_names None (instr.Vector d i) n j = absurd j
jump_names (Some m) (instr.Vector d i) n j = absurd j
jump_names None (instr.Mask d i) n j = absurd j
jump_names (Some m) (instr.Mask d i) n j = absurd j
jump_names None (instr.Divide op d x y k p) n j = absurd j
jump_names (Some m) (instr.Divide op d x y k p) n j = absurd j
jump_names None (instr.Store a i y k p) n j = absurd j
jump_names (Some m) (instr.Store a i y k p) n j = absurd j
jump_names None (instr.Scatter a i y k p) n j = absurd j
jump_names (Some m) (instr.Scatter a i y k p) n j = absurd j
jump_names None (instr.StoreRun a i y k p) n j = absurd j
jump_names (Some m) (instr.StoreRun a i y k p) n j = absurd j
jump_names None (instr.PackedStore d a i y k p) n j = absurd j
jump_names (Some m) (instr.PackedStore d a i y k p) n j = absurd j
jump_names None (instr.PackedLoad d a i y k p) n j = absurd j
jump_names (Some m) (instr.PackedLoad d a i y k p) n j = absurd j
jump_names None (instr.Clear a k) n j = absurd j
jump_names (Some m) (instr.Clear a k) n j = absurd j
jump_names None (instr.Say t) n j = absurd j
jump_names (Some m) (instr.Say t) n j = absurd j
jump_names None (instr.PrintScalar x) n j = absurd j
jump_names (Some m) (instr.PrintScalar x) n j = absurd j
jump_names None (instr.PrintVector x k) n j = absurd j
jump_names (Some m) (instr.PrintVector x k) n j = absurd j
jump_names None (instr.Fail k p) n j = absurd j
jump_names (Some m) (instr.Fail k p) n j = absurd j
jump_names None (instr.Call c) n j = absurd j
jump_names (Some m) (instr.Call c) n j = absurd j
jump_names None (instr.Return x) n j = absurd j
jump_names (Some m) (instr.Return x) n j = absurd j

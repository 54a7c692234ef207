-- Instructions on sets of lanes, and how lanes leave a statement.
use Rattle.std.specs.Prelude.{ℕ, List, [], ◌∷◌}
use Rattle.isp_code.specs.declared.instr.Instr.{Instr}
use Rattle.isp_code.specs.declared.instr.Instr.TheVariants as instr
use Rattle.isp_code.specs.declared.instr.MaskInstr.TheVariants as mask
use Rattle.isp_code.specs.declared.instr.MaskOp.TheVariants as mask_op
use Rattle.isp_tree.specs.declared.stmt.Jump.{Jump}
use Rattle.isp_tree.specs.declared.stmt.Jump.TheVariants.{Break, Continue}
use Rattle.isp_lower_code.specs.Layout.{mask_register}

-- mask d gets those of two masks; mask d gets nobody
abbrev pub unite : ℕ → ℕ → ℕ → Instr
unite d x y = instr.Mask (mask_register d) (mask.Binary mask_op.Or (mask_register x) (mask_register y))

abbrev pub clear_mask : ℕ → Instr
clear_mask d = instr.Mask (mask_register d) mask.Off

-- those of mask k leave, into mask m
abbrev pub leave_code : ℕ → ℕ → List Instr
leave_code m k = unite m m k ∷ clear_mask k ∷ []

-- what is left to do for those of mask n, who jump and are in no other mask
abbrev pub jumped_code : Jump → ℕ → ℕ → List Instr
jumped_code Break n co = []
jumped_code Continue n co = unite co co n ∷ []

abbrev pub jump_code : Jump → ℕ → ℕ → List Instr
jump_code Break k co = clear_mask k ∷ []
jump_code Continue k co = leave_code co k

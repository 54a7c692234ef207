-- Which masks an instruction has, and which lanes it writes.
use Rattle.std.specs.Prelude.{List, [], ◌∷◌, Option, Some, None}
use Rattle.isp_code.specs.Operands.{operands}
use Rattle.isp_code.specs.declared.instr.Instr.{Instr}
use Rattle.isp_code.specs.declared.instr.Instr.TheVariants as instr
use Rattle.isp_code.specs.declared.instr.ScalarInstr.TheVariants as scalar
use Rattle.isp_code.specs.declared.operand.Operand.{Operand}
use Rattle.isp_code.specs.declared.operand.Operand.TheVariants as operand
use Rattle.isp_code.specs.declared.register.Class.{Class}
use Rattle.isp_code.specs.declared.register.Class.TheVariants as class
use Rattle.isp_code.specs.declared.register.Register.{Register}
use Rattle.isp_traces.specs.declared.masks.Written.{Written}

-- the masks among the operands, from left to right
abbrev pub masks_among : List Operand → List Register
masks_among [] = []
masks_among (operand.Mask k ∷ os) = k ∷ masks_among os
masks_among (o ∷ os) = masks_among os

abbrev pub first_of : List Register → Option Register
first_of [] = None
first_of (k ∷ ks) = Some k

abbrev pub behind_first : List Register → List Register
behind_first [] = []
behind_first (k ∷ ks) = ks

-- the masks that an instruction names
abbrev pub named : Instr → List Register
named (instr.Divide o d x y k p) = k ∷ []
named (instr.Call c) = c.mask ∷ []
named i = masks_among (operands i)

-- The mask under which an instruction stands: K in the table of docs/MACHINE.md. A mask that is computed, tested or looked
-- at is none.
abbrev pub under : Instr → Option Register
under (instr.Mask d i) = None
under (instr.Scalar d (scalar.First x)) = None
under (instr.JumpIf t x to) = None
under (instr.Fail x p) = None
under i = first_of (named i)

-- the masks that an instruction reads, and the one that it writes, which it names first
abbrev pub read_masks : Instr → List Register
read_masks (instr.Mask d i) = behind_first (named (instr.Mask d i))
read_masks i = named i

abbrev pub written_mask : Instr → Option Register
written_mask (instr.Mask d i) = Some d
written_mask i = None

-- the vector that an instruction writes, and the mask in whose lanes it does
abbrev pub with_mask : Register → Option Register → Option Written
with_mask d None = None
with_mask d (Some k) = Some (record { vector = d; mask = k })

abbrev pub divided_lanes : Class → Register → Register → Option Written
divided_lanes class.Vector d k = Some (record { vector = d; mask = k })
divided_lanes c d k = None

abbrev pub written_lanes : Instr → Option Written
written_lanes (instr.Vector d i) = with_mask d (under (instr.Vector d i))
written_lanes (instr.Divide o d x y k p) = divided_lanes d.class d k
written_lanes (instr.PackedLoad d a i y k p) = Some (record { vector = y; mask = k })
written_lanes i = None

-- A jump whose target is changed, and nothing else.
use Rattle.std.specs.Prelude.{ℕ, List, None, slice_set, slice_index_or}
use Rattle.isp_code.specs.declared.instr.Instr.{Instr}
use Rattle.isp_code.specs.declared.instr.Instr.TheVariants as instr

abbrev pub IsJump : Instr → Type 0
IsJump (instr.Jump to) = Unit {0}
IsJump (instr.JumpIf t x to) = Unit {0}
IsJump i = ⊥

abbrev pub retargeted : Instr → ℕ → Instr
retargeted (instr.Jump old) to = instr.Jump to
retargeted (instr.JumpIf t x old) to = instr.JumpIf t x to
retargeted i to = i

abbrev pub instr_at : List Instr → ℕ → Instr
instr_at code at = slice_index_or code at (instr.Return None)

abbrev pub patched : List Instr → ℕ → ℕ → List Instr
patched code at to = slice_set code at (retargeted (instr_at code at) to)

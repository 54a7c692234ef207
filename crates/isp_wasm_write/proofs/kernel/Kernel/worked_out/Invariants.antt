use Rattle.std.proofs.Common.{◌≡◌, ◌++◌}
use Rattle.isp_wasm_meaning.specs.Syntax as wasm
use Rattle.isp_wasm.specs.Places as places
use Rattle.isp_wasm.specs.Templates as templates
use Rattle.isp_wasm.specs.Templates.{each}
use Rattle.isp_wasm_binary.specs.Instructions.{code_bytes}
use Rattle.isp_wasm_write.specs.Settings.{setting}
use Rattle.isp_wasm_write.proofs.kernel.Kernel.worked_out.Given as goal

-- the parts so far
abbrev pub invariant-loop-part : goal.invariant-loop-part
invariant-loop-part l =
    l.out ≡ l.initial.out ++ code_bytes (each l.part (λ j. wasm.Set ((setting l.self).local (places.Fresh j)) (templates.mask_of (setting l.self) l.instr j)))

use Rattle.std.proofs.Common.{◌≡◌, ◌++◌, suc}
use Rattle.isp_wasm_meaning.specs.Syntax as wasm
use Rattle.isp_wasm.specs.Templates as templates
use Rattle.isp_wasm.specs.Templates.{each}
use Rattle.isp_wasm_binary.specs.Instructions.{code_bytes}
use Rattle.isp_wasm_write.specs.Settings.{setting}
use Rattle.isp_wasm_write.proofs.kernel.Kernel.parts_given.Given as goal

-- the parts so far
abbrev pub invariant-loop-part : goal.invariant-loop-part
invariant-loop-part l =
    l.out ≡ l.initial.out ++ code_bytes (each l.part (λ j. wasm.SetGlobal (suc j) (templates.vector_local (setting l.self) l.register j)))

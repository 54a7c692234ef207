use Rattle.std.proofs.Common.{◌≡◌, ◌++◌, suc}
use Rattle.isp_wasm_meaning.specs.Syntax as wasm
use Rattle.isp_wasm.specs.Places as places
use Rattle.isp_wasm.specs.Templates.{each}
use Rattle.isp_wasm_binary.specs.Instructions.{code_bytes}
use Rattle.isp_wasm_write.specs.Settings.{setting}
use Rattle.isp_wasm_module.proofs.calls.parts_taken.Given as goal

-- the parts so far
abbrev pub invariant-loop-part : goal.invariant-loop-part
invariant-loop-part l =
    l.out ≡ l.initial.out ++ code_bytes (each l.part (λ j. wasm.GetGlobal ((setting l.kernel).local (places.Fresh j)) (suc j)))

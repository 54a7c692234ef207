use Rattle.std.proofs.Common.{◌≡◌, ◌++◌}
use Rattle.isp_base.specs.Sets.{everyone}
use Rattle.isp_wasm_meaning.specs.Syntax as wasm
use Rattle.isp_wasm.specs.Places as places
use Rattle.isp_wasm.specs.Templates.{each, mask_part}
use Rattle.isp_wasm_binary.specs.Instructions.{code_bytes}
use Rattle.isp_wasm_write.specs.Settings.{setting}
use Rattle.isp_wasm_write.proofs.kernel.Kernel.lanes_on.Given as goal

-- the parts so far
abbrev pub invariant-loop-part : goal.invariant-loop-part
invariant-loop-part l =
    l.out ≡ l.initial.out ++ code_bytes (each l.part (λ j. wasm.Set ((setting l.self).local (places.Mask 0 j)) (wasm.Const128 (mask_part (everyone (places.gang (setting l.self))) j))))

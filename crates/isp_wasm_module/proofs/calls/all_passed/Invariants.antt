use Rattle.std.proofs.Common.{◌≡◌, ◌++◌, drop}
use Rattle.std.specs.List.{flat_map}
use Rattle.isp_wasm.specs.Templates.{passed_all}
use Rattle.isp_wasm_binary.specs.Instructions.{expr_bytes}
use Rattle.isp_wasm_write.specs.Settings.{setting}
use Rattle.isp_wasm_module.proofs.calls.all_passed.Given as goal

-- what is written, and what the others will add
abbrev pub invariant-loop-register : goal.invariant-loop-register
invariant-loop-register l =
    l.out ++ flat_map expr_bytes (passed_all (setting l.kernel) l.mask (drop l.register-index l.registers)) ≡ l.initial.out ++ flat_map expr_bytes (passed_all (setting l.kernel) l.mask l.registers)

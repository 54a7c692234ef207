use Rattle.std.proofs.Common.{◌≡◌, ◌++◌}
use Rattle.std.specs.List.{flat_map}
use Rattle.isp_wasm_binary.specs.Binary.{results}
use Rattle.isp_wasm_binary.specs.Modules.{global_bytes}
use Rattle.isp_wasm_module.proofs.memory.push_results.Given as goal

-- the globals so far
abbrev pub invariant-loop-part : goal.invariant-loop-part
invariant-loop-part l = l.out ≡ l.initial.out ++ flat_map global_bytes (results l.part)

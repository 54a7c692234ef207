use Rattle.std.proofs.Common.{◌≡◌, ◌++◌, drop}
use Rattle.std.specs.List.{flat_map}
use Rattle.isp_wasm_binary.specs.Binary as binary
use Rattle.isp_wasm_binary.specs.Modules as modules
use Rattle.isp_wasm_module.specs.reader.Pieces.{module_for}
use Rattle.isp_wasm_module.proofs.functions.push_bodies.Given as goal

-- what is written, and what the others will add
abbrev pub invariant-loop-number : goal.invariant-loop-number
invariant-loop-number l =
    l.out ++ flat_map modules.body_bytes (binary.bodies l.number (drop l.number (module_for l.source).functions)) ≡ l.initial.out ++ flat_map modules.body_bytes (binary.bodies 0 (module_for l.source).functions)

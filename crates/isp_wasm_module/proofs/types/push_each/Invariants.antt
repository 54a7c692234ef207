use Rattle.std.proofs.Common.{◌≡◌, ◌++◌, map, drop}
use Rattle.std.specs.List.{flat_map}
use Rattle.isp_wasm_binary.specs.Modules.{value_type}
use Rattle.isp_wasm_module.specs.reader.Typed.{typed}
use Rattle.isp_wasm_module.proofs.types.push_each.Given as goal

-- what is written, and what the others will add
abbrev pub invariant-loop-kind : goal.invariant-loop-kind
invariant-loop-kind l = l.out ++ flat_map value_type (map typed (drop l.kind-index l.types)) ≡ l.initial.out ++ flat_map value_type (map typed l.types)

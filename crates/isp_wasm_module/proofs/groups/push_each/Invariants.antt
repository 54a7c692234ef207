use Rattle.std.proofs.Common.{◌≡◌, ◌++◌, map, drop}
use Rattle.std.specs.List.{flat_map}
use Rattle.isp_wasm_binary.specs.Modules.{group_bytes}
use Rattle.isp_wasm_module.specs.reader.Typed.{group_of}
use Rattle.isp_wasm_module.proofs.groups.push_each.Given as goal

-- what is written, and what the others will add
abbrev pub invariant-loop-group : goal.invariant-loop-group
invariant-loop-group l = l.out ++ flat_map group_bytes (map group_of (drop l.group-index l.groups)) ≡ l.initial.out ++ flat_map group_bytes (map group_of l.groups)

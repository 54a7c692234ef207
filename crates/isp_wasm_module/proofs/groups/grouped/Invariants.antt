use Rattle.std.proofs.Common.{◌≡◌, ◌++◌, ◌+◌, ◌≤◌, length, map, drop}
use Rattle.isp_wasm_binary.specs.Binary.{grouped}
use Rattle.isp_wasm_module.specs.reader.Runs.{runs}
use Rattle.isp_wasm_module.specs.reader.Typed.{typed, group_of}
use Rattle.isp_wasm_module.proofs.groups.grouped.Given as goal

-- the groups so far, the one at hand, and those of the other types
abbrev pub invariant-loop-kind : goal.invariant-loop-kind
invariant-loop-kind l = record {
  few : l.group.count ≤ l.kind-index + 1;
  long : length l.groups.items ≤ l.kind-index;
  same : map group_of l.groups.items ++ runs l.group.count (typed l.group.kind) (map typed (drop l.kind-index l.rest)) ≡ grouped (map typed l.types);
}

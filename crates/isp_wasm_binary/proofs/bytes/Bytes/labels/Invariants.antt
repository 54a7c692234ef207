use Rattle.std.proofs.Common.{◌≡◌, ◌++◌, ◌-◌}
use Rattle.std.specs.List.{flat_map}
use Rattle.isp_wasm_meaning.specs.Ladder.{counting}
use Rattle.isp_wasm_binary.specs.Numbers.{u32}
use Rattle.isp_wasm_binary.proofs.bytes.Bytes.labels.Given as goal

-- what is written, and what the rest will add
abbrev pub invariant-loop-label : goal.invariant-loop-label
invariant-loop-label l = l.self ++ flat_map u32 (counting (l.count - l.label) l.label) ≡ l.initial.self ++ flat_map u32 (counting l.count 0)

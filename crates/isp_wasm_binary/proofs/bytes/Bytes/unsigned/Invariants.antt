use Rattle.std.proofs.Common.{◌≡◌, ◌++◌}
use Rattle.isp_wasm_binary.specs.Numbers.{u32}
use Rattle.isp_wasm_binary.proofs.bytes.Bytes.unsigned.Given as goal

-- what is written, and what the rest will add
abbrev pub invariant-loop-rest : goal.invariant-loop-rest
invariant-loop-rest l = l.self ++ u32 l.rest ≡ l.initial.self ++ u32 l.number

abbrev pub decreases-loop-rest : goal.decreases-loop-rest
decreases-loop-rest l = l.rest

use Rattle.std.proofs.Common.{◌≡◌, ◌++◌, ◌≤◌}
use Rattle.isp_wasm_binary.specs.Numbers.{signed_groups}
use Rattle.isp_wasm_binary.proofs.Numbers.{Within}
use Rattle.isp_wasm_binary.proofs.bytes.Bytes.signed.Given as goal

-- what is written, and what the rest will add
abbrev pub invariant-loop-self : goal.invariant-loop-self
invariant-loop-self l = record {
  written : l.self ++ signed_groups 9 l.bits l.rest ≡ l.initial.self ++ signed_groups 9 l.width l.number;
  within : Within 9 l.bits l.rest;
  few : l.bits ≤ 64;
}

abbrev pub decreases-loop-self : goal.decreases-loop-self
decreases-loop-self l = l.bits

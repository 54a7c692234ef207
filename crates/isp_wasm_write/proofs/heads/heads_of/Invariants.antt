use Rattle.std.proofs.Common.{◌≡◌, ◌++◌, ◌-◌, ◌≤◌, length}
use Rattle.isp_wasm.specs.Module.{heads_from, heads_of}
use Rattle.isp_wasm_write.proofs.heads.heads_of.Given as goal

-- the heads so far, and those among the other instructions
abbrev pub invariant-loop-number : goal.invariant-loop-number
invariant-loop-number l = record {
  few : length l.heads.items ≤ l.number;
  same : l.heads.items ++ heads_from l.code (length l.code - l.number) l.number ≡ heads_of l.code;
}

use Rattle.std.proofs.Common.{◌≡◌, ◌+◌, ◌≤◌, length, drop}
use Rattle.isp_wasm_binary.specs.Binary as binary
use Rattle.isp_wasm_module.specs.reader.Pieces.{module_for}
use Rattle.isp_wasm_module.proofs.exports.count.Given as goal

-- those so far, and the others
abbrev pub invariant-loop-number : goal.invariant-loop-number
invariant-loop-number l = record {
  few : l.count ≤ l.number;
  same : l.count + length (binary.names l.number (drop l.number (module_for l.source).functions)) ≡ length (binary.names 0 (module_for l.source).functions);
}

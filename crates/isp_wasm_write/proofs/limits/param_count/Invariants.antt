use Rattle.std.proofs.Common.{◌≡◌, ◌+◌, ◌*◌, ◌≤◌, length, drop}
use Rattle.isp_wasm_write.specs.reader.Given.{given_from}
use Rattle.isp_wasm_write.proofs.limits.param_count.Given as goal

-- the locals so far, and those of the other parameters
abbrev pub invariant-loop-param : goal.invariant-loop-param
invariant-loop-param l = record {
  few : l.count ≤ 16 * l.param-index;
  same : l.count + length (given_from l.caller l.lanes (drop l.param-index l.params) 0 0 0) ≡ length (given_from l.caller l.lanes l.params 0 0 0);
}

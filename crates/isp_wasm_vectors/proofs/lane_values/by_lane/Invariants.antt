use Rattle.std.proofs.Common.{◌≡◌, ◌++◌}
use Rattle.isp_wasm_binary.specs.Instructions.{expr_bytes}
use Rattle.isp_wasm_write.specs.Settings.{setting}
use Rattle.isp_wasm_vectors.specs.reader.Vectors.{laned_to}
use Rattle.isp_wasm_vectors.proofs.lane_values.by_lane.Given as goal

-- the lanes so far
abbrev pub invariant-loop-number : goal.invariant-loop-number
invariant-loop-number l = l.out ≡ l.fn.out ++ expr_bytes (laned_to (setting l.kernel) l.result_to l.instr l.first l.number)

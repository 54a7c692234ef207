use Rattle.std.proofs.Common.{◌≡◌, ◌++◌}
use Rattle.isp_wasm.specs.Templates.{each}
use Rattle.isp_wasm_binary.specs.Instructions.{code_bytes}
use Rattle.isp_wasm_write.specs.Settings.{setting}
use Rattle.isp_wasm_vectors.specs.reader.Shifts.{worked_part}
use Rattle.isp_wasm_vectors.proofs.shifts.worked_out.Given as goal

-- the parts so far
abbrev pub invariant-loop-part : goal.invariant-loop-part
invariant-loop-part l = l.out ≡ l.initial.out ++ code_bytes (each l.part (worked_part (setting l.kernel) l.shift))

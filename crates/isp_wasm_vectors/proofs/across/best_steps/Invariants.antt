use Rattle.std.proofs.Common.{◌≡◌, ◌++◌}
use Rattle.isp_wasm.specs.Templates.{each}
use Rattle.isp_wasm_binary.specs.Instructions.{code_bytes}
use Rattle.isp_wasm_write.specs.Settings.{setting}
use Rattle.isp_wasm_vectors.specs.reader.Across.{best_step}
use Rattle.isp_wasm_vectors.proofs.across.best_steps.Given as goal

-- the lanes so far
abbrev pub invariant-loop-number : goal.invariant-loop-number
invariant-loop-number l = l.out ≡ l.initial.out ++ code_bytes (each l.number (best_step (setting l.kernel) l.best))

use Rattle.std.proofs.Common.{◌≡◌, ◌++◌}
use Rattle.isp_wasm.specs.Templates.{rank_expr}
use Rattle.isp_wasm_binary.specs.Instructions.{expr_bytes}
use Rattle.isp_wasm_write.specs.Settings.{setting}
use Rattle.isp_wasm_vectors.proofs.loops.rank.Given as goal

-- the lanes so far
abbrev pub invariant-loop-below : goal.invariant-loop-below
invariant-loop-below l = l.out ≡ l.fn.out ++ expr_bytes (rank_expr (setting l.kernel) l.mask l.below)

use Rattle.std.proofs.Common.{◌≡◌, ◌++◌}
use Rattle.isp_wasm_binary.specs.Instructions.{expr_bytes}
use Rattle.isp_wasm_write.specs.Settings.{setting}
use Rattle.isp_wasm_vectors.specs.reader.Across.{fold_expr}
use Rattle.isp_wasm_vectors.proofs.folds.folded.Given as goal

-- the lanes so far
abbrev pub invariant-loop-number : goal.invariant-loop-number
invariant-loop-number l = l.out ≡ l.fn.out ++ expr_bytes (fold_expr (setting l.kernel) l.fold l.number)

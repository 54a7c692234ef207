use Rattle.isp_wasm_vectors.proofs.folds.+first_value.Given as goal

abbrev pub decreases-first_value : goal.decreases-first_value
decreases-first_value l = l.left

use Rattle.isp_wasm_vectors.proofs.picks.+picked.Given as goal

abbrev pub decreases-picked : goal.decreases-picked
decreases-picked l = l.count

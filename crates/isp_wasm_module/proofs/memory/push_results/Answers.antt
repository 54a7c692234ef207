use Rattle.isp_wasm_module.proofs.Memories.{result_step}
use Rattle.isp_wasm_module.proofs.memory.push_results.Goals as goal

pub loop-part-preserved : goal.loop-part-preserved
loop-part-preserved c = result_step c.loop-part.part _ _ _ _ _ c.in_ok-all.ensures c.in_ok-write.ensures c.in_ok-end.ensures c.loop-part.invariant

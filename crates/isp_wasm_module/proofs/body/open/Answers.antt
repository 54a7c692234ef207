use Rattle.isp_wasm_module.proofs.Rungs.{block_step}
use Rattle.isp_wasm_module.proofs.body.open.Goals as goal

pub loop-rung-preserved : goal.loop-rung-preserved
loop-rung-preserved c = block_step c.loop-rung.rung _ _ _ c.in_ok-block.ensures c.loop-rung.invariant

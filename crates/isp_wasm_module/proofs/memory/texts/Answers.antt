use Rattle.isp_wasm_module.proofs.Memories.{text_step}
use Rattle.isp_wasm_module.proofs.memory.texts.Goals as goal

pub loop-number-preserved : goal.loop-number-preserved
loop-number-preserved c = text_step c.args.code.now.texts c.loop-number.number _ _ _ _ c.text.ensures c.in_ok-all.ensures c.loop-number.invariant

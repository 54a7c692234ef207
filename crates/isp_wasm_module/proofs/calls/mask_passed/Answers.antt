use Rattle.isp_wasm.specs.Templates.{mask_local}
use Rattle.isp_wasm_write.specs.Settings.{setting}
use Rattle.isp_wasm_module.proofs.Lists.{listed_step}
use Rattle.isp_wasm_module.proofs.calls.mask_passed.Goals as goal

pub loop-part-preserved : goal.loop-part-preserved
loop-part-preserved c =
    listed_step (setting c.args.kernel.now) c.loop-part.part (mask_local (setting c.args.kernel.now) c.args.mask) _ _ _ c.in_ok-get.ensures c.loop-part.invariant

use Rattle.isp_wasm.specs.Templates.{part_under}
use Rattle.isp_wasm_write.specs.Settings.{setting}
use Rattle.isp_wasm_module.proofs.Lists.{listed_step}
use Rattle.isp_wasm_module.proofs.calls.parts_passed.Goals as goal

pub loop-part-preserved : goal.loop-part-preserved
loop-part-preserved c =
    listed_step (setting c.args.kernel.now) c.loop-part.part (part_under (setting c.args.kernel.now) c.args.mask c.args.vector) _ _ _ c.in_ok-part_passed.ensures c.loop-part.invariant

use Rattle.isp_wasm_write.specs.Settings.{setting}
use Rattle.isp_wasm_module.proofs.Lists.{item_step}
use Rattle.isp_wasm_module.proofs.prints.print_lanes.Goals as goal

pub loop-number-preserved : goal.loop-number-preserved
loop-number-preserved c =
    item_step (setting c.args.kernel.now) c.args.pair.0 c.args.pair.1 c.loop-number.number _ _ _ _ c.in_ok-print_comma.ensures c.in_ok-print_lane.ensures c.loop-number.invariant

use Rattle.isp_wasm_write.specs.Settings.{setting}
use Rattle.isp_wasm_module.proofs.Lists.{arguments_chain}
use Rattle.isp_wasm_module.proofs.calls.arguments.Goals as goal

pub returns : goal.returns
returns c =
    arguments_chain (setting c.args.kernel.now) c.args.call.now _ _ _ _ _ _ c.in_ok-depth_passed.ensures c.in_ok-mask_passed.ensures c.mask_parts.ensures.is
    c.in_ok-all_passed.ensures c.as_slice.ensures

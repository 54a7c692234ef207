use Rattle.isp_wasm_write.specs.Settings.{setting}
use Rattle.isp_wasm_module.proofs.Lists.{call_chain}
use Rattle.isp_wasm_module.proofs.calls.call_line.Goals as goal

pub returns : goal.returns
returns c =
    call_chain (setting c.args.kernel.now) c.args.call.now _ _ _ _ _ _ _ c.in_ok-number.ensures c.in_ok-checked.ensures c.in_ok-arguments.ensures c.in_ok-call.ensures
    c.in_ok-scalar_taken.ensures c.in_ok-lanes_taken.ensures

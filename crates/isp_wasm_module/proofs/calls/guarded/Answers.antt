use Rattle.isp_wasm_write.specs.Settings.{setting}
use Rattle.isp_wasm_module.proofs.Lists.{guarded_chain}
use Rattle.isp_wasm_module.proofs.calls.guarded.Goals as goal

pub returns : goal.returns
returns c =
    guarded_chain (setting c.args.kernel.now) c.args.mask c.args.span.0 c.args.span.1 _ _ _ _ _ _ _ _ c.in_ok-get.ensures c.in_ok-const32.ensures c.in_ok-binary.ensures
    c.in_ok-begin_if.ensures c.in_ok-begin_else.ensures c.in_ok-fault_of_lowest.ensures c.in_ok-end.ensures

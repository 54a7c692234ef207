use Rattle.isp_wasm_write.specs.Settings.{setting}
use Rattle.isp_wasm_module.proofs.Rungs.{ladder_chain}
use Rattle.isp_wasm_module.proofs.body.ladder.Goals as goal

pub returns : goal.returns
returns c =
    ladder_chain (setting c.args.kernel.now) _ _ _ _ _ _ _ c.rungs-rungs.result c.rungs-rungs.ensures c.in_ok-begin_loop.ensures c.in_ok-open.ensures
    c.in_ok-dispatch_line.ensures c.in_ok-close.ensures c.in_ok-end.ensures c.in_ok-unreachable.ensures

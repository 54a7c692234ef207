use Rattle.isp_wasm_module.proofs.Memories.{globals_chain}
use Rattle.isp_wasm_module.proofs.memory.push_globals.Goals as goal

pub returns : goal.returns
returns c =
    globals_chain c.args.length _ _ _ _ _ _ _ _ c.in_ok-all.ensures c.in_ok-const32.ensures c.in_ok-end.ensures c.in_ok-push_results.ensures
    c.in_ok-all-2.ensures c.in_ok-const32-2.ensures c.in_ok-end-2.ensures

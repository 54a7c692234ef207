use Rattle.isp_wasm_module.proofs.Memories.{data_chain}
use Rattle.isp_wasm_module.proofs.memory.push_piece.Goals as goal

pub returns : goal.returns
returns c = data_chain c.args.memory.now _ _ _ _ _ c.requires c.in_ok-all.ensures c.in_ok-const32.ensures c.in_ok-end.ensures c.in_ok-push_sized.ensures

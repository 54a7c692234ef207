use Rattle.isp_wasm_module.proofs.Memories.{pages_chain}
use Rattle.isp_wasm_module.proofs.memory.push_pages.Goals as goal

pub returns : goal.returns
returns c = pages_chain _ _ _ _ c.in_ok-all.ensures c.in_ok-unsigned.ensures

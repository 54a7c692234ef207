use Rattle.isp_wasm_module.proofs.Vectors.{one_chain}
use Rattle.isp_wasm_module.proofs.types.push_one.Goals as goal

pub returns : goal.returns
returns c = one_chain c.args.elem _ _ _ _ c.in_ok-byte.ensures c.in_ok-push_type.ensures c.of_elem.ensures

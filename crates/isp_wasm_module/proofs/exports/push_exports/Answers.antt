use Rattle.isp_wasm_module.specs.reader.Pieces.{module_for}
use Rattle.isp_wasm_module.proofs.Exported.{exports_chain}
use Rattle.isp_wasm_module.proofs.exports.push_exports.Goals as goal

pub returns : goal.returns
returns c =
    exports_chain (module_for c.args.source) _ _ _ _ _ _ c.in_ok-number_and.ensures c.count.ensures.is c.in_ok-unsigned.ensures c.in_ok-all.ensures c.in_ok-push_functions.ensures

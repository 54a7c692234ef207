use Rattle.isp_forms.specs.Tables.{lists_of}
use Rattle.isp_wasm_module.proofs.Contents.{types_chain}
use Rattle.isp_wasm_module.proofs.sections.types.Goals as goal

pub returns : goal.returns
returns c = types_chain c.args.source.code.now (lists_of c.args.source.forms.now) _ _ _ _ _ c.new-out.ensures c.in_ok-functions_and.ensures c.in_ok-unsigned.ensures c.in_ok-all.ensures c.in_ok-push_types.ensures

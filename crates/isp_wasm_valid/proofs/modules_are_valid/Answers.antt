use Rattle.isp_wasm_valid.proofs.Valid.{modules_valid}
use Rattle.isp_wasm_valid.proofs.modules_are_valid.Goals as goal

pub returns : goal.returns
returns c = modules_valid c.modules_valid.ensures c.accepted_code_is_fine.ensures

use Rattle.isp_wasm.proofs.ValidModules.{modules_valid}
use Rattle.isp_wasm.proofs.modules_valid.Goals as goal

pub returns : goal.returns
returns c = modules_valid

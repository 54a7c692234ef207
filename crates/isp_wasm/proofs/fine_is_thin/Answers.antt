use Rattle.isp_wasm.proofs.Operands.{fine_is_thin}
use Rattle.isp_wasm.proofs.fine_is_thin.Goals as goal

pub returns : goal.returns
returns c = fine_is_thin

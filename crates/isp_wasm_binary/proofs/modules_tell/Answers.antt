use Rattle.isp_wasm_binary.proofs.Tell as laws
use Rattle.isp_wasm_binary.proofs.modules_tell.Goals as goal

pub returns : goal.returns
returns c = laws.modules_tell

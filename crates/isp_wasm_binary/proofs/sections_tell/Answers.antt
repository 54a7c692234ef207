use Rattle.isp_wasm_binary.proofs.Unique as laws
use Rattle.isp_wasm_binary.proofs.sections_tell.Goals as goal

pub returns : goal.returns
returns c = laws.sections_tell

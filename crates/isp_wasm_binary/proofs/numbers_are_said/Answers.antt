use Rattle.isp_wasm_binary.proofs.Leb as laws
use Rattle.isp_wasm_binary.proofs.numbers_are_said.Goals as goal

pub returns : goal.returns
returns c = laws.numbers_are_said

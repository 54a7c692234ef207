use Rattle.isp_wasm.proofs.Entries.{entries_agree}
use Rattle.isp_wasm.proofs.entries_agree.Goals as goal

pub returns : goal.returns
returns c = entries_agree

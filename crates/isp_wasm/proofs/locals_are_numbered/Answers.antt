use Rattle.isp_wasm.proofs.Numbered.{locals_are_numbered}
use Rattle.isp_wasm.proofs.locals_are_numbered.Goals as goal

pub returns : goal.returns
returns c = locals_are_numbered

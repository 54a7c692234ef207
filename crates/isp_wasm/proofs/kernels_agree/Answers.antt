use Rattle.isp_wasm.proofs.Kernels.{kernels_agree}
use Rattle.isp_wasm.proofs.kernels_agree.Goals as goal

pub returns : goal.returns
returns c = kernels_agree

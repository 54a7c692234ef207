use Rattle.isp_verify.proofs.AcceptedLaws.{accepted_fine}
use Rattle.isp_verify.proofs.laws.accepted_code_is_fine.Goals as goal

pub returns : goal.returns
returns c = accepted_fine

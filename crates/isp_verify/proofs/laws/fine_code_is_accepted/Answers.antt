use Rattle.isp_verify.proofs.AcceptedLaws.{fine_accepted}
use Rattle.isp_verify.proofs.laws.fine_code_is_accepted.Goals as goal

pub returns : goal.returns
returns c = fine_accepted

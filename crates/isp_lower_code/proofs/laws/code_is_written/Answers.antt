use Rattle.isp_lower_code.proofs.WritableCode.{code_is_written}
use Rattle.isp_lower_code.proofs.laws.code_is_written.Goals as goal

pub returns : goal.returns
returns c = code_is_written

use Rattle.isp_meaning_laws.proofs.Worked.{work_of_if}
use Rattle.isp_meaning_laws.proofs.works.work_of_if.Goals as goal

pub returns : goal.returns
returns c = work_of_if

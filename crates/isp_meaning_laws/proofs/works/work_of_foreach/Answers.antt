use Rattle.isp_meaning_laws.proofs.Worked.{work_of_foreach}
use Rattle.isp_meaning_laws.proofs.works.work_of_foreach.Goals as goal

pub returns : goal.returns
returns c = work_of_foreach

use Rattle.isp_meaning_laws.proofs.Worked.{work_of_loops}
use Rattle.isp_meaning_laws.proofs.works.work_of_loops.Goals as goal

pub returns : goal.returns
returns c = work_of_loops

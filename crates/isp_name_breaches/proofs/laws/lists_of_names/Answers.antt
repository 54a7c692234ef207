use Rattle.isp_name_breaches.proofs.Programs.{program_lists}
use Rattle.isp_name_breaches.proofs.laws.lists_of_names.Goals as goal

pub returns : goal.returns
returns c = λ gang fs f. ((program_lists gang fs).told f, (program_lists gang fs).all f)

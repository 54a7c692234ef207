use Rattle.isp_base.proofs.Gangs.{some_width, few_width, someone}
use Rattle.isp_base.proofs.types.gang_laws.Goals as goal

pub returns-clause-some : goal.returns-clause-some
returns-clause-some c = some_width

pub returns-clause-few : goal.returns-clause-few
returns-clause-few c = few_width

pub returns-clause-someone : goal.returns-clause-someone
returns-clause-someone c = someone

use Rattle.isp_base.proofs.RankLaws.{common_one, common_late}
use Rattle.isp_base.proofs.types.common_laws.Goals as goal

pub returns-clause-one : goal.returns-clause-one
returns-clause-one c = common_one

pub returns-clause-late : goal.returns-clause-late
returns-clause-late c = common_late

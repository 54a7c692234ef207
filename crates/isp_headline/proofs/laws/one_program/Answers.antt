use Rattle.isp_headline.proofs.Accepted.{none_refused}
use Rattle.isp_headline.proofs.Programs.{one_program}
use Rattle.isp_headline.proofs.laws.one_program.Goals as goal

pub returns-clause-one : goal.returns-clause-one
returns-clause-one c = one_program

pub returns-clause-accepted : goal.returns-clause-accepted
returns-clause-accepted c = none_refused

use Rattle.isp_cross.proofs.CrossLaws.{least_is, greatest_is, rotated_back, shifted_inside}
use Rattle.isp_cross.proofs.laws.cross_laws.Goals as goal

pub returns-clause-least : goal.returns-clause-least
returns-clause-least c = least_is

pub returns-clause-greatest : goal.returns-clause-greatest
returns-clause-greatest c = greatest_is

pub returns-clause-back : goal.returns-clause-back
returns-clause-back c = rotated_back

pub returns-clause-inside : goal.returns-clause-inside
returns-clause-inside c = shifted_inside

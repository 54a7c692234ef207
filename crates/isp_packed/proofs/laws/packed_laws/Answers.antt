use Rattle.isp_packed.proofs.Back.{packed_back}
use Rattle.isp_packed.proofs.Only.{packed_only}
use Rattle.isp_packed.proofs.Place.{answer_in_place}
use Rattle.isp_packed.proofs.laws.packed_laws.Goals as goal

pub returns-clause-back : goal.returns-clause-back
returns-clause-back c = packed_back

pub returns-clause-only : goal.returns-clause-only
returns-clause-only c = packed_only

pub returns-clause-in_place : goal.returns-clause-in_place
returns-clause-in_place c = answer_in_place
